-- The tokens of a source that are read up to a place, which end where others do after them.
use Rattle.std.proofs.Common.{◌≡◌, ℕ, suc, ◌+◌, ◌-◌, ◌≤◌, Bool, true, false, cond, refl, sym, ap, subst, ◌∙◌, List, [], ◌∷◌, ◌++◌, append_assoc, append-nil, drop, length, length-append, length-drop, arith}
use Rattle.std.proofs.lemmas.Bool.{true≢false}
use Rattle.grammar.specs.Tokens.{Token}
use Rattle.wgsl_model_tidy.specs.Roles.{Role, opening, template_start, block_start, opens, closes, ends_item}
use Rattle.wgsl_model_tidy.specs.Open.{together, LayoutState, after_token}
use Rattle.wgsl_model_tidy.specs.Ahead.{Ahead}
use Rattle.wgsl_lexer.specs.TextTokens.{tokens_left}
use Rattle.wgsl_format_layout.specs.declared.role.Role as code
use Rattle.wgsl_format_layout.specs.declared.marks.Mark.{Mark}
use Rattle.wgsl_format_layout.specs.declared.marks.MarkedToken.{MarkedToken}
use Rattle.wgsl_format_layout.specs.declared.marks.Marks.{Marks}
use Rattle.wgsl_format_layout.specs.View.{role_view}
use Rattle.wgsl_format_layout.specs.Contexts.{IsContext}
use Rattle.wgsl_format_layout.specs.Marks.{level_after, inside, AreAhead}
use Rattle.wgsl_format_layout.specs.Closing.{AreBelow, with_first_close, open_after, first_or, with_closes}
use Rattle.wgsl_format_layout.specs.Reads.{IsRead, AreRead}
use Rattle.wgsl_format_layout.specs.Windows.{ends_at, AreClosed}
use Rattle.wgsl_format_layout.specs.Reading.{ahead_left, last_end, ReadsToken, HasToken, HasRead}
use Rattle.wgsl_format_layout.specs.SoFar.{AreClosers, AreFrom, IsWhole, GoesOn, SoFar, HasStopped}
use Rattle.wgsl_format_layout.proofs.AheadOrder.{level_next}
use Rattle.wgsl_format_layout.proofs.Closes.{length_after, closes_other, closes_opened, closes_closed}
use Rattle.wgsl_format_layout.proofs.Closers.{none_close, close_opened, close_other, close_closed, inside_opened, inside_none}
use Rattle.wgsl_format_layout.proofs.Lowest.{from_more, ends_last}

whole_as : (first : Marks) (before : LayoutState) (ms ns : List MarkedToken) (ts us : List Ahead) (to : ℕ)
    (after : LayoutState) (left : List Token) (last end : Mark) → ms ≡ ns → ts ≡ us → last ≡ end
    → IsWhole first before ms ts to after left last → IsWhole first before ns us to after left end
whole_as first before ms ns ts us to after left last end e f g h =
    let one = subst (λ xs. IsWhole first before xs ts to after left last) e h in
    let two = subst (λ xs. IsWhole first before ns xs to after left last) f one in
    subst (λ (k : Mark). IsWhole first before ns us to after left k) g two

-- ---- none

pub none_so_far : (first now : Marks) (before : LayoutState)
    → now ≡ record first { tokens = now.tokens; places = now.places } → now.tokens.items ≡ [] → now.places ≡ []
    → IsContext first.context before → SoFar first before now
none_so_far first now before e none idle h = record {
  state = before;
  near = [];
  source = ap (λ (m : Marks). m.source.now) e;
  layout = ap (λ (m : Marks). m.layout) e;
  context = subst (λ c. IsContext c before) (sym (ap (λ (m : Marks). m.context) e)) h;
  ahead = sym (ap (λ (m : Marks). ahead_left m before) e);
  deep = subst (λ is. length is ≤ length before.opened) (sym idle) (omega arith);
  from = tt;
  goes_on = λ end closes ms ts to after left a b c.
      let size : length now.tokens.items ≡ 0 = ap length none in
      let empty : with_closes end now.tokens.items now.places closes ≡ [] =
      ap (λ xs. with_closes end xs now.places closes) none ∙ ap (λ is. with_closes end [] is closes) idle in
      let there : now.end ≡ first.end = ap (λ (m : Marks). m.end) e in
      let ahead = subst (λ (k : Mark). AreAhead k 0 ms ts) there
      (subst (λ n. AreAhead now.end n ms ts) size b) in
      let read : AreRead first.source.now first.byte before (tokens_left first.left) ms to after left =
      subst (λ (m : Marks). AreRead first.source.now m.byte before (tokens_left m.left) ms to after left) e c in
      whole_as first before ms _ ts ts to after left (last_end first.end ms) _
      (ap (λ xs. xs ++ ms) (sym empty)) refl (ap (λ (k : Mark). last_end k ms) (sym there)) (ahead, read, refl);
}

-- ---- one more

step : (first : Marks) (before : LayoutState) (now new : Marks) (role : code.Role) (h : HasToken now role new)
    (s : SoFar first before now) (r : ReadsToken now s.state h.token h.m new) (end : ℕ) (closes others : List ℕ)
    (ms : List MarkedToken) (ts : List Ahead) (to : ℕ) (after : LayoutState) (left : List Token) (close : ℕ)
    → AreClosers end (length s.state.opened) (length now.tokens.items) (r.near ∷ ts) others
    → close ≡ length now.tokens.items + inside r.near ts
    → AreAhead new.end (suc (length now.tokens.items)) ms ts
    → AreRead first.source.now new.byte (after_token s.state 0 h.token.class (role_view h.m.role) together)
    (tokens_left new.left) ms to after left
    → with_closes end new.tokens.items new.places closes
    ≡ with_closes end now.tokens.items now.places others ++ (record h.m { close = close } ∷ [])
    → IsWhole first before (with_closes end new.tokens.items new.places closes ++ ms)
    ((s.near ++ (r.near ∷ [])) ++ ts) to after left (last_end new.end ms)
step first before now new role h s r end closes others ms ts to after left close a e b c same =
    let place = length now.tokens.items in
    let m : MarkedToken = record h.m { close = close } in
    let read = subst (λ src. IsRead src now.byte s.state h.token (tokens_left new.left) m) s.source (r.read close) in
    let others_read = subst (λ k. AreRead first.source.now k
    (after_token s.state 0 h.token.class (role_view h.m.role) together) (tokens_left new.left) ms to after left)
    h.byte c in
    let all_read : AreRead first.source.now now.byte s.state (tokens_left now.left) (m ∷ ms) to after left =
    subst (λ xs. AreRead first.source.now now.byte s.state xs (m ∷ ms) to after left) (sym h.whole)
    (read, others_read) in
    let others_ahead = subst (λ (k : Mark). AreAhead k (suc place) ms ts) h.end b in
    let old = with_closes end now.tokens.items now.places others in
    whole_as first before (old ++ (m ∷ ms)) _ (s.near ++ (r.near ∷ ts)) _ to after left (last_end h.m.end ms) _
    (sym (append_assoc old (m ∷ []) ms) ∙ ap (λ xs. xs ++ ms) (sym same))
    (sym (append_assoc s.near (r.near ∷ []) ts)) (ap (λ (k : Mark). last_end k ms) (sym h.end))
    (s.goes_on end others (m ∷ ms) (r.near ∷ ts) to after left a (r.is place close ts e, others_ahead) all_read)

-- how many are open after it, and at how many places
record Counts (now new : Marks) (before after : LayoutState) : Type 0 where
  deep : length new.places ≤ length after.opened
  from : length after.opened - length new.places ≤ length before.opened - length now.places
  within : length after.opened - length new.places ≤ length before.opened

counted : (now new : Marks) (before after : LayoutState) (right : Role) → length now.places ≤ length before.opened
    → length after.opened ≡ level_after (length before.opened) right
    → new.places ≡ open_after right (length now.tokens.items) now.places → Counts now new before after
counted now new before after right l e f = go (opens right) (closes right) e f
  where
    place : ℕ
    place = length now.tokens.items

    n : ℕ
    n = length before.opened

    go : (o c : Bool) → length after.opened ≡ cond o (suc n) (cond c (n - 1) n)
        → new.places ≡ cond o (place ∷ now.places) (cond c (drop 1 now.places) now.places)
        → Counts now new before after
    go true c e f =
        let k : length new.places ≡ suc (length now.places) = ap length f in
        record { deep = omega (arith, e, k, l); from = omega (arith, e, k, l); within = omega (arith, e, k, l) }
    go false true e f =
        let k : length new.places ≡ length now.places - 1 = ap length f ∙ length-drop 1 now.places in
        record { deep = omega (arith, e, k, l); from = omega (arith, e, k, l); within = omega (arith, e, k, l) }
    go false false e f =
        let k : length new.places ≡ length now.places = ap length f in
        record { deep = omega (arith, e, k, l); from = omega (arith, e, k, l); within = omega (arith, e, k, l) }

pub length_more : (now new : Marks) (role : code.Role) → HasToken now role new
    → length new.tokens.items ≡ suc (length now.tokens.items)
length_more now new role h =
    let one : length now.tokens.items + 1 ≡ suc (length now.tokens.items) = omega arith in
    ap length h.tokens
    ∙ length_after (role_view role) (length now.tokens.items) (now.tokens.items ++ (h.m ∷ [])) now.places
    ∙ length-append now.tokens.items (h.m ∷ []) ∙ one

-- what opens something closes nothing
opens_only : (right : Role) → opens right ≡ true → closes right ≡ false
opens_only opening h = refl
opens_only template_start h = refl
opens_only block_start h = refl
opens_only right h = absurd (true≢false (sym h))

more_goes_on : (first : Marks) (before : LayoutState) (now new : Marks) (role : code.Role)
    → AreBelow (length now.tokens.items) now.places → (h : HasToken now role new) (s : SoFar first before now)
    → (r : ReadsToken now s.state h.token h.m new)
    → GoesOn first before new (after_token s.state 0 h.token.class (role_view h.m.role) together)
    (s.near ++ (r.near ∷ []))
more_goes_on first before now new role below h s r end cs ms ts to after left a b c =
    go (opens right) (closes right) refl refl
    (subst (λ k. AreClosers end k (suc place) ts cs) level
    (subst (λ k. AreClosers end (length next.opened) k ts cs) size a))
    h.tokens h.places
  where
    right : Role
    right = role_view role

    place : ℕ
    place = length now.tokens.items

    n : ℕ
    n = length s.state.opened

    does : r.near.role ≡ right
    does = r.role ∙ ap role_view h.does

    size : length new.tokens.items ≡ suc place
    size = length_more now new role h

    next : LayoutState
    next = after_token s.state 0 h.token.class (role_view h.m.role) together

    level : length next.opened ≡ level_after n right
    level = level_next s.state h.token.class (role_view h.m.role)
        ∙ ap (λ (d : code.Role). level_after n (role_view d)) h.does

    kept : h.m ≡ record h.m { close = place }
    kept = ap (λ k. record h.m { close = k }) h.close

    ahead : AreAhead new.end (suc place) ms ts
    ahead = subst (λ k. AreAhead new.end k ms ts) size b

    added : List MarkedToken
    added = now.tokens.items ++ (h.m ∷ [])

    go : (o c : Bool) → opens right ≡ o → closes right ≡ c
        → AreClosers end (cond o (suc n) (cond c (n - 1) n)) (suc place) ts cs
        → new.tokens.items ≡ cond o added (cond c (with_first_close added now.places place) added)
        → new.places ≡ cond o (place ∷ now.places) (cond c (drop 1 now.places) now.places)
        → IsWhole first before (with_closes end new.tokens.items new.places cs ++ ms)
        ((s.near ++ (r.near ∷ [])) ++ ts) to after left (last_end new.end ms)
    go true d o k a e f =
        let opened = ap opens does ∙ o in
        step first before now new role h s r end cs (drop 1 cs) ms ts to after left (first_or end cs)
        (close_opened end n place r.near ts cs (ap closes does ∙ opens_only right o) a)
        (inside_opened end n place r.near ts cs r.level opened a) ahead c
        (ap (λ xs. with_closes end xs new.places cs) e ∙ ap (λ is. with_closes end added is cs) f
        ∙ closes_opened end now.tokens.items h.m now.places cs below)
    go false true o k a e f =
        step first before now new role h s r end cs (place ∷ cs) ms ts to after left place
        (close_closed end n place r.near ts cs r.level (ap closes does ∙ k) a)
        (inside_none place r.near ts (ap opens does ∙ o)) ahead c
        (ap (λ xs. with_closes end xs new.places cs) e
        ∙ ap (λ is. with_closes end (with_first_close added now.places place) is cs) f
        ∙ closes_closed end now.tokens.items h.m now.places cs place below
        ∙ ap (λ (x : MarkedToken). with_closes end now.tokens.items now.places (place ∷ cs) ++ (x ∷ [])) kept)
    go false false o k a e f =
        step first before now new role h s r end cs cs ms ts to after left place
        (close_other end n place r.near ts cs (ap closes does ∙ k) a)
        (inside_none place r.near ts (ap opens does ∙ o)) ahead c
        (ap (λ xs. with_closes end xs new.places cs) e ∙ ap (λ is. with_closes end added is cs) f
        ∙ closes_other end now.tokens.items h.m now.places cs below
        ∙ ap (λ (x : MarkedToken). with_closes end now.tokens.items now.places cs ++ (x ∷ [])) kept)

pub more_so_far : (first : Marks) (before : LayoutState) (now new : Marks) (role : code.Role)
    → AreBelow (length now.tokens.items) now.places → HasToken now role new
    → SoFar first before now → SoFar first before new
more_so_far first before now new role below h s =
    let r = h.reads s.state s.context in
    let after = after_token s.state 0 h.token.class (role_view h.m.role) together in
    let level : length after.opened ≡ level_after (length s.state.opened) (role_view role) =
    level_next s.state h.token.class (role_view h.m.role)
    ∙ ap (λ (d : code.Role). level_after (length s.state.opened) (role_view d)) h.does in
    let count = counted now new s.state after (role_view role) s.deep level h.places in
    let here : length after.opened - length new.places ≤ r.near.level = omega (arith, count.within, r.level) in
    record {
      state = after;
      near = s.near ++ (r.near ∷ []);
      source = h.source ∙ s.source;
      layout = h.layout ∙ s.layout;
      context = r.context;
      ahead = s.ahead ∙ ap (λ ts. s.near ++ ts) r.ahead
          ∙ sym (append_assoc s.near (r.near ∷ []) (ahead_left new after));
      deep = count.deep;
      from = from_more _ _ s.near r.near count.from here s.from;
      goes_on = more_goes_on first before now new role below h s r;
    }

-- ---- all

closed_at : (m : ℕ) (ts far : List Ahead) → ends_at m ts ≡ true → AreClosed ts far
closed_at m ts [] h = tt
closed_at m ts (r ∷ rs) h = (m, h)

closed_none : (ts far : List Ahead) → far ≡ [] → AreClosed ts far
closed_none ts far e = subst (AreClosed ts) (sym e) tt

-- an item ends with a token outside of what these tokens open
pub ends_stopped : (first : Marks) (before : LayoutState) (now new : Marks) (role : code.Role)
    → AreBelow (length now.tokens.items) now.places → HasToken now role new → SoFar first before now
    → length now.places ≡ 0 → ends_item (role_view role) ≡ true → HasStopped first before new
unfolding more_so_far
ends_stopped first before now new role below h s none ends =
    let r = h.reads s.state s.context in
    let all : length s.state.opened - length now.places ≡ length s.state.opened = omega (arith, none) in
    let some : length new.tokens.items ≡ suc (length now.tokens.items) = length_more now new role h in
    record {
      so_far = more_so_far first before now new role below h s;
      closed = closed_at (length s.state.opened) (s.near ++ (r.near ∷ [])) _
          (ends_last (length s.state.opened) s.near r.near (subst (λ n. AreFrom n s.near) all s.from) r.level
          (ap ends_item (r.role ∙ ap role_view h.does) ∙ ends));
      none = λ e. absurd (omega (arith, some, ap length e));
    }

-- none is left
pub none_stopped : (first : Marks) (before : LayoutState) (now : Marks) → SoFar first before now
    → ((state : LayoutState) → ahead_left now state ≡ []) → tokens_left now.left ≡ [] → HasStopped first before now
none_stopped first before now s e f =
    record { so_far = s; closed = closed_none s.near _ (e s.state); none = λ i. f }

pub all_read : (first : Marks) (before : LayoutState) (now new : Marks)
    → new ≡ record now { tokens = new.tokens; places = new.places }
    → new.tokens.items ≡ with_closes (length now.tokens.items) now.tokens.items now.places []
    → length new.tokens.items ≡ length now.tokens.items
    → HasStopped first before now → HasRead first before new
all_read first before now new e items size h =
    let s = h.so_far in
    let same : ahead_left now s.state ≡ ahead_left new s.state = sym (ap (λ (m : Marks). ahead_left m s.state) e) in
    let end = length now.tokens.items in
    let whole = s.goes_on end [] [] [] now.byte s.state (tokens_left now.left)
    (none_close end (length s.state.opened) end refl) tt (refl, refl, refl) in
    let there : now.end ≡ new.end = sym (ap (λ (m : Marks). m.end) e) in
    let all = whole_as first before _ new.tokens.items _ s.near now.byte s.state (tokens_left now.left) now.end new.end
    (append-nil (with_closes end now.tokens.items now.places []) ∙ sym items) (append-nil s.near) there whole in
    let left : tokens_left new.left ≡ tokens_left now.left = ap (λ (m : Marks). tokens_left m.left) e in
    record {
      state = s.state;
      near = s.near;
      source = ap (λ (m : Marks). m.source.now) e ∙ s.source;
      layout = ap (λ (m : Marks). m.layout) e ∙ s.layout;
      context = subst (λ c. IsContext c s.state) (sym (ap (λ (m : Marks). m.context) e)) s.context;
      ahead = s.ahead ∙ ap (λ ts. s.near ++ ts) same;
      are = all.0;
      closed = subst (AreClosed s.near) same h.closed;
      end = sym all.2;
      read = subst (λ (m : Marks). AreRead first.source.now first.byte before (tokens_left first.left)
          new.tokens.items m.byte s.state (tokens_left m.left)) (sym e) all.1;
      none = λ i. left ∙ h.none (no_tokens now.tokens.items (sym size ∙ ap length i));
    }
  where
    no_tokens : (ms : List MarkedToken) → length ms ≡ 0 → ms ≡ []
    no_tokens [] z = refl
    no_tokens (m ∷ ms) z = absurd (omega (arith, z))
