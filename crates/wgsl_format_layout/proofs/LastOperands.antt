-- The last operand, and those before it up to the bracket with which it ends.
use Rattle.std.proofs.Common.{◌≡◌, ℕ, zero, suc, ◌+◌, ◌-◌, ◌<◌, ◌&&◌, not, Bool, true, false, refl, sym, ap, ap₂, ◌∙◌, subst, List, [], ◌∷◌, ◌++◌, get_or, take, drop, length, drop-drop, arith}
use Rattle.std.specs.List.{before_first, position_or_len}
use Rattle.std.proofs.lemmas.List.{take-append-drop, length-take-le}
use Rattle.wgsl_model_tidy.specs.Layout.{Layout}
use Rattle.wgsl_model_tidy.specs.Ahead.{Ahead, fits, never, at_front, ends_chain, last_operand, up_to_last, last_passes}
use Rattle.wgsl_model_tidy.specs.LaidOut.{line_column, opens_last}
use Rattle.wgsl_format_layout.specs.declared.marks.Mark.{Mark}
use Rattle.wgsl_format_layout.specs.declared.marks.MarkedToken.{MarkedToken}
use Rattle.wgsl_format_layout.specs.Marks.{AreInOrder, AreAhead, level_after}
use Rattle.wgsl_format_layout.specs.Walks.{Follow, EndsLine}
use Rattle.wgsl_format_layout.proofs.Deeper.{position_at, position_past}
use Rattle.wgsl_format_layout.proofs.Following.{mark_after, ahead_after, stands, count_follow}
use Rattle.wgsl_format_layout.proofs.LineEnds.{line_none, line_more, mark_before}

-- ---- those from a token on

abbrev level_past : ℕ → List Ahead → ℕ
level_past n [] = n
level_past n (t ∷ ts) = level_past (level_after n t.role) ts

order_after : (n : ℕ) (xs ys : List Ahead) → AreInOrder n (xs ++ ys) → AreInOrder (level_past n xs) ys
order_after n [] ys h = h
order_after n (x ∷ xs) ys h = order_after (level_after n x.role) xs ys h.2

pub record From (place : ℕ) (tokens : List MarkedToken) (ts : List Ahead) : Type 0 where
  pub before : Mark
  pub level : ℕ
  pub follow : Follow before place tokens level ts

pub from_at : (before : Mark) (place to : ℕ) (tokens : List MarkedToken) (n : ℕ) (xs ys : List Ahead)
    → Follow before place tokens n (xs ++ ys) → to ≡ place + length xs → From to tokens ys
from_at before place to tokens n xs ys f e =
    let end = mark_after before (drop place tokens) (length xs) in
    let are = ahead_after before place (drop place tokens) xs ys f.are in
    record {
      before = end;
      level = level_past n xs;
      follow = record {
        are = subst (λ (k : ℕ). AreAhead end k (drop k tokens) ys) (sym e)
            (subst (λ ms. AreAhead end (place + length xs) ms ys) (drop-drop (length xs) place tokens) are);
        order = order_after n xs ys f.order;
      };
    }

-- a list with a place in it
record Cut (j : ℕ) (ts : List Ahead) : Type 0 where
  front : List Ahead
  token : Ahead
  after : List Ahead
  is : ts ≡ front ++ (token ∷ after)
  many : length front ≡ j
  taken : take (suc j) ts ≡ front ++ (token ∷ [])
  left : drop j ts ≡ token ∷ after

cut_at : (j : ℕ) (ts : List Ahead) → j < length ts → Cut j ts
cut_at j [] h = absurd (omega arith)
cut_at zero (t ∷ ts) h = record { front = []; token = t; after = ts; is = refl; many = refl; taken = refl; left = refl }
cut_at (suc j) (t ∷ ts) h =
    let c = cut_at j ts (omega arith) in
    record {
      front = t ∷ c.front;
      token = c.token;
      after = c.after;
      is = ap (λ us. t ∷ us) c.is;
      many = ap suc c.many;
      taken = ap (λ us. t ∷ us) c.taken;
      left = c.left;
    }

-- ---- up to the last token

passes_last : (test : Ahead → Bool) (xs : List Ahead) (t : Ahead) → last_passes test (xs ++ (t ∷ [])) ≡ test t
passes_last test [] t = refl
passes_last test (x ∷ []) t = refl
passes_last test (x ∷ (y ∷ xs)) t = passes_last test (y ∷ xs) t

pub line_never : (before : Mark) (place : ℕ) (ms : List MarkedToken) (xs ys : List Ahead)
    → AreAhead before place ms (xs ++ ys)
    → EndsLine never before xs (mark_after before ms (length xs))
line_never before place ms [] ys are = line_none never before
line_never before place [] (x ∷ xs) ys are = absurd are
line_never before place (m ∷ ms) (x ∷ xs) ys are =
    line_more never before m.end (mark_after m.end ms (length xs)) x xs refl are.0.column are.0.breaks
    (line_never m.end (suc place) ms xs ys are.1)

pub record Head (last : ℕ) (tokens : List MarkedToken) (us : List Ahead) : Type 0 where
  pub token : Ahead
  pub after : List Ahead
  pub from : From last tokens (token ∷ after)
  pub several : last_passes (λ t. t.several) us ≡ token.several

pub head_at : (before : Mark) (first last k : ℕ) (tokens : List MarkedToken) (ts : List Ahead)
    → Follow before (suc first) tokens k ts → first < last → last < length tokens
    → Head last tokens (take (last - first) ts)
head_at before first last k tokens ts f low high =
    let count = count_follow before (suc first) tokens k ts (omega arith) f in
    let j = last - suc first in
    let c = cut_at j ts (omega arith) in
    let many = c.many in
    let one : suc j ≡ last - first = omega arith in
    let is_taken = ap (λ (n : ℕ). take n ts) (sym one) ∙ c.taken in
    let whole = subst (λ us. Follow before (suc first) tokens k us) c.is f in
    let there : last ≡ suc first + length c.front = omega arith in
    record {
      token = c.token;
      after = c.after;
      from = from_at before (suc first) last tokens k c.front (c.token ∷ c.after) whole there;
      several = ap (last_passes (λ t. t.several)) is_taken ∙ passes_last (λ t. t.several) c.front c.token;
    }

pub head_line : (d : MarkedToken) (before : Mark) (first last k : ℕ) (tokens : List MarkedToken) (ts : List Ahead)
    → Follow before (suc first) tokens k ts → first < last → last < length tokens
    → EndsLine never before (take (last - first) ts) (get_or tokens last d).end
head_line d before first last k tokens ts f low high =
    let count = count_follow before (suc first) tokens k ts (omega arith) f in
    let rest = take-append-drop (last - first) ts in
    let long : length (take (last - first) ts) ≡ last - first = length-take-le (last - first) ts (omega arith) in
    let far : length (take (last - first) ts) ≡ suc last - suc first = omega arith in
    let at : suc last - 1 ≡ last = omega arith in
    let line = line_never before (suc first) (drop (suc first) tokens) (take (last - first) ts) (drop (last - first) ts)
    (subst (λ us. AreAhead before (suc first) (drop (suc first) tokens) us) (sym rest) f.are) in
    subst (EndsLine never before (take (last - first) ts))
    (ap (mark_after before (drop (suc first) tokens)) far
    ∙ (mark_before d before (suc first) (suc last) tokens (omega arith) (omega arith)
    ∙ ap (λ (i : ℕ). (get_or tokens i d).end) at))
    line

-- ---- the last operand

position_split : (test : Ahead → Bool) (xs : List Ahead) (t : Ahead) (ys : List Ahead)
    → length xs < position_or_len test (xs ++ (t ∷ ys))
    → (test t ≡ false) × (position_or_len test (xs ++ (t ∷ ys)) ≡ length xs + suc (position_or_len test ys))
position_split test [] t ys h = go (test t) refl
  where
    go : (b : Bool) → test t ≡ b
        → (test t ≡ false) × (position_or_len test (t ∷ ys) ≡ 0 + suc (position_or_len test ys))
    go true e = let at = position_at test t ys e in absurd (omega arith)
    go false e = let past = position_past test t ys e in (e, omega arith)
position_split test (x ∷ xs) t ys h = go (test x) refl (position_split test xs t ys)
  where
    go : (b : Bool) → test x ≡ b
        → (length xs < position_or_len test (xs ++ (t ∷ ys))
        → (test t ≡ false) × (position_or_len test (xs ++ (t ∷ ys)) ≡ length xs + suc (position_or_len test ys)))
        → (test t ≡ false)
        × (position_or_len test (x ∷ (xs ++ (t ∷ ys))) ≡ suc (length xs) + suc (position_or_len test ys))
    go true e ih = let at = position_at test x (xs ++ (t ∷ ys)) e in absurd (omega arith)
    go false e ih =
        let past = position_past test x (xs ++ (t ∷ ys)) e in let r = ih (omega arith) in (r.0, omega arith)

pub record Tail (d : MarkedToken) (n limit operator end : ℕ) (tokens : List MarkedToken)
    (us : List Ahead) : Type 0 where
  pub after : List Ahead
  pub level : ℕ
  pub follow : Follow (get_or tokens operator d).end (operator + 1) tokens level after
  pub stands : end ≡ operator + 1 + position_or_len (ends_chain n limit) after
  pub line : (start to : Mark) → start.column ≡ (get_or tokens operator d).end.column - (get_or tokens operator d).width
      → start.breaks ≡ (get_or tokens operator d).end.breaks
      → EndsLine (ends_chain n limit) (get_or tokens operator d).end after to
      → EndsLine (ends_chain n limit) start (at_front us) to

pub tail_at : (d : MarkedToken) (before : Mark) (n limit first operator end k : ℕ)
    (tokens : List MarkedToken) (ts : List Ahead)
    → Follow before (suc first) tokens k ts → first < operator → operator < length tokens
    → end ≡ suc first + position_or_len (ends_chain n limit) ts → operator < end
    → Tail d n limit operator end tokens (drop (operator - suc first) ts)
tail_at d before n limit first operator end k tokens ts f low high ends inside =
    let count = count_follow before (suc first) tokens k ts (omega arith) f in
    let j = operator - suc first in
    let c = cut_at j ts (omega arith) in
    let many = c.many in
    let m = get_or tokens operator d in
    let whole = subst (λ us. Follow before (suc first) tokens k us) c.is f in
    let there : operator ≡ suc first + length c.front = omega arith in
    let from = from_at before (suc first) operator tokens k c.front (c.token ∷ c.after) whole there in
    let s = stands d from.before operator tokens from.level c.token c.after high from.follow in
    let same = ap (position_or_len (ends_chain n limit)) c.is in
    let p = position_split (ends_chain n limit) c.front c.token c.after (omega arith) in
    let at = p.1 in
    let next : suc operator ≡ operator + 1 = omega arith in
    let column = s.token.column in
    let width = s.token.width in
    record {
      after = c.after;
      level = level_after from.level c.token.role;
      follow = subst (λ (i : ℕ). Follow m.end i tokens (level_after from.level c.token.role) c.after) next s.after;
      stands = omega arith;
      line = λ start to columns breaks line.
          subst (λ us. EndsLine (ends_chain n limit) start (at_front us) to) (sym c.left)
          (line_more (ends_chain n limit) start m.end to (record c.token { space = 0; ends = false }) c.after p.0
          (omega arith) (omega arith) line);
    }

-- ---- whether the bracket at their end is opened

and_false : (a b : Bool) → b ≡ false → (a && b) ≡ false
and_false true b h = h
and_false false b h = refl

pub opens_by : (layout : Layout) (n limit m depth column : ℕ) (ts us vs : List Ahead) (a b c : Bool)
    → up_to_last n (before_first (ends_chain n limit) ts) ≡ us → last_operand n limit m ts ≡ vs
    → last_passes (λ t. t.several) us ≡ a → fits layout never column us ≡ b
    → fits layout (ends_chain n limit) (line_column layout depth) (at_front vs) ≡ c
    → opens_last layout n limit m depth column ts ≡ (a && (b && not c))
opens_by layout n limit m depth column ts us vs a b c up last several head tail =
    ap₂ (λ (x y : Bool). x && y) (ap (last_passes (λ t. t.several)) up ∙ several)
    (ap₂ (λ (x y : Bool). x && not y) (ap (fits layout never column) up ∙ head)
    (ap (λ ws. fits layout (ends_chain n limit) (line_column layout depth) (at_front ws)) last ∙ tail))

pub opens_not_several : (layout : Layout) (n limit m depth column : ℕ) (ts us : List Ahead)
    → up_to_last n (before_first (ends_chain n limit) ts) ≡ us → last_passes (λ t. t.several) us ≡ false
    → false ≡ opens_last layout n limit m depth column ts
opens_not_several layout n limit m depth column ts us up several =
    sym (opens_by layout n limit m depth column ts us (last_operand n limit m ts) false (fits layout never column us)
    (fits layout (ends_chain n limit) (line_column layout depth) (at_front (last_operand n limit m ts)))
    up refl several refl refl)

pub opens_not_fits : (layout : Layout) (n limit m depth column : ℕ) (ts us : List Ahead)
    → up_to_last n (before_first (ends_chain n limit) ts) ≡ us → fits layout never column us ≡ false
    → false ≡ opens_last layout n limit m depth column ts
opens_not_fits layout n limit m depth column ts us up head =
    let c = fits layout (ends_chain n limit) (line_column layout depth) (at_front (last_operand n limit m ts)) in
    sym (opens_by layout n limit m depth column ts us (last_operand n limit m ts)
    (last_passes (λ t. t.several) us) false c
    up refl refl head refl ∙ and_false (last_passes (λ t. t.several) us) (false && not c) refl)

pub opens_unless : (layout : Layout) (n limit m depth column : ℕ) (ts us vs : List Ahead) (c : Bool)
    → up_to_last n (before_first (ends_chain n limit) ts) ≡ us → last_operand n limit m ts ≡ vs
    → last_passes (λ t. t.several) us ≡ true → fits layout never column us ≡ true
    → fits layout (ends_chain n limit) (line_column layout depth) (at_front vs) ≡ c
    → not c ≡ opens_last layout n limit m depth column ts
opens_unless layout n limit m depth column ts us vs c up last several head tail =
    sym (opens_by layout n limit m depth column ts us vs true true c up last several head tail)
