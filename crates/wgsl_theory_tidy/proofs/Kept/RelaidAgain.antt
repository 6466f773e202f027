-- Pieces that are formatted are formatted as they are.
use Rattle.std.proofs.Common.{◌≡◌, ℕ, suc, ◌&&◌, ◌||◌, Bool, true, false, cond, not, ◌⊎◌, inl, inr, refl, sym, ap, ap₂, subst, ◌∙◌, List, [], ◌∷◌, ◌++◌, drop, length}
use Rattle.std.proofs.lemmas.Bool.{and_parts, and_from, true≢false}
use Rattle.wgsl_model_tidy.specs.Pieces.{Piece}
use Rattle.wgsl_model_tidy.specs.Roles.{Role, beginning, opening, template_start, attribute, is, closes, opens_bracket}
use Rattle.wgsl_model_tidy.specs.Joints.{Joint, line, nothing, space, closed_up, joint}
use Rattle.wgsl_model_tidy.specs.Layout.{Layout, column_after}
use Rattle.wgsl_model_tidy.specs.Open.{Style, together, arguments, bracket, Operands, LayoutState, Enclosing, no_bracket, one_line, own_lines, filled_lines, item_lines, start, enclosed_by, enclosing, parted_at, operands_before, between_items, depth_of, comment_depth, role_in, opened_after_token, after_token}
use Rattle.wgsl_model_tidy.specs.Ahead.{Ahead, is_comment, operand_follows, next_role, after_comment, tokens_ahead}
use Rattle.wgsl_model_tidy.specs.LaidOut.{Gap, Spot, Last, token, is_token, is_line, is_after_opening, is_followed, is_filled, next_binds, next_level, may_break, between, owned, before_next, gap_before_comment, gap_before_token, gap_before, comment_gap, token_gap, style_of, operands_with, style_with, state_with, gap_text, piece_text, depth_after, leads, comment_last, after_piece, laid_from, first_spot, laid_out}
use Rattle.wgsl_theory_tidy.proofs.Laid.{after_comment_at, after_token_at}
use Rattle.wgsl_theory_tidy.proofs.Kept.Gaps.{gap_ends}
use Rattle.wgsl_theory_tidy.proofs.Kept.Relaid.{after_first, first_again, read_again, relaid, relaid_operand, relaid_next}
use Rattle.wgsl_theory_tidy.proofs.Kept.ShownTexts.{text_again, token_text}
use Rattle.wgsl_theory_tidy.proofs.Kept.RelaidEnds.{after_comment_piece, comment_stays, followed_again}
use Rattle.wgsl_theory_tidy.proofs.Kept.PlainAhead.{with_ahead, binds_plain, between_plain, operands_plain}
use Rattle.wgsl_theory_tidy.proofs.Kept.AheadStates.{AreAlike, length_alike, alike_after, next_alike, FirstIs, first_ahead}
use Rattle.wgsl_theory_tidy.proofs.Kept.LinesAgain.{Rows, spelled_again, role_here, comment_spot, token_spot, rows_again}
use Rattle.wgsl_theory_tidy.proofs.Kept.StylesAgain.{AreSame, FirstLevel, head_same, tail_same, style_again}
use Rattle.wgsl_theory_tidy.proofs.Kept.AheadSame.{IsLike, AreLike, none_like, one_like, ahead_like}
use Rattle.wgsl_theory_tidy.proofs.Kept.GapsAgain.{break_for, token_again, comment_again}

-- ---- the tokens ahead of a spot, and those in the formatted text

-- A state as it is found ahead, and the tokens ahead of the spot and of the formatted text, the
-- first
-- maybe with comments before it.
record Follows (layout : Layout) (a : LayoutState) (spot : Spot) (us : List Ahead) (ps : List Piece) : Type 0 where
  alike : AreAlike a spot.state
  same : AreSame spot.ahead us
  level : FirstLevel (length a.opened) spot.ahead
  old : drop 1 spot.ahead ≡ drop 1 (tokens_ahead layout a ps)
  new : drop 1 us ≡ drop 1 (tokens_ahead layout a (relaid layout spot ps))

-- ---- the gap before the first piece

binds_same : (xs us : List Ahead) → AreSame xs us → next_binds us ≡ next_binds xs
binds_same xs us h = sym (binds_plain us) ∙ ap next_binds h ∙ binds_plain xs

before_same : (spot : Spot) (us : List Ahead) → AreSame spot.ahead us → (right : Role)
    → before_next (with_ahead spot us) right ≡ before_next spot right
before_same spot us h right =
    ap (λ (n : ℕ). record spot.state { operands = operands_before spot.state.operands right n })
    (binds_same spot.ahead us h)

between_same : (layout : Layout) (spot : Spot) (us : List Ahead) → AreSame spot.ahead us → (right : Role)
    → between layout (with_ahead spot us) right ≡ between layout spot right
between_same layout spot us h right = sym (between_plain layout spot right us)
    ∙ ap (λ xs. between layout (with_ahead spot xs) right) h ∙ between_plain layout spot right spot.ahead

-- by how many line breaks count, and whether any does
comment_twice : (class : ℕ) (last : Last) (left : Role) (own own' : Bool) (stays : Bool) (depth n : ℕ) (may : Bool)
    → (may ≡ true → own' ≡ true → own ≡ true) → (may ≡ false → own' ≡ own)
    → comment_gap class last left own' (cond may (gap_ends (comment_gap class last left own (cond may n 0)
    (break_for stays depth (cond may n 0)))) 0)
    (break_for stays depth (cond may (gap_ends (comment_gap class last left own
    (cond may n 0) (break_for stays depth (cond may n 0)))) 0))
    ≡ comment_gap class last left own (cond may n 0) (break_for stays depth (cond may n 0))
comment_twice class last left own own' stays depth n true h k =
    comment_again class last left own own' stays depth n (h refl)
comment_twice class last left own own' stays depth n false h k =
    ap (λ o. comment_gap class last left o 0 (break_for stays depth 0)) (k refl)

token_twice : (between : Joint) (last : Last) (left right : Role) (stays : Bool) (depth n : ℕ) (may : Bool)
    → token_gap between last left right (cond may (gap_ends (token_gap between last left right (cond may n 0)
    (break_for stays depth (cond may n 0)))) 0)
    (break_for stays depth (cond may (gap_ends (token_gap between last left right
    (cond may n 0) (break_for stays depth (cond may n 0)))) 0))
    ≡ token_gap between last left right (cond may n 0) (break_for stays depth (cond may n 0))
token_twice between last left right stays depth n true = token_again between last left right stays depth n
token_twice between last left right stays depth n false = refl

-- in a bracket in one line no comment belongs to the next token
owned_line : (layout : Layout) (spot : Spot) (right : Role) (ps : List Piece) → owned layout spot right ps ≡ true
    → (is_token spot.last ≡ true) × (is_line (between layout spot right) ≡ true) × (not (closes right) ≡ true)
    × (is_followed ps ≡ true)
owned_line layout spot right ps h =
    let all = and_parts (is_token spot.last) _ h in
    let both = and_parts _ (is_followed ps) all.1 in
    let line = and_parts (is_line (between layout spot right)) (not (closes right)) both.0 in
    (all.0, line.0, line.1, both.1)

one_line_of : (e : Enclosing) → may_break e ≡ false → e ≡ one_line
one_line_of one_line h = refl
one_line_of no_bracket h = absurd (true≢false h)
one_line_of own_lines h = absurd (true≢false h)
one_line_of filled_lines h = absurd (true≢false h)
one_line_of item_lines h = absurd (true≢false h)

no_break : (a b c : Bool) (x y : Joint) → b ≡ false → cond (a && (b && c)) x y ≡ y
no_break true true c x y h = absurd (true≢false h)
no_break true false c x y h = refl
no_break false b c x y h = refl

one_line_joint : (layout : Layout) (spot : Spot) (right : Role) → may_break (enclosing spot.state.opened) ≡ false
    → is_line (between layout spot right) ≡ false
one_line_joint layout spot right h =
    ap is_line (no_break (is_token spot.last) (may_break (enclosing spot.state.opened)) _ line _ h)
    ∙ ap (λ e. is_line (joint e spot.state.last right)) (one_line_of (enclosing spot.state.opened) h)
    ∙ go (closed_up spot.state.last right)
  where
    go : (b : Bool) → is_line (cond b nothing space) ≡ false
    go true = refl
    go false = refl

none_owned : (layout : Layout) (spot : Spot) (right : Role) (ps : List Piece)
    → may_break (enclosing spot.state.opened) ≡ false
    → owned layout spot right ps ≡ false
none_owned layout spot right ps h = go (owned layout spot right ps) refl
  where
    go : (b : Bool) → owned layout spot right ps ≡ b → b ≡ false
    go true e = absurd (true≢false (sym (owned_line layout spot right ps e).1 ∙ one_line_joint layout spot right h))
    go false e = refl

own_only : (layout : Layout) (spot : Spot) (us : List Ahead) → AreSame spot.ahead us
    → (right : Role) (ps qs : List Piece)
    → (is_followed qs ≡ true → is_followed ps ≡ true) → owned layout (with_ahead spot us) right qs ≡ true
    → owned layout spot right ps ≡ true
own_only layout spot us h right ps qs f e =
    let all = owned_line layout (with_ahead spot us) right qs e in
    and_from (is_token spot.last) _ all.0
    (and_from _ (is_followed ps)
    (and_from _ (not (closes right)) (ap is_line (sym (between_same layout spot us h right)) ∙ all.1)
    all.2) (f all.3))

gap_again : (layout : Layout) (spot : Spot) (us : List Ahead) → AreSame spot.ahead us → (right : Role) (p : Piece)
    (ps qs : List Piece)
    → (is_comment p.class ≡ true → may_break (enclosing spot.state.opened) ≡ true → is_followed qs ≡ true
    → is_followed ps ≡ true)
    → gap_before layout (with_ahead spot us) right (read_again layout spot (gap_before layout spot right p ps) p) qs
    ≡ gap_before layout spot right p ps
gap_again layout spot us h right p ps qs f = go (is_comment p.class) refl
  where
    may : Bool
    may = may_break (enclosing spot.state.opened)

    state : LayoutState
    state = before_next spot right

    gap : Bool → List Piece → ℕ → Gap
    gap b others n = cond b (gap_before_comment spot right p.class (owned layout spot right others) n)
        (gap_before_token layout spot right n)

    again : Bool → ℕ → Gap
    again b n = cond b
        (gap_before_comment (with_ahead spot us) right p.class (owned layout (with_ahead spot us) right qs) n)
        (gap_before_token layout (with_ahead spot us) right n)

    comment_at : LayoutState → Bool → ℕ → Gap
    comment_at state own n = comment_gap p.class spot.last spot.state.last own (cond may n 0)
        (break_for (between_items state right && not (is_after_opening spot.last spot.state.last || closes beginning))
        (comment_depth state right) (cond may n 0))

    token_at : LayoutState → Joint → ℕ → Gap
    token_at state j n = token_gap j spot.last spot.state.last right (cond may n 0)
        (break_for (between_items state right && not (is_after_opening spot.last spot.state.last || closes right))
        (depth_of state right) (cond may n 0))

    go : (b : Bool) → is_comment p.class ≡ b → again b (gap_ends (gap b ps p.line_ends)) ≡ gap b ps p.line_ends
    go true c =
        ap (λ s. comment_at s (owned layout (with_ahead spot us) right qs) (gap_ends (gap true ps p.line_ends)))
        (before_same spot us h right)
        ∙ comment_twice p.class spot.last spot.state.last (owned layout spot right ps)
        (owned layout (with_ahead spot us) right qs) _ (comment_depth state right) p.line_ends may
        (λ m. own_only layout spot us h right ps qs (f c m))
        (λ m. none_owned layout (with_ahead spot us) right qs m ∙ sym (none_owned layout spot right ps m))
    go false c =
        ap₂ (λ s j. token_at s j (gap_ends (gap false ps p.line_ends))) (before_same spot us h right)
        (between_same layout spot us h right)
        ∙ token_twice (between layout spot right) spot.last spot.state.last right _
        (depth_of state right) p.line_ends may

-- ---- the spot after the first piece

opens_enclosing : (s : LayoutState) (depth : ℕ) (right : Role) (style : Style) → opens_bracket right ≡ true
    → enclosing (opened_after_token s depth right style) ≡ enclosed_by style
opens_enclosing s depth opening style h = either (is s.last attribute)
  where
    either : (b : Bool) → enclosing ((cond b (arguments style) (bracket style), depth) ∷ s.opened) ≡ enclosed_by style
    either true = refl
    either false = refl
opens_enclosing s depth template_start style h = refl
opens_enclosing s depth right style h = absurd (true≢false (sym h))

opens_one : (s : LayoutState) (depth : ℕ) (right : Role) (style : Style) → opens_bracket right ≡ true
    → length (opened_after_token s depth right style) ≡ suc (length s.opened)
opens_one s depth opening style h = refl
opens_one s depth template_start style h = refl
opens_one s depth right style h = absurd (true≢false (sym h))

style_same : (layout : Layout) (operands : List Operands) (depth column : ℕ) (right : Role) (xs us : List Ahead)
    → AreSame xs us → (opens_bracket right ≡ true → FirstLevel (suc (next_level xs)) (drop 1 xs))
    → (opens_bracket right ≡ true
    → is_filled (enclosed_by (style_with layout operands depth column right xs)) ≡ false
    → Rows (next_level xs) (style_with layout operands depth column right xs) true (drop 1 xs) (drop 1 us))
    → style_with layout operands depth column right us ≡ style_with layout operands depth column right xs
style_same layout operands depth column right [] [] h f r = refl
style_same layout operands depth column right [] (u ∷ us) h f r = absurd cc
style_same layout operands depth column right (t ∷ ts) [] h f r = absurd cc
style_same layout operands depth column right (t ∷ ts) (u ∷ us) h f r = go (opens_bracket right) refl f r
  where
    limit : ℕ
    limit = parted_at operands

    go : (b : Bool) → opens_bracket right ≡ b → (b ≡ true → FirstLevel (suc t.level) ts)
        → (b ≡ true → is_filled (enclosed_by (cond b (style_of layout t.level limit depth column ts) together)) ≡ false
        → Rows t.level (cond b (style_of layout t.level limit depth column ts) together) true ts us)
        → cond b (style_of layout u.level limit depth column us) together
        ≡ cond b (style_of layout t.level limit depth column ts) together
    go true e f r =
        ap (λ (x : Ahead). style_of layout x.level limit depth column us) (head_same t u ts us h)
        ∙ style_again layout t.level limit depth column ts us (tail_same t u ts us h) (f refl) (r refl)
    go false e f r = refl

state_same : (layout : Layout) (state : LayoutState) (depth column class : ℕ) (right : Role) (xs us : List Ahead)
    → AreSame xs us
    → (style_with layout (operands_with layout state depth column right xs) depth column right us
    ≡ style_with layout (operands_with layout state depth column right xs) depth column right xs)
    → state_with layout state depth column class right us ≡ state_with layout state depth column class right xs
state_same layout state depth column class right xs us h e =
    ap (λ (operands : List Operands). after_token (record state { operands = operands }) depth class right
    (style_with layout operands depth column right us)) (sym (operands_plain layout state depth column right us)
    ∙ ap (operands_with layout state depth column right) h ∙ operands_plain layout state depth column right xs)
    ∙ ap (after_token (record state { operands = operands_with layout state depth column right xs })
    depth class right) e

-- ---- the spot after the first piece is followed so again

drop_same : (xs us : List Ahead) → AreSame xs us → AreSame (drop 1 xs) (drop 1 us)
drop_same [] [] h = refl
drop_same [] (u ∷ us) h = absurd cc
drop_same (t ∷ ts) [] h = absurd cc
drop_same (t ∷ ts) (u ∷ us) h = tail_same t u ts us h

drop_comment : (layout : Layout) (p : Piece) (ts : List Ahead) → drop 1 (after_comment layout p ts) ≡ drop 1 ts
drop_comment layout p [] = refl
drop_comment layout p (t ∷ ts) = refl

first_is_level : (a : LayoutState) (right : Role) (ts : List Ahead) → FirstIs a right ts
    → FirstLevel (length a.opened) ts
first_is_level a right [] h = tt
first_is_level a right (t ∷ ts) h = h.level

level_of : (n : ℕ) (xs : List Ahead) (t : Ahead) (ts : List Ahead) → FirstLevel n xs → xs ≡ t ∷ ts → next_level xs ≡ n
level_of n [] t ts h e = absurd cc
level_of n (x ∷ xs) t ts h e = h

-- the tokens ahead after a comment, and after a token
comment_ahead : (layout : Layout) (a : LayoutState) (p : Piece) (ps : List Piece) → is_comment p.class ≡ true
    → drop 1 (tokens_ahead layout a (p ∷ ps)) ≡ drop 1 (tokens_ahead layout a ps)
comment_ahead layout a p ps c = rw c (drop_comment layout p (tokens_ahead layout a ps))

token_ahead_after : (layout : Layout) (a : LayoutState) (p : Piece) (ps : List Piece) → is_comment p.class ≡ false
    → drop 1 (tokens_ahead layout a (p ∷ ps))
    ≡ tokens_ahead layout (after_token a 0 p.class (role_in a p.class (operand_follows ps)) together) ps
token_ahead_after layout a p ps c = rw c refl

-- the others are formatted as they are
abbrev OthersAgain : Layout → List Piece → Type 0
OthersAgain layout ps = (a : LayoutState) (spot : Spot) (us : List Ahead) → Follows layout a spot us ps
    → laid_from layout (with_ahead spot us) (relaid layout spot ps) ≡ laid_from layout spot ps

-- what is after the first piece, which is written the same
abbrev rest_laid : Layout → Gap → List ℕ → Spot → List Piece → List ℕ
rest_laid layout gap text after ps = gap_text layout gap ++ (text ++ laid_from layout after ps)

after_comment_again : (layout : Layout) (a : LayoutState) (spot : Spot) (us : List Ahead) (p : Piece) (ps : List Piece)
    → Follows layout a spot us (p ∷ ps) → is_comment p.class ≡ true → OthersAgain layout ps
    → laid_from layout (after_piece layout (with_ahead spot us)
    (gap_before layout spot (next_role spot.state (p ∷ ps)) p ps)
    (next_role spot.state (p ∷ ps)) (first_again layout spot p ps)) (relaid layout (after_first layout spot p ps) ps)
    ≡ laid_from layout (after_first layout spot p ps) ps
after_comment_again layout a spot us p ps f c others =
    ap (λ s. laid_from layout s rest)
    (comment_spot layout (with_ahead spot us) gap right (first_again layout spot p ps) c
    ∙ ap (λ text. after_comment_at (with_ahead spot us) depth last
    (column_after layout spot.column (gap_text layout gap ++ text)))
    (text_again layout spot gap p))
    ∙ subst (λ s. laid_from layout (with_ahead now us) (relaid layout s ps) ≡ laid_from layout s ps) (sym at)
    (others a now us (record {
      alike = record { last = f.alike.last; structure = f.alike.structure; kinds = f.alike.kinds };
      same = f.same;
      level = f.level;
      old = f.old ∙ comment_ahead layout a p ps c;
      new = f.new ∙ comment_ahead layout a (first_again layout spot p ps) rest c
          ∙ ap (λ s. drop 1 (tokens_ahead layout a (relaid layout s ps))) at;
    }))
  where
    right : Role
    right = next_role spot.state (p ∷ ps)

    gap : Gap
    gap = gap_before layout spot right p ps

    depth : ℕ
    depth = depth_after gap spot.state.line

    last : Last
    last = comment_last p.class (leads gap spot.last spot.state.last)

    now : Spot
    now = after_comment_at spot depth last
        (column_after layout spot.column (gap_text layout gap ++ piece_text layout spot gap p))

    rest : List Piece
    rest = relaid layout (after_first layout spot p ps) ps

    at : after_first layout spot p ps ≡ now
    at = comment_spot layout spot gap right p c

after_token_again : (layout : Layout) (a : LayoutState) (spot : Spot) (us : List Ahead) (p : Piece) (ps : List Piece)
    → Follows layout a spot us (p ∷ ps) → is_comment p.class ≡ false → OthersAgain layout ps
    → laid_from layout (after_piece layout (with_ahead spot us)
    (gap_before layout spot (next_role spot.state (p ∷ ps)) p ps)
    (next_role spot.state (p ∷ ps)) (first_again layout spot p ps)) (relaid layout (after_first layout spot p ps) ps)
    ≡ laid_from layout (after_first layout spot p ps) ps
after_token_again layout a spot us p ps f c others =
    ap (λ s. laid_from layout s rest) (token_spot layout (with_ahead spot us) gap right (first_again layout spot p ps) c
    ∙ ap (λ text. after_token_at layout (with_ahead spot us) depth p.class right
    (column_after layout spot.column (gap_text layout gap ++ text))) (text_again layout spot gap p)
    ∙ ap (λ (state : LayoutState). with_state state (drop 1 us))
    (ap (λ b. state_with layout b depth column p.class right us)
    (before_same spot us f.same right)
    ∙ state_same layout before depth column p.class right spot.ahead us f.same
    (style_same layout operands depth column right spot.ahead us f.same inner rows)))
    ∙ subst (λ s. laid_from layout (with_ahead now (drop 1 us)) (relaid layout s ps) ≡ laid_from layout s ps) (sym at)
    (others flat now (drop 1 us) (record {
      alike = alike;
      same = drop_same spot.ahead us f.same;
      level = subst (FirstLevel (length flat.opened)) (sym old) (first_is_level flat (next_role flat ps)
          (tokens_ahead layout flat ps) (first_ahead layout flat ps));
      old = ap (drop 1) old;
      new = ap (drop 1) (new ∙ ap (λ s. tokens_ahead layout flat (relaid layout s ps)) at);
    }))
  where
    right : Role
    right = next_role spot.state (p ∷ ps)

    gap : Gap
    gap = gap_before layout spot right p ps

    depth : ℕ
    depth = depth_after gap spot.state.line

    column : ℕ
    column = column_after layout spot.column (gap_text layout gap ++ piece_text layout spot gap p)

    before : LayoutState
    before = before_next spot right

    operands : List Operands
    operands = operands_with layout before depth column right spot.ahead

    style : Style
    style = style_with layout operands depth column right spot.ahead

    now : Spot
    now = after_token_at layout spot depth p.class right column

    with_state : LayoutState → List Ahead → Spot
    with_state state ts = record { state = state; last = token; column = column; ahead = ts }

    rest : List Piece
    rest = relaid layout (after_first layout spot p ps) ps

    at : after_first layout spot p ps ≡ now
    at = token_spot layout spot gap right p c

    found : Role
    found = role_in a p.class (operand_follows ps)

    same : found ≡ right
    same = sym (role_here a p ps c) ∙ next_alike a spot.state f.alike (p ∷ ps)

    flat : LayoutState
    flat = after_token a 0 p.class found together

    alike : AreAlike flat now.state
    alike = subst (λ r. AreAlike flat (after_token (record before { operands = operands }) depth p.class r style)) same
        (alike_after a (record before { operands = operands })
        (record { last = f.alike.last; structure = f.alike.structure; kinds = f.alike.kinds }) 0
        depth p.class found together style)

    old : drop 1 spot.ahead ≡ tokens_ahead layout flat ps
    old = f.old ∙ token_ahead_after layout a p ps c

    new : drop 1 us ≡ tokens_ahead layout flat rest
    new = f.new ∙ token_ahead_after layout a (first_again layout spot p ps) rest c
        ∙ ap (λ b. tokens_ahead layout (after_token a 0 p.class (role_in a p.class b) together) rest)
        (relaid_operand layout (after_first layout spot p ps) ps)

    outside : (xs : List Ahead) → FirstLevel (length a.opened) xs → (next_level xs ≡ length a.opened) ⊎ (xs ≡ [])
    outside [] h = inr refl
    outside (x ∷ xs) h = inl h

    long : opens_bracket right ≡ true → length flat.opened ≡ suc (length a.opened)
    long h = opens_one a 0 found together (ap opens_bracket same ∙ h)

    inner : opens_bracket right ≡ true → FirstLevel (suc (next_level spot.ahead)) (drop 1 spot.ahead)
    inner h = go (outside spot.ahead f.level)
      where
        go : (next_level spot.ahead ≡ length a.opened) ⊎ (spot.ahead ≡ [])
            → FirstLevel (suc (next_level spot.ahead)) (drop 1 spot.ahead)
        go (inl e) = subst (λ n. FirstLevel n (drop 1 spot.ahead)) (long h ∙ ap suc (sym e))
            (subst (FirstLevel (length flat.opened)) (sym old) (first_is_level flat (next_role flat ps)
            (tokens_ahead layout flat ps) (first_ahead layout flat ps)))
        go (inr e) = subst (λ xs. FirstLevel (suc (next_level spot.ahead)) (drop 1 xs)) (sym e) tt

    rows : opens_bracket right ≡ true → is_filled (enclosed_by style) ≡ false
        → Rows (next_level spot.ahead) style true (drop 1 spot.ahead) (drop 1 us)
    rows h k = go (outside spot.ahead f.level)
      where
        here : Rows (length a.opened) style true (tokens_ahead layout flat ps) (tokens_ahead layout flat rest)
        here = subst (λ s. Rows (length a.opened) style true (tokens_ahead layout flat ps)
            (tokens_ahead layout flat (relaid layout s ps))) (sym at)
            (rows_again layout (length a.opened) style k ps 0 flat now alike (
              opens_enclosing (record before { operands = operands }) depth right style h,
              opens_one (record before { operands = operands }) depth right style h
                  ∙ ap suc (sym (length_alike a spot.state f.alike)),
            ))

        go : (next_level spot.ahead ≡ length a.opened) ⊎ (spot.ahead ≡ [])
            → Rows (next_level spot.ahead) style true (drop 1 spot.ahead) (drop 1 us)
        go (inl e) = subst (λ n. Rows n style true (drop 1 spot.ahead) (drop 1 us)) (sym e)
            (subst (λ xs. Rows (length a.opened) style true xs (drop 1 us)) (sym old)
            (subst (λ xs. Rows (length a.opened) style true (tokens_ahead layout flat ps) xs) (sym new) here))
        go (inr e) = none us (subst (λ xs. AreSame xs us) e f.same)
          where
            none : (us : List Ahead) → AreSame [] us
                → Rows (next_level spot.ahead) style true (drop 1 spot.ahead) (drop 1 us)
            none [] h = subst (λ xs. Rows (next_level spot.ahead) style true (drop 1 xs) []) (sym e) tt
            none (u ∷ us) h = absurd cc

-- ---- so the text is formatted as before

again : (layout : Layout) (p : Piece) (ps : List Piece) → OthersAgain layout ps → OthersAgain layout (p ∷ ps)
again layout p ps others a spot us f =
    ap (λ r. laid_as r (gap_before layout (with_ahead spot us) r p' rest)) (relaid_next layout spot.state spot (p ∷ ps))
    ∙ ap (laid_as right) gap_same
    ∙ ap (λ text. rest_laid layout gap text (after_piece layout (with_ahead spot us) gap right p') rest)
    (text_again layout spot gap p)
    ∙ ap (λ xs. gap_text layout gap ++ (piece_text layout spot gap p ++ xs)) (go (is_comment p.class) refl)
  where
    right : Role
    right = next_role spot.state (p ∷ ps)

    gap : Gap
    gap = gap_before layout spot right p ps

    p' : Piece
    p' = first_again layout spot p ps

    rest : List Piece
    rest = relaid layout (after_first layout spot p ps) ps

    laid_as : Role → Gap → List ℕ
    laid_as r g = rest_laid layout g (piece_text layout (with_ahead spot us) g p')
        (after_piece layout (with_ahead spot us) g r p') rest

    gap_same : gap_before layout (with_ahead spot us) right p' rest ≡ gap
    gap_same = gap_again layout spot us f.same right p ps rest
        (λ c m. followed_again layout (after_first layout spot p ps) ps
        (ap (λ opened. may_break (enclosing opened)) (comment_stays layout spot gap right p c) ∙ m)
        (after_comment_piece layout spot gap right p c))

    go : (b : Bool) → is_comment p.class ≡ b
        → laid_from layout (after_piece layout (with_ahead spot us) gap right p') rest
        ≡ laid_from layout (after_first layout spot p ps) ps
    go true c = after_comment_again layout a spot us p ps f c others
    go false c = after_token_again layout a spot us p ps f c others

all_again : (layout : Layout) (ps : List Piece) → OthersAgain layout ps
all_again layout [] a spot us f = refl
all_again layout (p ∷ ps) a spot us f = again layout p ps (all_again layout ps) a spot us f

-- a piece of the formatted text is like the one that is formatted
first_like : (layout : Layout) (spot : Spot) (p : Piece) (ps : List Piece) → IsLike p (first_again layout spot p ps)
first_like layout spot p ps = record {
  written = spelled_again layout spot p ps;
  text = λ c. token_text layout spot (gap_before layout spot (next_role spot.state (p ∷ ps)) p ps) p.class p.text
      p.line_ends c;
}

relaid_like : (layout : Layout) (spot : Spot) (ps : List Piece) → AreLike ps (relaid layout spot ps)
relaid_like layout spot [] = none_like
relaid_like layout spot (p ∷ ps) =
    let after = after_first layout spot p ps in
    one_like p (first_again layout spot p ps) ps (relaid layout after ps) (first_like layout spot p ps)
    (relaid_operand layout after ps) (relaid_like layout after ps)

pub relaid_again : (layout : Layout) (ps : List Piece)
    → laid_out layout (relaid layout (first_spot layout ps) ps) ≡ laid_out layout ps
relaid_again layout ps =
    let spot = first_spot layout ps in
    let qs = relaid layout spot ps in
    all_again layout ps start spot (tokens_ahead layout start qs) (record {
      alike = record { last = refl; structure = refl; kinds = refl };
      same = ahead_like layout start ps qs (relaid_like layout spot ps);
      level = first_is_level start (next_role start ps) (tokens_ahead layout start ps) (first_ahead layout start ps);
      old = refl;
      new = refl;
    })
