-- Line ends in a laid-out text: a comment keeps those that are after it, so what follows a comment
-- in its line follows in the line of the comment that is formatted.
use Rattle.std.proofs.Common.{◌≡◌, ℕ, zero, suc, ◌&&◌, ◌||◌, ◌==◌, Bool, true, false, cond, refl, sym, ap, ◌∙◌, List, [], ◌∷◌}
use Rattle.std.proofs.lemmas.Bool.{and_parts, and_from, eqb-true}
use Rattle.wgsl_model.specs.Tokens.ClassTable.{LineComment, BlockComment}
use Rattle.wgsl_model_tidy.specs.Pieces.{Piece}
use Rattle.wgsl_model_tidy.specs.Roles.{Role, beginning, block_end, is, closes_bracket}
use Rattle.wgsl_model_tidy.specs.Joints.{Joint, line, nothing, space, nothing_or_line, space_or_line}
use Rattle.wgsl_model_tidy.specs.Layout.{Layout}
use Rattle.wgsl_model_tidy.specs.Open.{enclosing, between_items, depth_of, comment_depth}
use Rattle.wgsl_model_tidy.specs.Ahead.{is_comment, next_role}
use Rattle.wgsl_model_tidy.specs.LaidOut.{may_break, line_end, between, before_next, Gap, broken, Last, token, line_comment, block_comment, leading_comment, open_comment, Spot, joint_gap, after_comment, after_leading, token_gap, comment_gap, is_line, loose_joint, closes_up, leads, comment_last, is_followed, gap_before, owned, after_piece}
use Rattle.wgsl_theory_tidy.proofs.Kept.Gaps.{gap_ends}
use Rattle.wgsl_theory_tidy.proofs.Kept.Relaid.{after_first, relaid}

-- a line break is there
broken_some : (empty : Bool) (depth : ℕ) → gap_ends (broken empty depth) ≡ 0 → ⊥
broken_some true depth e = absurd cc
broken_some false depth e = absurd cc

loose_some : (right : Role) (n : ℕ) (empty : Bool) (depth : ℕ)
    → gap_ends (joint_gap (loose_joint right) (suc n) (broken empty depth)) ≡ 0 → ⊥
loose_some right n empty depth = go (closes_up right)
  where
    go : (b : Bool) → gap_ends (joint_gap (cond b nothing_or_line space_or_line) (suc n) (broken empty depth)) ≡ 0 → ⊥
    go true = broken_some empty depth
    go false = broken_some empty depth

leading_some : (j : Joint) (right : Role) (n : ℕ) (empty : Bool) (depth : ℕ)
    → gap_ends (joint_gap (after_leading j right) (suc n) (broken empty depth)) ≡ 0 → ⊥
leading_some j right n empty depth = go (is right block_end || (is_line j && closes_bracket right))
  where
    go : (b : Bool) → gap_ends (joint_gap (cond b line (loose_joint right)) (suc n) (broken empty depth)) ≡ 0 → ⊥
    go true = broken_some empty depth
    go false = loose_some right n empty depth

comment_some : (j : Joint) (right : Role) (n : ℕ) (empty : Bool) (depth : ℕ)
    → gap_ends (joint_gap (after_comment j right) (suc n) (broken empty depth)) ≡ 0 → ⊥
comment_some line right n empty depth = broken_some empty depth
comment_some nothing right n empty depth = loose_some right n empty depth
comment_some space right n empty depth = loose_some right n empty depth
comment_some nothing_or_line right n empty depth = loose_some right n empty depth
comment_some space_or_line right n empty depth = loose_some right n empty depth

-- so is one where the author had one after a comment
token_some : (j : Joint) (last : Last) (left right : Role) (n : ℕ) (empty : Bool) (depth : ℕ)
    → (last ≡ token → ⊥) → gap_ends (token_gap j last left right (suc n) (broken empty depth)) ≡ 0 → ⊥
token_some j token left right n empty depth h = absurd (h refl)
token_some j line_comment left right n empty depth h = broken_some empty depth
token_some j leading_comment left right n empty depth h =
    leading_some j right n empty depth
token_some j block_comment left right n empty depth h = comment_some j right n empty depth
token_some j open_comment left right n empty depth h = comment_some j right n empty depth

other_some : (class : ℕ) (last : Last) (left : Role) (own : Bool) (n : ℕ) (empty : Bool) (depth : ℕ)
    → (last ≡ token → ⊥) → gap_ends (comment_gap class last left own (suc n) (broken empty depth)) ≡ 0 → ⊥
other_some class token left own n empty depth h = absurd (h refl)
other_some class line_comment left own n empty depth h = broken_some empty depth
other_some class block_comment left own n empty depth h = broken_some empty depth
other_some class leading_comment left own n empty depth h = broken_some empty depth
other_some class open_comment left own n empty depth h = broken_some empty depth

-- of two gaps, whichever is chosen
either_some : (b : Bool) (f g : Gap) → (gap_ends f ≡ 0 → ⊥) → (gap_ends g ≡ 0 → ⊥) → gap_ends (cond b f g) ≡ 0 → ⊥
either_some true f g h k = h
either_some false f g h k = k

no_ends : (layout : Layout) (spot : Spot) (right : Role) (p : Piece) (ps : List Piece)
    → may_break (enclosing spot.state.opened) ≡ true → (spot.last ≡ token → ⊥)
    → (gap_ends (gap_before layout spot right p ps) == 0) ≡ true → (p.line_ends == 0) ≡ true
no_ends layout spot right p ps m h e = go p.line_ends
    (ap (λ b. gap_ends (gap (cond b p.line_ends 0)) == 0) (sym m) ∙ e)
  where
    -- the gap by the line breaks that count
    gap : ℕ → Gap
    gap n = cond (is_comment p.class) (comment_gap p.class spot.last spot.state.last (owned layout spot right ps) n
        (line_end (between_items (before_next spot right) right) spot.last spot.state.last beginning n
        (comment_depth (before_next spot right) right)))
        (token_gap (between layout spot right) spot.last spot.state.last right n
        (line_end (between_items (before_next spot right) right) spot.last spot.state.last right n
        (depth_of (before_next spot right) right)))

    go : (n : ℕ) → (gap_ends (gap n) == 0) ≡ true → (n == 0) ≡ true
    go zero e = refl
    go (suc n) e =
        absurd
        (either_some (is_comment p.class) _ _
        (other_some p.class spot.last spot.state.last _ n _ (comment_depth (before_next spot right) right) h)
        (token_some (between layout spot right) spot.last spot.state.last right n _
        (depth_of (before_next spot right) right) h)
        (eqb-true (gap_ends (gap (suc n))) 0 e))

-- the last piece is a comment
comment_not_token : (class : ℕ) (leading : Bool) → comment_last class leading ≡ token → ⊥
comment_not_token class leading = go (class == LineComment) (class == BlockComment) leading
  where
    go : (b c d : Bool) → cond b line_comment (cond c (cond d leading_comment block_comment) open_comment) ≡ token → ⊥
    go true c d e = absurd cc
    go false true true e = absurd cc
    go false true false e = absurd cc
    go false false d e = absurd cc

pub after_comment_piece : (layout : Layout) (spot : Spot) (gap : Gap) (right : Role) (p : Piece)
    → is_comment p.class ≡ true → (after_piece layout spot gap right p).last ≡ token → ⊥
after_comment_piece layout spot gap right p h = rw h (comment_not_token p.class (leads gap spot.last spot.state.last))

pub comment_stays : (layout : Layout) (spot : Spot) (gap : Gap) (right : Role) (p : Piece)
    → is_comment p.class ≡ true → (after_piece layout spot gap right p).state.opened ≡ spot.state.opened
comment_stays layout spot gap right p h = rw h refl

followed_step : (layout : Layout) (spot : Spot) (p : Piece) (ps : List Piece)
    → may_break (enclosing spot.state.opened) ≡ true
    → (spot.last ≡ token → ⊥) → is_followed (relaid layout spot (p ∷ ps)) ≡ true
    → ((after : Spot) → may_break (enclosing after.state.opened) ≡ true → (after.last ≡ token → ⊥)
    → is_followed (relaid layout after ps) ≡ true
    → is_followed ps ≡ true) → is_followed (p ∷ ps) ≡ true
followed_step layout spot p ps m h e others = and_from _ _ (no_ends layout spot right p ps m h both.0)
    (go (is_comment p.class) refl both.1)
  where
    right : Role
    right = next_role spot.state (p ∷ ps)

    after : Spot
    after = after_first layout spot p ps

    both : ((gap_ends (gap_before layout spot right p ps) == 0) ≡ true)
        × (cond (is_comment p.class) (is_followed (relaid layout after ps)) true ≡ true)
    both = and_parts _ _ e

    go : (b : Bool) → is_comment p.class ≡ b → cond b (is_followed (relaid layout after ps)) true ≡ true
        → cond b (is_followed ps) true ≡ true
    go true c f = others after
        (ap (λ opened. may_break (enclosing opened))
        (comment_stays layout spot (gap_before layout spot right p ps) right p c) ∙ m)
        (after_comment_piece layout spot (gap_before layout spot right p ps) right p c) f
    go false c f = refl

-- where the author's line breaks count
pub followed_again : (layout : Layout) (spot : Spot) (ps : List Piece) → may_break (enclosing spot.state.opened) ≡ true
    → (spot.last ≡ token → ⊥) → is_followed (relaid layout spot ps) ≡ true → is_followed ps ≡ true
followed_again layout spot [] m h e = e
followed_again layout spot (p ∷ ps) m h e = followed_step layout spot p ps m h e
    (λ after n k f. followed_again layout after ps n k f)
