-- The line in which a piece is formatted after a gap, and how deep it is.
use Rattle.std.proofs.Common.{◌≡◌, ℕ, zero, suc, Bool, true, false, cond, refl, sym, ap, subst, ◌∙◌, List, [], ◌∷◌, ◌++◌}
use Rattle.wgsl_model.specs.Tokens.Trivia.{outside, in_line}
use Rattle.wgsl_model_tidy.specs.Brackets.{Line, blank, begun, in_comment}
use Rattle.wgsl_model_tidy.specs.Roles.{Role, beginning, is}
use Rattle.wgsl_model_tidy.specs.Joints.{Joint, line, nothing, space, nothing_or_line, space_or_line}
use Rattle.wgsl_model_tidy.specs.Layout.{Layout}
use Rattle.wgsl_model_tidy.specs.LaidOut.{Gap, Gap.closed, Gap.blank as one_blank, broken, Last, token, line_comment, block_comment, leading_comment, open_comment, Spot, kept_gap, joint_gap, after_comment, after_leading, token_gap, comment_gap, gap_text, indentation, depth_after}
use Rattle.wgsl_theory_tidy.proofs.Kept.AlignedTexts.{Aligned, entered, break_over, one_space_over}
use Rattle.wgsl_theory_tidy.proofs.Kept.AlignedComments.{AlignedAfter}

-- ---- which gap may come there

-- after it the line need not end
abbrev GoesOn : Last → Type 0
GoesOn line_comment = ⊥
GoesOn last = Unit {0}

-- nothing, a space, or the line break
pub data Gapped (break : Gap) (last : Last) : Gap → Type 0 where
  no_gap : GoesOn last → Gapped break last closed
  one_gap : GoesOn last → Gapped break last one_blank
  break_gap : Gapped break last break

kept_gapped : (break : Gap) (last : Last) (n : ℕ) (other : Gap) → Gapped break last other
    → Gapped break last (kept_gap n break other)
kept_gapped break last zero other h = h
kept_gapped break last (suc n) other h = break_gap

joint_gapped : (break : Gap) (last : Last) → GoesOn last → (j : Joint) (n : ℕ) → Gapped break last (joint_gap j n break)
joint_gapped break last o line n = break_gap
joint_gapped break last o nothing n = no_gap o
joint_gapped break last o space n = one_gap o
joint_gapped break last o nothing_or_line n = kept_gapped break last n closed (no_gap o)
joint_gapped break last o space_or_line n = kept_gapped break last n one_blank (one_gap o)

gapped_if : (break : Gap) (last : Last) (b : Bool) (x y : Gap) → Gapped break last x
    → Gapped break last y → Gapped break last (cond b x y)
gapped_if break last true x y h k = h
gapped_if break last false x y h k = k

pub token_gapped : (joint : Joint) (last : Last) (left right : Role) (n : ℕ) (break : Gap)
    → Gapped break last (token_gap joint last left right n break)
token_gapped joint token left right n break = gapped_if break token (is left beginning) closed _
    (no_gap tt) (joint_gapped break token tt joint n)
token_gapped joint line_comment left right n break = break_gap
token_gapped joint block_comment left right n break = joint_gapped break block_comment tt
    (after_comment joint right) n
token_gapped joint leading_comment left right n break = joint_gapped break leading_comment tt
    (after_leading joint right) n
token_gapped joint open_comment left right n break = joint_gapped break open_comment tt
    (after_comment joint right) n

pub comment_gapped : (class : ℕ) (last : Last) (left : Role) (own : Bool) (n : ℕ) (break : Gap)
    → Gapped break last (comment_gap class last left own n break)
comment_gapped class token left own n break =
    gapped_if break token (is left beginning) closed _ (no_gap tt)
    (gapped_if break token own break _ break_gap (gapped_if break token _ _ _
    (kept_gapped break token n closed (no_gap tt)) (kept_gapped break token n one_blank (one_gap tt))))
comment_gapped class line_comment left own n break = break_gap
comment_gapped class block_comment left own n break = kept_gapped break block_comment n one_blank (one_gap tt)
comment_gapped class leading_comment left own n break = kept_gapped break leading_comment n one_blank (one_gap tt)
comment_gapped class open_comment left own n break = kept_gapped break open_comment n one_blank (one_gap tt)

-- nothing, where the text begins
abbrev pub ClosedAtStart : Last → Role → Gap → Type 0
ClosedAtStart last left gap = last ≡ token → is left beginning ≡ true → gap ≡ closed

pub token_at_start : (joint : Joint) (last : Last) (left right : Role) (n : ℕ) (break : Gap)
    → ClosedAtStart last left (token_gap joint last left right n break)
token_at_start joint last left right n break e h = rw (e, h) refl

pub comment_at_start : (class : ℕ) (last : Last) (left : Role) (own : Bool) (n : ℕ) (break : Gap)
    → ClosedAtStart last left (comment_gap class last left own n break)
comment_at_start class last left own n break e h = rw (e, h) refl

-- ---- the line

-- a line so deep, in which more than its blank space is; or one that begins in a comment
pub data InLine (layout : Layout) (depth : ℕ) : Line → Type 0 where
  shown : InLine layout depth (begun (indentation layout depth))
  hidden : InLine layout depth in_comment

pub in_entered : (layout : Layout) (depth : ℕ) (l : Line) → InLine layout depth l → entered l ≡ l
in_entered layout depth _ (shown) = refl
in_entered layout depth _ (hidden) = refl

-- the line at a spot where so much is open; the text begins there, or something is before it in
-- its line
pub data Stands (layout : Layout) (spot : Spot) (marks : List Bool) : Line → Type 0 where
  at_start : spot.last ≡ token → is spot.state.last beginning ≡ true → spot.state.line ≡ 0
      → marks ≡ [] → Stands layout spot marks (blank [])
  within : (l : Line) → InLine layout spot.state.line l → Stands layout spot marks l

-- the line before a piece, after a gap: one that begins with the gap, so deep; the first line of
-- the text; or one in which something is
pub data Before (layout : Layout) (break depth : ℕ) (marks : List Bool) : Line → Type 0 where
  begins : depth ≡ break → Before layout break depth marks (blank (indentation layout depth))
  first : depth ≡ 0 → marks ≡ [] → Before layout break depth marks (blank [])
  goes_on : (l : Line) → InLine layout depth l → Before layout break depth marks l

-- after the piece
pub after_entered : (layout : Layout) (break depth : ℕ) (marks : List Bool) (l : Line)
    → Before layout break depth marks l → InLine layout depth (entered l)
after_entered layout break depth marks _ (begins e) = shown
after_entered layout break depth marks _ (first e f) = subst (λ d. InLine layout d (begun [])) (sym e) shown
after_entered layout break depth marks l (goes_on _ h) = subst (InLine layout depth)
    (sym (in_entered layout depth l h)) h

outside_after : (last : Last) → GoesOn last → (l : Line) (opened : List Line) (r : List ℕ)
    → Aligned outside l opened r → AlignedAfter last l opened r
outside_after token o l opened r a = a
outside_after line_comment o l opened r a = absurd o
outside_after block_comment o l opened r a = a
outside_after leading_comment o l opened r a = a
outside_after open_comment o l opened r a = tt

break_after : (layout : Layout) (last : Last) (empty : Bool) (depth : ℕ) (l : Line)
    (opened : List Line) (r : List ℕ) → Aligned outside (blank (indentation layout depth)) opened r
    → AlignedAfter last l opened (gap_text layout (broken empty depth) ++ r)
break_after layout token empty depth l opened r a = break_over layout outside tt empty depth l opened r a
break_after layout line_comment empty depth l opened r a = break_over layout in_line tt empty depth l opened r a
break_after layout block_comment empty depth l opened r a = break_over layout outside tt empty depth l opened r a
break_after layout leading_comment empty depth l opened r a = break_over layout outside tt empty depth l opened r a
break_after layout open_comment empty depth l opened r a = tt

within_over : (layout : Layout) (last : Last) (now : ℕ) (marks : List Bool) (l : Line) (opened : List Line)
    → InLine layout now l → (empty : Bool) (depth : ℕ) (gap : Gap)
    → Gapped (broken empty depth) last gap → (r : List ℕ)
    → ((m : Line) → Before layout depth (depth_after gap now) marks m → Aligned outside m opened r)
    → AlignedAfter last l opened (gap_text layout gap ++ r)
within_over layout last now marks l opened h empty depth _ (no_gap o) r k =
    outside_after last o l opened r (k l (goes_on l h))
within_over layout last now marks l opened h empty depth _ (one_gap o) r k = outside_after last o l
    opened (32 ∷ r) (one_space_over l opened r (in_entered layout now l h) (k l (goes_on l h)))
within_over layout last now marks l opened h empty depth _ (break_gap) r k = break_after layout last
    empty depth l opened r (k (blank (indentation layout depth)) (begins refl))

-- over a gap, to what is after it in its line
pub gap_over : (layout : Layout) (spot : Spot) (marks : List Bool) (l : Line) (opened : List Line)
    → Stands layout spot marks l → (empty : Bool) (depth : ℕ) (gap : Gap)
    → Gapped (broken empty depth) spot.last gap → ClosedAtStart spot.last spot.state.last gap
    → (r : List ℕ) → ((m : Line) → Before layout depth (depth_after gap spot.state.line) marks m
    → Aligned outside m opened r) → AlignedAfter spot.last l opened (gap_text layout gap ++ r)
gap_over layout spot marks l opened (within _ h) empty depth gap g c r k =
    within_over layout spot.last spot.state.line marks l opened h empty depth gap g r k
gap_over layout spot marks _ opened (at_start e b n m) empty depth gap g c r k =
    let none : gap ≡ closed = c e b in
    let line_depth : depth_after gap spot.state.line ≡ 0 = ap (λ x. depth_after x spot.state.line) none ∙ n in
    subst (λ x. AlignedAfter spot.last (blank []) opened (gap_text layout x ++ r)) (sym none)
    (subst (λ x. AlignedAfter x (blank []) opened r) (sym e) (k (blank []) (first line_depth m)))
