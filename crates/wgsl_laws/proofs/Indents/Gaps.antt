-- The line in which a piece is formatted after a gap, and how deep it is.
use Rattle.std.proofs.Common.{◌≡◌, ℕ, zero, suc, Bool, true, false, cond, refl, sym, ap, subst, ◌∙◌, List, [], ◌∷◌, ◌++◌, append_assoc}
use Rattle.wgsl_model.specs.Tokens.Trivia.{Place, outside}
use Rattle.wgsl_model_tidy.specs.Lines.{place_of}
use Rattle.wgsl_model_tidy.specs.Brackets.{Line, blank, begun, line_of}
use Rattle.wgsl_model_tidy.specs.Roles.{Role, beginning, is}
use Rattle.wgsl_model_tidy.specs.Joints.{Joint, line, nothing, space, nothing_or_line, space_or_line}
use Rattle.wgsl_model_tidy.specs.Layout.{Layout}
use Rattle.wgsl_model_tidy.specs.LaidOut.{Gap, Gap.closed, Gap.blank as one_blank, broken, Last, token, line_comment, block_comment, leading_comment, open_comment, Spot, kept_gap, joint_gap, after_comment, after_leading, token_gap, comment_gap, gap_text, indentation, depth_after}
use Rattle.wgsl_theory_tidy.proofs.Kept.NeatTexts.{CanBreak}
use Rattle.wgsl_laws.specs.Indents.{Opened, indent}
use Rattle.wgsl_laws.proofs.Indents.Through.{Through, both, break_through, space_through, entered, InLine, shown, hidden, place_of_last}
use Rattle.wgsl_laws.proofs.Indents.Depths.{IsAt, known, line_at}

-- ---- which gap may come there

-- after it the line need not end
abbrev GoesOn : Last → Type 0
GoesOn line_comment = ⊥
GoesOn last = Unit {0}

-- nothing, a space, or the line break
pub data Gapped (break : Gap) (last : Last) : Gap → Type 0 where
  no_gap : GoesOn last → Gapped break last closed
  one_gap : GoesOn last → Gapped break last one_blank
  break_gap : Gapped break last break

kept_gapped : (break : Gap) (last : Last) (n : ℕ) (other : Gap) → Gapped break last other
    → Gapped break last (kept_gap n break other)
kept_gapped break last zero other h = h
kept_gapped break last (suc n) other h = break_gap

joint_gapped : (break : Gap) (last : Last) → GoesOn last → (j : Joint) (n : ℕ) → Gapped break last (joint_gap j n break)
joint_gapped break last o line n = break_gap
joint_gapped break last o nothing n = no_gap o
joint_gapped break last o space n = one_gap o
joint_gapped break last o nothing_or_line n = kept_gapped break last n closed (no_gap o)
joint_gapped break last o space_or_line n = kept_gapped break last n one_blank (one_gap o)

gapped_if : (break : Gap) (last : Last) (b : Bool) (x y : Gap) → Gapped break last x
    → Gapped break last y → Gapped break last (cond b x y)
gapped_if break last true x y h k = h
gapped_if break last false x y h k = k

pub token_gapped : (joint : Joint) (last : Last) (left right : Role) (n : ℕ) (break : Gap)
    → Gapped break last (token_gap joint last left right n break)
token_gapped joint token left right n break = gapped_if break token (is left beginning) closed _
    (no_gap tt) (joint_gapped break token tt joint n)
token_gapped joint line_comment left right n break = break_gap
token_gapped joint block_comment left right n break = joint_gapped break block_comment tt
    (after_comment joint right) n
token_gapped joint leading_comment left right n break = joint_gapped break leading_comment tt
    (after_leading joint right) n
token_gapped joint open_comment left right n break = joint_gapped break open_comment tt
    (after_comment joint right) n

pub comment_gapped : (class : ℕ) (last : Last) (left : Role) (own : Bool) (n : ℕ) (break : Gap)
    → Gapped break last (comment_gap class last left own n break)
comment_gapped class token left own n break =
    gapped_if break token (is left beginning) closed _ (no_gap tt)
    (gapped_if break token own break _ break_gap (gapped_if break token _ _ _
    (kept_gapped break token n closed (no_gap tt)) (kept_gapped break token n one_blank (one_gap tt))))
comment_gapped class line_comment left own n break = break_gap
comment_gapped class block_comment left own n break = kept_gapped break block_comment n one_blank (one_gap tt)
comment_gapped class leading_comment left own n break = kept_gapped break leading_comment n one_blank (one_gap tt)
comment_gapped class open_comment left own n break = kept_gapped break open_comment n one_blank (one_gap tt)

-- nothing, where the text begins
abbrev pub ClosedAtStart : Last → Role → Gap → Type 0
ClosedAtStart last left gap = last ≡ token → is left beginning ≡ true → gap ≡ closed

pub token_at_start : (joint : Joint) (last : Last) (left right : Role) (n : ℕ) (break : Gap)
    → ClosedAtStart last left (token_gap joint last left right n break)
token_at_start joint last left right n break e h = rw (e, h) refl

pub comment_at_start : (class : ℕ) (last : Last) (left : Role) (own : Bool) (n : ℕ) (break : Gap)
    → ClosedAtStart last left (comment_gap class last left own n break)
comment_at_start class last left own n break e h = rw (e, h) refl

-- ---- a place in a text

-- after this front of a text, at such a place and in a line up to there, comes this rest
abbrev pub Here : List ℕ → List ℕ → List ℕ → Place → Line → Type 0
Here text front rest p l = (text ≡ front ++ rest) × (place_of front rest ≡ p) × (line_of front rest ≡ l)

pub over : (text front xs rest : List ℕ) (p q : Place) (l m : Line) → Here text front (xs ++ rest) p l
    → Through p l xs rest q m → Here text (front ++ xs) rest q m
over text front xs rest p q l m h t =
    let all = both outside p q (blank []) l m front xs rest (h.1, h.2) t in
    (h.0 ∙ sym (append_assoc front xs rest), all.0, all.1)

-- ---- the line

-- the line at a spot where so much is open; the text begins there, or something is before it in
-- its line
pub data Stands (layout : Layout) (spot : Spot) (opened : Opened) : Line → Type 0 where
  at_start : spot.last ≡ token → is spot.state.last beginning ≡ true → spot.state.line ≡ 0
      → opened ≡ [] → Stands layout spot opened (blank [])
  within : (l : Line) → InLine layout spot.state.line l → Stands layout spot opened l

-- the line before a piece, after a gap: one that begins with the gap, so deep; the first line of
-- the text; or one in which something is
pub data Before (layout : Layout) (break depth : ℕ) (opened : Opened) : Line → Type 0 where
  begins : depth ≡ break → Before layout break depth opened (blank (indentation layout depth))
  first : depth ≡ 0 → opened ≡ [] → Before layout break depth opened (blank [])
  continues : (l : Line) → InLine layout depth l → Before layout break depth opened l

in_entered : (layout : Layout) (depth : ℕ) (l : Line) → InLine layout depth l → entered l ≡ l
in_entered layout depth _ (shown) = refl
in_entered layout depth _ (hidden) = refl

-- after the piece
pub after_entered : (layout : Layout) (break depth : ℕ) (opened : Opened) (l : Line)
    → Before layout break depth opened l → InLine layout depth (entered l)
after_entered layout break depth opened _ (begins e) = shown
after_entered layout break depth opened _ (first e f) = subst (λ d. InLine layout d (begun [])) (sym e) shown
after_entered layout break depth opened l (continues _ h) = subst (InLine layout depth)
    (sym (in_entered layout depth l h)) h

-- its blank space
pub before_at : (layout : Layout) (break depth : ℕ) (opened : Opened) (l : Line)
    → Before layout break depth opened l → IsAt layout depth (indent l)
before_at layout break depth opened _ (begins e) = known
before_at layout break depth opened _ (first e f) = subst (λ d. IsAt layout d (indent (blank []))) (sym e) known
before_at layout break depth opened l (continues _ h) = line_at layout depth l h

place_goes_on : (last : Last) → GoesOn last → place_of_last last ≡ outside
place_goes_on token o = refl
place_goes_on line_comment o = absurd o
place_goes_on block_comment o = refl
place_goes_on leading_comment o = refl
place_goes_on open_comment o = refl

can_break : (last : Last) → CanBreak (place_of_last last)
can_break line_comment = tt
can_break last = tt

-- over a gap, to what is after it in its line
abbrev pub OverGap : Layout → Last → Line → Gap → List ℕ → ℕ → ℕ → Opened → Type 0
OverGap layout last l gap rest break depth opened = (m : Line) × Before layout break depth opened m
    × Through (place_of_last last) l (gap_text layout gap) rest outside m

within_over : (layout : Layout) (last : Last) (now : ℕ) (opened : Opened) (l : Line) → InLine layout now l
    → (empty : Bool) (depth : ℕ) (gap : Gap) → Gapped (broken empty depth) last gap → (rest : List ℕ)
    → OverGap layout last l gap rest depth (depth_after gap now) opened
within_over layout last now opened l h empty depth _ (no_gap o) rest =
    (l, continues l h, (place_goes_on last o, refl))
within_over layout last now opened l h empty depth _ (one_gap o) rest = (
  l,
  continues l h,
  subst (λ p. Through p l (32 ∷ []) rest outside l) (sym (place_goes_on last o)) (space_through layout now l rest h),
)
within_over layout last now opened l h empty depth _ (break_gap) rest = (
  blank (indentation layout depth),
  begins refl,
  break_through layout (place_of_last last) (can_break last) empty depth l rest,
)

pub gap_over : (layout : Layout) (spot : Spot) (opened : Opened) (l : Line) → Stands layout spot opened l
    → (empty : Bool) (depth : ℕ) (gap : Gap) → Gapped (broken empty depth) spot.last gap
    → ClosedAtStart spot.last spot.state.last gap → (rest : List ℕ)
    → OverGap layout spot.last l gap rest depth (depth_after gap spot.state.line) opened
gap_over layout spot opened l (within _ h) empty depth gap g c rest =
    within_over layout spot.last spot.state.line opened l h empty depth gap g rest
gap_over layout spot opened _ (at_start e b n m) empty depth gap g c rest =
    let none : gap ≡ closed = c e b in
    let line_depth : depth_after gap spot.state.line ≡ 0 = ap (λ x. depth_after x spot.state.line) none ∙ n in (
      blank [],
      first line_depth m,
      subst (λ x. Through (place_of_last spot.last) (blank []) (gap_text layout x) rest outside (blank [])) (sym none)
          (subst (λ x. Through (place_of_last x) (blank []) [] rest outside (blank [])) (sym e) (refl, refl)),
    )
