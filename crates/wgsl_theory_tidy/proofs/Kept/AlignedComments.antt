-- A comment, and after it a text in which each closing bracket that begins a line is as deep as
-- the line of its opening bracket.
use Rattle.std.proofs.Common.{◌≡◌, ℕ, suc, ◌==◌, ◌&&◌, Bool, true, false, refl, sym, ap, subst, ◌∙◌, List, [], ◌∷◌, ◌++◌, append-nil}
use Rattle.wgsl_model.specs.Tokens.ClassTable.{BlockComment}
use Rattle.wgsl_model.specs.Tokens.Trivia.{outside, in_line, in_block, out_of_block, first_or_zero}
use Rattle.wgsl_model_tidy.specs.Brackets.{Line, in_comment}
use Rattle.wgsl_model_tidy.specs.LaidOut.{Last, line_comment, open_comment, comment_last}
use Rattle.wgsl_theory_tidy.proofs.Kept.Bodies.{IsBody, body_end, text_end, body_opens, body_closes, body_other}
use Rattle.wgsl_theory_tidy.proofs.Kept.ClosedComments.{Closed, closed_line, closed_block, Unclosed, unclosed}
use Rattle.wgsl_theory_tidy.proofs.Kept.AlignedTexts.{Aligned, entered, AlignedEither, sign_over, line_over, block_over, second_over}

-- ---- the text of a block comment

-- what comes after it: an aligned text after its end, or nothing, if it is not closed
abbrev Follows : Bool → Line → List Line → List ℕ → Type 0
Follows true line opened rest = AlignedEither outside line opened rest
Follows false line opened rest = rest ≡ []

-- over the sign of an end, and the sign of another block comment in this one
over_end : (depth : ℕ) (r : List ℕ) (line : Line) (opened : List Line)
    → AlignedEither (out_of_block depth) line opened r
    → AlignedEither (in_block depth) line opened (42 ∷ (47 ∷ r))
over_end depth r line opened a = block_over depth 42 (47 ∷ r) line opened
    (second_over (out_of_block depth) 47 r line opened refl a)

over_opening : (depth : ℕ) (r : List ℕ) (line : Line) (opened : List Line)
    → AlignedEither (in_block (suc depth)) line opened r
    → AlignedEither (in_block depth) line opened (47 ∷ (42 ∷ r))
over_opening depth r line opened a = block_over depth 47 (42 ∷ r) line opened
    (second_over (in_block (suc depth)) 42 r line opened refl a)

-- a number of comments deep in it, up to its end, and what comes after it
module _ {closed : Bool} (line : Line) (opened : List Line) (rest : List ℕ)
    (follows : Follows closed line opened rest) where
  nothing_after : closed ≡ false → rest ≡ []
  nothing_after e = subst (λ b. Follows b line opened rest) e follows

  -- the same comes first without what comes after it
  first_alone : (depth : ℕ) (xs : List ℕ) → IsBody closed depth xs → first_or_zero (xs ++ rest) ≡ first_or_zero xs
  first_alone _ _ (body_end e) = refl
  first_alone _ _ (text_end depth e) = ap first_or_zero (nothing_after e)
  first_alone _ _ (body_opens depth xs i) = refl
  first_alone _ _ (body_closes depth xs i) = refl
  first_alone _ _ (body_other depth c xs h k i) = refl

  -- over another character
  over_other : (depth c : ℕ) (xs : List ℕ) → (c == 47 && first_or_zero xs == 42) ≡ false
      → (c == 42 && first_or_zero xs == 47) ≡ false → IsBody closed depth xs
      → AlignedEither (in_block depth) line opened (xs ++ rest)
      → AlignedEither (in_block depth) line opened (c ∷ (xs ++ rest))
  over_other depth c xs h k i a =
      let first = first_alone depth xs i in
      let no_opening : (c == 47 && first_or_zero (xs ++ rest) == 42) ≡ false = ap (λ d. c == 47 && d == 42) first ∙ h in
      let no_end : (c == 42 && first_or_zero (xs ++ rest) == 47) ≡ false = ap (λ d. c == 42 && d == 47) first ∙ k in
      block_over depth c (xs ++ rest) line opened (rw (no_opening, no_end) a)

  pub body_over : (depth : ℕ) (xs : List ℕ) → IsBody closed depth xs
      → AlignedEither (in_block depth) line opened (xs ++ rest)
  body_over _ _ (body_end e) = over_end 0 rest line opened (subst (λ b. Follows b line opened rest) e follows)
  body_over _ _ (text_end depth e) = subst (AlignedEither (in_block depth) line opened) (sym (nothing_after e)) (tt, tt)
  body_over _ _ (body_opens depth xs i) = over_opening depth (xs ++ rest) line opened (body_over (suc depth) xs i)
  body_over _ _ (body_closes depth xs i) = over_end (suc depth) (xs ++ rest) line opened (body_over depth xs i)
  body_over _ _ (body_other depth c xs h k i) = over_other depth c xs h k i (body_over depth xs i)

-- ---- comments

-- what follows a comment is in the line in which it began, or in one that begins in it
abbrev pub AlignedAfter : Last → Line → List Line → List ℕ → Type 0
AlignedAfter line_comment line opened r = Aligned in_line line opened r
AlignedAfter open_comment line opened r = Unit {0}
AlignedAfter last line opened r = Aligned outside line opened r

pub comment_over : (class : ℕ) (text : List ℕ) → Closed class text
    → (leads : Bool) (line : Line) (opened : List Line) (r : List ℕ)
    → AlignedAfter (comment_last class leads) (entered line) opened r
    → AlignedAfter (comment_last class leads) in_comment opened r
    → Aligned outside line opened (text ++ r)
comment_over class text (closed_line xs h t) leads line opened r a b = sign_over in_line 47
    (xs ++ r) refl refl line opened (line_over xs r h line opened a)
comment_over class text (closed_block xs i) leads line opened r a b = sign_over (in_block 0) 42
    (xs ++ r) refl refl line opened (body_over line opened r (after leads a b) 0 xs i).0
  where
    after : (leads : Bool) → AlignedAfter (comment_last BlockComment leads) (entered line) opened r
        → AlignedAfter (comment_last BlockComment leads) in_comment opened r
        → AlignedEither outside line opened r
    after true a b = (a, b)
    after false a b = (a, b)

-- nothing follows a comment that is not closed
pub open_over : (class : ℕ) (text : List ℕ) → Unclosed class text
    → (line : Line) (opened : List Line) → Aligned outside line opened text
open_over class text (unclosed xs i) line opened =
    sign_over (in_block 0) 42 xs refl refl line opened
    (subst (Aligned (in_block 0) (entered line) opened) (append-nil xs) (body_over line opened [] refl 0 xs i).0)
