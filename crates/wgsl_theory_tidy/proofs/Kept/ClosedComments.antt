-- Comments that end, and one that is not closed, by their class and their characters.
use Rattle.std.proofs.Common.{◌≡◌, ℕ, true, false, List, [], ◌∷◌}
use Rattle.wgsl_model.specs.Tokens.ClassTable.{LineComment, BlockComment}
use Rattle.wgsl_model_tidy.specs.Pieces.{Piece, OpenComment}
use Rattle.wgsl_theory_tidy.proofs.Comments.{trimmed, OnLine}
use Rattle.wgsl_theory_tidy.proofs.Kept.Bodies.{IsBody}

-- a comment that ends: a line comment with no blank space at its end, and a block comment that its
-- last sign closes
pub data Closed : ℕ → List ℕ → Type 0 where
  closed_line : (xs : List ℕ) → OnLine xs → trimmed xs ≡ xs → Closed LineComment (47 ∷ (47 ∷ xs))
  closed_block : (xs : List ℕ) → IsBody true 0 xs → Closed BlockComment (47 ∷ (42 ∷ xs))

-- a block comment that is not closed, after which the text ends
pub data Unclosed : ℕ → List ℕ → Type 0 where
  unclosed : (xs : List ℕ) → IsBody false 0 xs → Unclosed OpenComment (47 ∷ (42 ∷ xs))

-- all of these pieces are comments that end
abbrev pub AllClosed : List Piece → Type 0
AllClosed [] = Unit {0}
AllClosed (p ∷ ps) = Closed p.class p.text × AllClosed ps

-- or the last is one that is not closed
pub data AllClosedButLast : List Piece → Type 0 where
  no_more : AllClosedButLast []
  one_more : (p : Piece) (ps : List Piece) → Closed p.class p.text → AllClosedButLast ps → AllClosedButLast (p ∷ ps)
  last_open : (p : Piece) → Unclosed p.class p.text → AllClosedButLast (p ∷ [])
