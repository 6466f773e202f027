-- Texts of which something holds.
use Rattle.std.proofs.Common.{ℕ, List, All}
use Rattle.std.proofs.lemmas.List.Elements.{All-map}
use Rattle.std.specs.Borrow.{Bor}
use Rattle.wgsl_minify_names.specs.View.{texts}

-- what holds of the bytes of each text of a list
pub texts_all : (P : List ℕ → Type 0) (xs : List (Bor (List ℕ))) → All (λ (text : Bor (List ℕ)). P text.now) xs
    → All P (texts xs)
texts_all P xs h = All-map P (λ (text : Bor (List ℕ)). text.now) xs h
