-- Texts written one after another.
use Rattle.std.proofs.Common.{ℕ, List, ◌++◌}
use Rattle.wgsl_writer.specs.declared.indented.Indented.{Indented}
use Rattle.wgsl_writer.specs.Writing.{Wrote}
use Rattle.wgsl_writer.proofs.Through.{wrote_append}

-- one text, and the next after it
infixl 10 ◌▸◌
pub ◌▸◌ : {W : Type 0} {took : W → List ℕ → W → Type 0} {a b c : Indented W} {xs ys : List ℕ}
    → Wrote took a xs b → Wrote took b ys c → Wrote took a (xs ++ ys) c
one ▸ next = wrote_append _ _ _ _ _ _ one next
