-- Texts one after another.
use Rattle.std.specs.Prelude.{ℕ, List}
use Rattle.std.specs.List.{join_by}

-- texts with a separator between each two
abbrev pub joined : List ℕ → List (List ℕ) → List ℕ
joined separator texts = join_by (λ text. text) separator texts
