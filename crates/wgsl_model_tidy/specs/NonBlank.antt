-- The characters of a text that are not blank space (WGSL, "Blankspace and Line Breaks").
use Rattle.std.specs.Prelude.{ℕ, if◌then◌else◌, List, [], ◌∷◌}
use Rattle.wgsl_model.specs.Tokens.Characters.{is_blank}

-- in order
abbrev pub non_blank : List ℕ → List ℕ
non_blank [] = []
non_blank (c ∷ cs) = if is_blank c then non_blank cs else c ∷ non_blank cs
