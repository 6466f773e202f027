-- Kinds that may replace others in a list of expressions.
use Rattle.std.specs.Prelude.{ℕ, List, [], ◌∷◌, ◌++◌, map}
use Rattle.wgsl_model.specs.Tokens.ClassTable.{SymParenLeft, SymParenRight}
use Rattle.wgsl_theory_templates.specs.Exchanged.{Exchanged}
use Rattle.wgsl_lex_templates.specs.Advancing.{token_of_class}

-- tokens of some classes may replace tokens of others
abbrev pub MayReplace : List ℕ → List ℕ → Type 0
MayReplace cs ds = Exchanged (map token_of_class cs) (map token_of_class ds)

-- classes between parentheses
abbrev pub in_parentheses : List ℕ → List ℕ
in_parentheses cs = SymParenLeft ∷ (cs ++ SymParenRight ∷ [])
