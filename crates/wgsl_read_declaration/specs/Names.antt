-- The names in a `diagnostic` directive.
use Rattle.std.specs.Prelude.{ℕ, cond, List, ◌++◌, Option, Some, None, codes}
use Rattle.grammar.specs.Tokens.{Token}
use Rattle.grammar.specs.States.{State, is_at, first_of, after}
use Rattle.wgsl_model.specs.Tokens.ClassTable.{SymPeriod}

-- the third token
abbrev pub third_of : State → Token
third_of s = first_of (after (after s))

-- the token after a `.`, where the next token is one
abbrev pub second_name_of : State → Option Token
second_name_of s = cond (is_at SymPeriod s) (Some (first_of (after s))) None

-- a name, or two with `.` between
abbrev pub dotted : List ℕ → Option (List ℕ) → List ℕ
dotted first None = first
dotted first (Some second) = first ++ (codes "." ++ second)
