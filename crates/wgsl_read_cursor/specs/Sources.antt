-- The tokens that are read of those that an iterator gave.
use Rattle.std.specs.Prelude.{if◌then◌else◌, List, [], ◌∷◌, ◌++◌}
use Rattle.grammar.specs.Tokens.{Token}
use Rattle.grammar.specs.Endings.{Ending}
use Rattle.wgsl_model.specs.Faults.Checked.{wants_memory}
use Rattle.wgsl_theory_grammar.specs.Answers.{opening}

-- the tokens; where an allocation failed for what follows them, as if a `(` followed
abbrev pub tokens_to_read : List Token → Ending → List Token
tokens_to_read ts ending = if wants_memory ending then ts ++ (opening ∷ []) else ts
