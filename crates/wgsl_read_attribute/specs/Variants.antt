-- The types that an expression joins by `|`, told from the last.
use Rattle.std.specs.Prelude.{ℕ, suc, Option, Some, None, List, []}
use Rattle.wgsl_model.specs.Trees.Expressions.{Expression, TypeExpression}
use Rattle.wgsl_model.specs.Grammar.Checks.{variants_in}
use Rattle.wgsl_tree_expression.specs.Chains.{steps_of}

-- those of what is before the last `|`, if one is
abbrev pub variants_before : Option Expression → Option (List TypeExpression)
variants_before None = Some []
variants_before (Some e) = variants_in e

-- a bound on how many there are
abbrev pub operands_before : Option Expression → ℕ
operands_before None = 0
operands_before (Some e) = suc (steps_of e)
