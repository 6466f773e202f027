-- The value that a declaration begins with.
use Rattle.std.specs.Prelude.{Option}
use Rattle.grammar.specs.Notation.{optional}
use Rattle.grammar.specs.States.{State, Read, go}
use Rattle.wgsl_model.specs.Trees.Expressions.{ExpressionNode}
use Rattle.wgsl_model.specs.Grammar.StatementParts.{initializer}
use Rattle.wgsl_theory_grammar.specs.Factored.{lifted}
use Rattle.wgsl_theory_grammar.specs.Tables.{tables}
use Rattle.wgsl_theory_grammar.specs.Reader.{reader}

-- `=` and a value
unfoldable pub initializer_at : State → Read ExpressionNode
initializer_at s = go tables reader (lifted initializer) s

-- `=` and a value, or nothing
unfoldable pub maybe_initializer_at : State → Read (Option ExpressionNode)
maybe_initializer_at s = go tables reader (optional (lifted initializer)) s
