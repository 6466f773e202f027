use Rattle.wgsl_read_cursor.specs.Reading.{state}
use Rattle.wgsl_read_expression.specs.Rules.{binary_operators}
use Rattle.wgsl_read_expression.proofs.Choices.{any_of_kind, any_of_none}
use Rattle.wgsl_read_expression.proofs.operators.is_at_operator.Goals as goal

pub returns-in-Some : goal.returns-in-Some
returns-in-Some c = any_of_kind binary_operators (state c.args.tokens.now) c.in-Some.kind
    c.is_operator.result c.in-Some.ensures c.is_operator.ensures

pub returns-in-None : goal.returns-in-None
returns-in-None c = any_of_none binary_operators (state c.args.tokens.now) c.in-None.ensures
