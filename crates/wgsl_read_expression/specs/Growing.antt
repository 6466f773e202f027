-- What grows by what is read after it.
use Rattle.grammar.specs.States.{State, Read, Read.done, ◌>>=◌}
use Rattle.wgsl_model.specs.Trees.Expressions.{ExpressionNode}

-- what is read grows a first operand
abbrev pub read_growth : ExpressionNode → (State → Read (ExpressionNode → ExpressionNode)) → State → Read ExpressionNode
read_growth e growth s = growth s >>= λ f s'. done (f e) s'
