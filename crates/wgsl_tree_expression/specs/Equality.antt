-- What `==` of names and of literals returns.
use Rattle.std.specs.Prelude.{Bool}
use Rattle.wgsl_tree_expression.specs.declared.ident.Ident.{Ident}
use Rattle.wgsl_tree_expression.specs.declared.literal.LiteralExpression.{LiteralExpression}
use Rattle.wgsl_tree_expression.specs.contracts.ident.IdentPartialEq.TheImpl as ident
use Rattle.wgsl_tree_expression.specs.contracts.literal.LiteralExpressionPartialEq.TheImpl as literal

abbrev pub equal_idents : Ident → Ident → Bool
equal_idents = (ident.ghosts).eq

abbrev pub equal_literals : LiteralExpression → LiteralExpression → Bool
equal_literals = (literal.ghosts).eq
