use Rattle.grammar.specs.Tokens.{Span}
use Rattle.wgsl_model.specs.Trees.Expressions.ExpressionNode.{expression_node}
use Rattle.wgsl_model.specs.Grammar.Symbols.{Symbol.expression}
use Rattle.wgsl_span.specs.Spanned.{spanned_span}
use Rattle.wgsl_span.specs.View.{span_view}
use Rattle.wgsl_tree_expression.specs.View.{expression_view, expression_node_view}
use Rattle.wgsl_parser.specs.Iterators.{Derived}
use Rattle.wgsl_parser.proofs.Given.{accepted_alike}
use Rattle.wgsl_parser.proofs.parsers.ExpressionParser.parse.Goals as goal

pub returns : goal.returns
returns g c =
    let node = c.in_ok-read_tokens.field-0 in
    accepted_alike expression (λ v found. Derived expression (expression_node_view v) found)
    (λ v found. (s : Span) × Derived expression (expression_node (expression_view v) s) found)
    (g.T.IntoIterator.into_iter_gives c.args.tokens) g.T.IntoIter.Iterator.next_gives
    c.read_tokens.result node c.into_inner.result c.read_tokens.ensures c.in_ok-read_tokens.was
    (λ found derived. (span_view (spanned_span node), rw c.into_inner.ensures derived))
