use Rattle.std.proofs.Common.{List}
use Rattle.wgsl_model.specs.Trees.Expressions as plain
use Rattle.wgsl_model.specs.Grammar.Symbols.{Symbol.template_list}
use Rattle.wgsl_lexer.specs.Placed.{tokens_view}
use Rattle.wgsl_parser.specs.Iterators.{Derived}
use Rattle.wgsl_parser.specs.Spans.{IsSpanOf}
use Rattle.wgsl_parser.proofs.Given.{accepted_alike}
use Rattle.wgsl_parser.proofs.template_list.recognize_template_list.Goals as goal

pub returns : goal.returns
returns g c =
    accepted_alike template_list (λ span found. (es : List plain.ExpressionNode)
    × Derived template_list es found × IsSpanOf span (tokens_view found))
    (λ _ found. (es : List plain.ExpressionNode) × Derived template_list es found)
    (g.T.IntoIterator.into_iter_gives c.args.lexer) g.T.IntoIter.Iterator.next_gives c.parse.result
    c.in_ok-parse.field-0 tt c.parse.ensures c.in_ok-parse.was (λ found a. (a.0, a.1))
