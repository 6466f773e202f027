use Rattle.std.proofs.Common.{map}
use Rattle.wgsl_tree_expression.specs.View.{template_arg_view}
use Rattle.wgsl_lexer.specs.Placed.{tokens_view, ending_view}
use Rattle.wgsl_parser.proofs.Spans.{span_answered}
use Rattle.wgsl_parser.proofs.template_list.template_list_of.Goals as goal

pub returns : goal.returns
returns c =
    span_answered (λ args. map template_arg_view args.items) (tokens_view c.args.found)
    (ending_view c.args.found.error) c.span_of-span.result c.read_collected.result
    c.in_ok-read_collected.field-0
    c.read_collected.ensures c.in_ok-read_collected.was c.span_of-span.ensures
