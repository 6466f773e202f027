use Rattle.wgsl_parser.proofs.Spans.{span_parsed}
use Rattle.wgsl_parser.proofs.template_list.TryTemplateListParser.parse.Goals as goal

pub returns : goal.returns
returns g c =
    let gave = c.in_ok-collect_tokens.ensures in
    span_parsed (g.T.IntoIterator.into_iter_gives c.args.tokens) g.T.IntoIter.Iterator.next_gives gave.0
    c.in_ok-collect_tokens.field-0 c.template_list_of.result gave.1 gave.2 c.template_list_of.ensures
