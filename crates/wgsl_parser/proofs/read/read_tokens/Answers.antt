use Rattle.wgsl_lexer.specs.Placed.{tokens_view, ending_view}
use Rattle.wgsl_parser.proofs.Given.{parsed_is}
use Rattle.wgsl_parser.proofs.read.read_tokens.Goals as goal

pub returns : goal.returns
returns g c =
    let gave = c.in_ok-collect_tokens.ensures in
    let found = c.in_ok-collect_tokens.field-0 in
    parsed_is g.P.Parsed.symbol g.P.Parsed.view
    (g.T.IntoIterator.into_iter_gives c.args.tokens) g.T.IntoIter.Iterator.next_gives gave.0 found
    c.read_collected.result gave.1 gave.2 c.read_collected.ensures
