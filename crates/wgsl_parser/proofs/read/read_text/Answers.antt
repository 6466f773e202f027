use Rattle.wgsl_parser.proofs.Texts.{read_is}
use Rattle.wgsl_parser.proofs.read.read_text.Goals as goal

pub returns : goal.returns
returns g c =
    let found = c.in_ok-of_text.ensures in
    read_is g.P.Parsed.symbol g.P.Parsed.view c.args.source.now found.0 found.1 c.read_all.result
    c.utf8.source found.2 (c.read_all.ensures found.0 found.1 found.3)
