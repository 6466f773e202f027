use Rattle.wgsl_server_text.proofs.SameLine.{position_in}
use Rattle.wgsl_server_text.proofs.places.position_in.Goals as goal

pub returns : goal.returns
returns c =
    position_in c.args.encoding c.args.text.now c.args.starts.now c.line_of-line.result c.args.offset c.width-character.result
    c.requires.lines c.line_of-line.ensures.within c.line_of-line.ensures.from c.requires.within
    c.line_of-line.ensures.below c.width-character.ensures
