use Rattle.wgsl_server_text.proofs.LineStarts.{offset_some, offset_none, boundary_in}
use Rattle.wgsl_server_text.proofs.places.offset_in.Goals as goal

pub returns-in-Some-clause-offset : goal.returns-in-Some-clause-offset
returns-in-Some-clause-offset c =
    offset_some c.args.text.now c.args.starts.now c.args.position.line c.requires c.if-position-starts.false
    c.args.encoding c.args.position.character c.in-Some.before c.in-Some.ensures.before

pub returns-in-Some-clause-boundary : goal.returns-in-Some-clause-boundary
returns-in-Some-clause-boundary c =
    boundary_in c.args.text.now c.args.starts.now c.args.position.line c.requires c.if-position-starts.false
    c.in-Some.before c.in-Some.ensures.boundary

pub returns-in-None-clause-offset : goal.returns-in-None-clause-offset
returns-in-None-clause-offset c =
    offset_none c.args.text.now c.args.starts.now c.args.position.line c.requires c.if-position-starts.false
    c.args.encoding c.args.position.character c.in-None.ensures.before
