use Rattle.std.proofs.Common.{rules}
use Rattle.wgsl_server_protocol.proofs.Read.{read_some, read_none}
use Rattle.wgsl_server_protocol.proofs.head.number_of.Goals as goal

pub returns-in-Ok : goal.returns-in-Ok
returns-in-Ok c =
    read_some c.in-Ok.number c.args.text.now c.parse.result c.parse.ensures.value.0 (search rules) c.in-Ok.is

pub returns-in-Err : goal.returns-in-Err
returns-in-Err c =
    read_none c.in-Err.field-0 c.args.text.now c.parse.result c.parse.ensures.value.0 (search rules) c.in-Err.is
