use Rattle.wgsl_server_protocol.proofs.Ascii.{told, told_text}
use Rattle.wgsl_server_protocol.proofs.front.is_ascii.Goals as goal

pub returns-clause-ascii : goal.returns-clause-ascii
returns-clause-ascii c = told c.is_ascii.result c.args.bytes.now c.is_ascii.ensures.cases

pub returns-clause-text : goal.returns-clause-text
returns-clause-text c = told_text c.is_ascii.result c.args.bytes.now c.is_ascii.ensures.cases
