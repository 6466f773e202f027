use Rattle.std.proofs.Common.{rules}
use Rattle.wgsl_program.proofs.Written.{wrote_then}
use Rattle.wgsl_format_files.proofs.printing.put_both.Goals as goal

pub returns : goal.returns
returns g c = wrote_then c.put.result c.put-2.result _ _ _ _ _ c.put.ensures (search rules) c.put-2.ensures
