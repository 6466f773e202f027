use Rattle.wgsl_read_cursor.proofs.Origins.{text_wants}
use Rattle.wgsl_read_cursor.proofs.origin.Origin.is_out_of_memory.Goals as goal

pub returns-in-Text : goal.returns-in-Text
returns-in-Text c ts ending are = text_wants c.args.self.now ts ending c.in-Text.field-0 c.in-Text.is are
