use Rattle.std.proofs.Common.{refl}
use Rattle.wgsl_format_layout.proofs.ReadSoFar.{none_so_far, all_read}
use Rattle.wgsl_format_layout.proofs.marks.Marks.read.Goals as goal

pub returns-clause-read : goal.returns-clause-read
returns-clause-read c state h =
    all_read c.args.self.now state c.read_tokens.new.self _ refl c.leave.ensures.closes c.leave.ensures.len
    (c.in_ok-read_tokens.ensures.stopped c.args.self.now state
    (none_so_far c.args.self.now _ state refl c.clear.ensures.items c.clear-2.ensures h))
