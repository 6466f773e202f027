use Rattle.wgsl_buffers.specs.Items.{start_and_end, lists_before}
use Rattle.wgsl_buffers.specs.Items.{Stored}
use Rattle.wgsl_buffers.proofs.lists.fill.Given as goal

abbrev pub invariant-bytes : goal.invariant-bytes
invariant-bytes l = Stored start_and_end (lists_before l.templates.lists.spans.items l.start) l.buffer l.count
