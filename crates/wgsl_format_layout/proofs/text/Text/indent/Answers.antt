use Rattle.std.proofs.Common.{◌+◌, arith}
use Rattle.wgsl_format_layout.proofs.Added.{adds_none, level_more}
use Rattle.wgsl_format_layout.proofs.text.Text.indent.Goals as goal

pub levels-init : goal.levels-init
levels-init c = adds_none c.args.self.now

pub levels-preserved : goal.levels-preserved
levels-preserved c = level_more c.args.self.now c.levels.self c.put_level.new.self c.levels.counter
    (c.levels.counter + 1) c.levels.invariant c.in_ok-put_level.ensures (omega arith)
