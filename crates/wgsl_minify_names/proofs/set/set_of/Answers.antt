use Rattle.std.proofs.Common.{[]}
use Rattle.wgsl_minify_names.proofs.Lists.{is_in-inserted}
use Rattle.wgsl_minify_names.proofs.set.set_of.Goals as goal

pub loop-name-preserved : goal.loop-name-preserved
loop-name-preserved c = λ x. is_in-inserted c.args.names.now c.loop-name.name-index c.loop-name.set.keys
    c.insert.new.self.keys (record { ref_ptr = (0, 0); now = [] }) c.loop-name-test.true
    c.in_ok-insert.ensures.keys x (c.loop-name.invariant x)
