use Rattle.std.proofs.Common.{rules}
use Rattle.std.proofs.Output.{has_written_append}
use Rattle.wgsl_tree_simple.proofs.const_assert.UnendedConstAssertDisplay.fmt.Goals as goal

pub returns-clause-writes : goal.returns-clause-writes
returns-clause-writes g c = λ plain ok.
    let one = c.write_attributes.ensures plain (search rules) in
    has_written_append _ _ _ _ _ _ one (c.write.ensures.writes one.plain ok)
