use Rattle.std.proofs.Common.{rules}
use Rattle.wgsl_tree_renamed.specs.NewNames.{pairs}
use Rattle.wgsl_tree_renamed.proofs.new_names.NewNames.new.Goals as goal

pub returns : goal.returns
unfolding pairs
returns c = search rules
