use Rattle.wgsl_tree_renamed.specs.NewNames.{renaming_by}
use Rattle.wgsl_tree_renamed.proofs.unit.rename.Goals as goal

pub returns : goal.returns
unfolding renaming_by
returns c = λ i. record {
  global_directives = c.in_ok-renamed.ensures i;
  global_declarations = c.in_ok-renamed-2.ensures i;
}
