use Rattle.std.proofs.Common.{codes, refl}
use Rattle.wgsl_model.specs.Printed.Declarations.{print_selector}
use Rattle.wgsl_writer.proofs.Joins.{displays_joined}
use Rattle.wgsl_tree_simple.specs.View.{selector_view}
use Rattle.wgsl_tree_simple.proofs.parts.SelectorsDisplay.fmt.Goals as goal

pub returns-clause-writes : goal.returns-clause-writes
returns-clause-writes g c = displays_joined selector_view print_selector
    (codes ", ") g.W.Write.write_str_gives _ _ refl _ _ _ c.write_joined.ensures
