use Rattle.wgsl_tree_path.proofs.Parts.{one_part, more_parts}
use Rattle.wgsl_tree_path.proofs.read.first_part.Goals as goal

pub returns-in-Some : goal.returns-in-Some
returns-in-Some c = more_parts c.args.text.now c.in-Some.part c.in-Some.rest c.in-Some.ensures.cases

pub returns-in-None : goal.returns-in-None
returns-in-None c = one_part c.args.text.now c.in-None.ensures.cases
