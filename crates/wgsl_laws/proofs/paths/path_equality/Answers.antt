use Rattle.wgsl_tree_path.specs.View.{path_view}
use Rattle.wgsl_tree_path.specs.Equality.{equal_paths}
use Rattle.wgsl_tree_path.proofs.Equalities.{paths_agree, paths_hash, equivalence}
use Rattle.wgsl_laws.proofs.paths.path_equality.Goals as goal

pub returns-clause-equivalence : goal.returns-clause-equivalence
returns-clause-equivalence c = equivalence equal_paths path_view paths_agree

pub returns-clause-equal : goal.returns-clause-equal
returns-clause-equal c = paths_agree

pub returns-clause-hash : goal.returns-clause-hash
returns-clause-hash c = paths_hash
