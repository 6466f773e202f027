use Rattle.std.proofs.Common.{drop, map}
use Rattle.wgsl_model_names.specs.Names.{each}
use Rattle.wgsl_tree_names.specs.Found.{Collects}
use Rattle.wgsl_tree_names.proofs.named.VecNamed.put_names.Given as goal

-- what is put are the last parts
abbrev pub invariant-parts : goal.invariant-parts
invariant-parts g l = Collects (each g.T.Named.names (map g.T.Named.view (drop l.i l.self.items)))
    l.fn.found l.found
