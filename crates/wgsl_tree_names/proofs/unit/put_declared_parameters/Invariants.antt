use Rattle.std.proofs.Common.{drop, map}
use Rattle.wgsl_model_names.specs.Names.{each, parameter_declared}
use Rattle.wgsl_tree_unit.specs.View.{parameter_view}
use Rattle.wgsl_tree_names.specs.Found.{Collects}
use Rattle.wgsl_tree_names.proofs.unit.put_declared_parameters.Given as goal

abbrev pub invariant-parameters : goal.invariant-parameters
invariant-parameters l =
    Collects (each parameter_declared (map parameter_view (drop l.i l.parameters.items))) l.fn.found l.found
