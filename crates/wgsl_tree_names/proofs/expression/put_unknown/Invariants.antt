use Rattle.std.proofs.Common.{drop, map}
use Rattle.wgsl_model_names.specs.Names.{each, names_in}
use Rattle.wgsl_model_names.specs.Scopes.{unknown}
use Rattle.wgsl_tree_expression.specs.View.{expression_node_view}
use Rattle.wgsl_tree_names.specs.Found.{Collects}
use Rattle.wgsl_tree_names.proofs.expression.put_unknown.Given as goal

-- what is put are the last arguments
abbrev pub invariant-arguments : goal.invariant-arguments
invariant-arguments l = Collects
    (each (names_in unknown) (map expression_node_view (drop l.i l.arguments.items))) l.fn.found l.found
