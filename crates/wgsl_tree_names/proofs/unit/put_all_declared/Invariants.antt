use Rattle.std.proofs.Common.{drop, map}
use Rattle.wgsl_model_names.specs.Names.{each, global_declared}
use Rattle.wgsl_span.specs.View.{spanned_view}
use Rattle.wgsl_tree_unit.specs.View.{global_declaration_view}
use Rattle.wgsl_tree_names.specs.Found.{Collects}
use Rattle.wgsl_tree_names.proofs.unit.put_all_declared.Given as goal

abbrev pub invariant-nodes : goal.invariant-nodes
invariant-nodes l = Collects (each global_declared
    (map (spanned_view global_declaration_view) (drop l.i l.nodes.items))) l.fn.found l.found
