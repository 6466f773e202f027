use Rattle.std.proofs.Common.{ap, ◌∙◌}
use Rattle.wgsl_model_names.specs.Names.{directive_names, each, global_declared, global_names, unit_names}
use Rattle.wgsl_tree_unit.specs.View.{unit_view}
use Rattle.wgsl_tree_names.specs.Found.{met_before}
use Rattle.wgsl_tree_names.proofs.Found.{all_met}
use Rattle.wgsl_tree_names.proofs.unit.occurrences.Goals as goal

pub returns : goal.returns
returns c =
    let u = unit_view c.args.unit.now in
    c.into_list.ensures ∙ c.in_ok-put_all_declared.ensures
    ∙ ap (met_before (each global_declared u.global_declarations)) (c.in_ok-put_names-2.ensures
    ∙ ap (met_before (each directive_names u.global_directives)) (c.in_ok-put_names.ensures
    ∙ ap (met_before (each global_names u.global_declarations)) c.new-found.ensures))
    ∙ all_met (unit_names u)
