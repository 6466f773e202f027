use Rattle.std.proofs.Common.{◌∙◌, ap, map, option_map}
use Rattle.std.proofs.lemmas.List.{map_push}
use Rattle.wgsl_tree_expression.specs.View.{expression_view, type_expression_view}
use Rattle.wgsl_read_attribute.proofs.Variants.{met, all_met}
use Rattle.wgsl_read_attribute.proofs.checks.variants.Goals as goal

pub types-preserved : goal.types-preserved
types-preserved c =
    let last = c.in-Some-last_variant in
    met _ (option_map expression_view c.types.rest) (option_map expression_view last.front)
    (expression_view c.in-Some.joined) (type_expression_view last.ty) _ _
    c.types.invariant
    (ap (option_map expression_view) c.in-Some.is)
    last.ensures.some
    (ap (map type_expression_view) c.in_ok-push.ensures.items
    ∙ map_push type_expression_view c.types.types.items last.ty)

pub returns : goal.returns
returns c = all_met type_expression_view _ _ c.types.types.items _ c.types.invariant
    (ap (option_map expression_view) c.in_default.is) c.reverse.ensures.items
