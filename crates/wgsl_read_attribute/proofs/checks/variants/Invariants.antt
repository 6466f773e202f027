use Rattle.std.proofs.Common.{◌≡◌, ◌++◌, map, option_map, reverse}
use Rattle.wgsl_model.specs.Grammar.Checks.{variants_in}
use Rattle.wgsl_tree_expression.specs.View.{expression_view, type_expression_view}
use Rattle.wgsl_read_attribute.specs.Variants.{variants_before, operands_before}
use Rattle.wgsl_read_attribute.proofs.checks.variants.Given as goal

abbrev pub invariant-types : goal.invariant-types
invariant-types l =
    variants_in (expression_view l.fn.expression)
    ≡ option_map (λ front. front ++ reverse (map type_expression_view l.types.items))
    (variants_before (option_map expression_view l.rest))

abbrev pub decreases-types : goal.decreases-types
decreases-types l = operands_before (option_map expression_view l.rest)
