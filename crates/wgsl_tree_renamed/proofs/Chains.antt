-- What is around the left side of an expression, from the outside in.
use Rattle.std.proofs.Common.{◌≡◌, refl, ap, List, [], ◌∷◌, ◌++◌}
use Rattle.wgsl_model.specs.Trees.Expressions.{ExpressionNode, expression_node}
use Rattle.wgsl_span.specs.declared.Span.{Span}
use Rattle.wgsl_span.specs.View.{span_view}
use Rattle.wgsl_tree_renamed.specs.declared.surrounding.Surrounding.{Surrounding}
use Rattle.wgsl_tree_renamed.specs.Lefts.{all_around, around}

-- the last is around the innermost
pub one_less_around : (above : List (Span × Surrounding)) (s : Span × Surrounding) (node : ExpressionNode)
    → all_around (above ++ (s ∷ [])) node
    ≡ all_around above (expression_node (around s.1 node) (span_view s.0))
one_less_around [] s node = refl
one_less_around (t ∷ above) s node =
    ap (λ n. expression_node (around t.1 n) (span_view t.0)) (one_less_around above s node)
