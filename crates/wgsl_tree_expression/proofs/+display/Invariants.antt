use Rattle.std.proofs.Common.{take, codes, ◌≡◌, ◌-◌, ◌≤◌}
use Rattle.std.specs.List.{join_by}
use Rattle.std.specs.Fmt.{HasWritten, IsPlainFormatter}
use Rattle.wgsl_model.specs.Printed.Expressions.{print_expression, print_expression_node}
use Rattle.wgsl_writer.proofs.Joins.{before}
use Rattle.wgsl_tree_expression.specs.View.{expression_view, expression_node_view, template_arg_view}
use Rattle.wgsl_tree_expression.specs.Chains.{below, text_above}
use Rattle.wgsl_tree_expression.proofs.+display.Given as goal
use denote.Shadow.{shadow}
use denote.Text.{Utf8}

abbrev pub invariant-function_call::FunctionCallDisplay::fmt-arguments :
    goal.invariant-function_call::FunctionCallDisplay::fmt-arguments
invariant-function_call::FunctionCallDisplay::fmt-arguments g l =
    (l.before ≡ before (codes ", ") l.argument-index)
    × shadow (Utf8 l.before)
    × (IsPlainFormatter l.initial.f → HasWritten g.W.Write.write_str_gives l.initial.f (join_by (λ n.
    print_expression (expression_view n.node.value)) (codes ", ") (take l.argument-index l.argument-items)) l.f)

abbrev pub invariant-type_expression::TypeExpressionDisplay::fmt-arguments :
    goal.invariant-type_expression::TypeExpressionDisplay::fmt-arguments
invariant-type_expression::TypeExpressionDisplay::fmt-arguments g l =
    (l.before ≡ before (codes ", ") l.argument-index)
    × shadow (Utf8 l.before)
    × (IsPlainFormatter l.initial.f → HasWritten g.W.Write.write_str_gives l.initial.f (join_by (λ a.
    print_expression_node (template_arg_view a)) (codes ", ") (take l.argument-index l.argument-items)) l.f)

abbrev pub invariant-chain::write_above-halves : goal.invariant-chain::write_above-halves
invariant-chain::write_above-halves g l =
    (l.left ≤ l.steps)
    × (IsPlainFormatter l.initial.f → HasWritten g.W.Write.write_str_gives l.initial.f
    (text_above (l.steps - l.left) (below l.left (expression_node_view l.top))) l.f)

abbrev pub decreases-chain::write_above-halves : goal.decreases-chain::write_above-halves
decreases-chain::write_above-halves g l = l.left
