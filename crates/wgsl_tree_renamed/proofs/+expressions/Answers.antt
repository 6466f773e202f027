use Rattle.std.proofs.Common.{rules, arith, ◌∙◌, [], ◌∷◌, ◌++◌, sym, ap, map, Some}
use Rattle.std.proofs.lemmas.List.{take_all}
use Rattle.wgsl_span.specs.View.{span_view}
use Rattle.wgsl_model.specs.Trees.Expressions as plain
use Rattle.wgsl_model_names.specs.Renamed.{renamed_call, renamed_expression, renamed_node, renamed_type}
use Rattle.wgsl_tree_words.specs.View.{unary_operator_view}
use Rattle.wgsl_tree_expression.specs.View.{expression_node_view, expression_view, ident_name, template_arg_view, template_args_view}
use Rattle.wgsl_tree_expression.specs.declared.expression.Expression.{Expression}
use Rattle.wgsl_tree_expression.specs.declared.expression.Expression.TheViews.{out-FunctionCall, out-TypeExpression, out-UnaryExpression, size-Expression}
use Rattle.wgsl_tree_renamed.specs.Lefts.{all_around}
use Rattle.wgsl_tree_renamed.specs.NewNames.{renaming_by}
use Rattle.wgsl_tree_renamed.proofs.Chains.{one_less_around}
use Rattle.wgsl_tree_renamed.proofs.Lists.{args_renamed, item_more, nodes_renamed}
use Rattle.wgsl_tree_expression.proofs.Views.{call_view_out, call_view_roll, type_view_out, type_view_roll}
use Rattle.wgsl_tree_renamed.proofs.Views.{argument_out, argument_view, parenthesized_out, parenthesized_view, unary_out, unary_view}
use Rattle.wgsl_tree_renamed.proofs.+expressions.Goals as goal

pub chain::renamed_node-chain-preserved : goal.chain::renamed_node-chain-preserved
chain::renamed_node-chain-preserved t c =
    let f = renaming_by c.args.names.now in
    let parts = rw c.in-Around.is at c.in_ok-expression.ensures in
    let above = c.chain.above.items in
    let surrounding = c.in-Around.surrounding in
    let span = c.span-in-Around.result in
    let left = renamed_node f (expression_node_view c.in-Around.left.now) in
    let same = ap size-Expression c.node.ensures in
    record {
      renamed = ap (λ a. all_around a left) c.in_ok-push-in-Around.ensures.items
          ∙ one_less_around above (span, surrounding) left
          ∙ ap (λ e. all_around above (plain.expression_node e (span_view span))) parts.0
          ∙ (λ i. all_around above (plain.expression_node (renamed_expression f (expression_view (c.node.ensures i)))
          (span_view (c.span-in-Around.ensures i))))
          ∙ c.chain.invariant.renamed;
      smaller = omega (arith, parts.1, same, c.chain.invariant.smaller);
    }

pub expression::renamed_outermost-returns-in_ok-expression-in-Parenthesized :
    goal.expression::renamed_outermost-returns-in_ok-expression-in-Parenthesized
expression::renamed_outermost-returns-in_ok-expression-in-Parenthesized t c =
    let f = renaming_by c.args.names.now in
    parenthesized_view c.in_ok-expression-in-Parenthesized.expression
    ∙ ap plain.parenthesized c.in_ok-expression-in-Parenthesized.ensures
    ∙ sym (ap (renamed_expression f) (ap (λ (e : Expression). expression_view e) c.in-Parenthesized.is
    ∙ parenthesized_out c.in-Parenthesized.inner))

pub expression::renamed_outermost-returns-in_ok-operand-in-Unary :
    goal.expression::renamed_outermost-returns-in_ok-operand-in-Unary
expression::renamed_outermost-returns-in_ok-operand-in-Unary t c =
    let f = renaming_by c.args.names.now in
    let operator = (out-UnaryExpression c.in-Unary.inner).operator in
    unary_view operator c.in_ok-operand-in-Unary.operand
    ∙ ap (plain.unary (unary_operator_view operator)) c.in_ok-operand-in-Unary.ensures
    ∙ sym (ap (renamed_expression f) (ap (λ (e : Expression). expression_view e) c.in-Unary.is
    ∙ unary_out c.in-Unary.inner))

pub expression::renamed_call-arguments-preserved : goal.expression::renamed_call-arguments-preserved
expression::renamed_call-arguments-preserved t c =
    let f = renaming_by c.args.names.now in
    let items = c.arguments.arguments.items in
    ap (map expression_node_view) {y = items ++ (c.in_ok-renamed_node.field-0 ∷ [])} c.in_ok-push.ensures.items
    ∙ item_more expression_node_view (renamed_node f) c.deref-argument-items.result.now
    items c.arguments.argument-index c.argument-item.result
    c.in_ok-renamed_node.field-0 (search rules) c.argument-item.is c.arguments.invariant
    c.in_ok-renamed_node.ensures

pub expression::renamed_call-returns : goal.expression::renamed_call-returns
expression::renamed_call-returns t c =
    let f = renaming_by c.args.names.now in
    let arguments = nodes_renamed f (out-FunctionCall c.args.call.now).arguments.items _
    (c.arguments.invariant ∙ ap (λ xs. map (renamed_node f) (map expression_node_view xs))
    (take_all _ c.deref-argument-items.result.now c.arguments-test.false ∙ c.deref-argument-items.ensures.value)) in
    call_view_roll (record { ty = c.in_ok-ty.ty; arguments = c.arguments.arguments })
    ∙ (λ i. plain.call (c.in_ok-ty.ensures i) (arguments i))
    ∙ sym (ap (renamed_call f) (call_view_out c.args.call.now))

pub expression::renamed_type-arguments-preserved : goal.expression::renamed_type-arguments-preserved
expression::renamed_type-arguments-preserved t c =
    let f = renaming_by c.args.names.now in
    let same = argument_view c.in_ok-expression.expression ∙ c.in_ok-expression.ensures
    ∙ sym (ap (renamed_node f) (argument_out c.argument-item.result)) in
    ap (map template_arg_view) c.in_ok-push.ensures.items
    ∙ item_more template_arg_view (renamed_node f) c.deref-argument-items.result.now
    c.arguments.arguments.items c.arguments.argument-index c.argument-item.result _
    (search rules) c.argument-item.is c.arguments.invariant same

pub expression::renamed_type-returns : goal.expression::renamed_type-returns
expression::renamed_type-returns t c =
    let f = renaming_by c.args.names.now in
    let arguments = args_renamed f c.in-Some.template_args.items _
    (c.arguments.invariant ∙ ap (λ xs. map (renamed_node f) (map template_arg_view xs))
    (take_all _ c.deref-argument-items.result.now c.arguments-test.false ∙ c.deref-argument-items.ensures.value)) in
    type_view_roll c.in_ok-ident.ident (Some c.arguments.arguments)
    ∙ (λ i. plain.type_expression (c.in_ok-ident.ensures i) (plain.template (arguments i)))
    ∙ sym (ap (renamed_type f) (type_view_out c.args.ty.now ∙ ap (λ o. plain.type_expression
    (ident_name (out-TypeExpression c.args.ty.now).ident) (template_args_view o)) c.in-Some.is))
