use Rattle.std.proofs.Common.{arith, ◌≡◌, ◌≢◌, ◌≤◌, ◌-◌, length, [], sym, ap, ◌∙◌, ◌++◌, ◌∷◌, append_assoc}
use Rattle.std.proofs.lemmas.Result.{on_ok_weaker}
use Rattle.wgsl_model.specs.Printed.Expressions.{expression_in}
use Rattle.wgsl_model.specs.Trees.Expressions.{type_expression}
use Rattle.wgsl_model_packed.specs.Expressions.{leftmost, packed_call, packed_type, packed_expression_node, packed_expressions}
use Rattle.wgsl_model_packed.specs.Printing.{packed_span, packed_text}
use Rattle.wgsl_model_packed.specs.Rules.{binary_rule, call_rule, index_rule, nothing_rule, nodes_rule, node_rule, template_rule}
use Rattle.wgsl_tree_expression.specs.Chains.{below}
use Rattle.wgsl_tree_expression.specs.View.{ident_name, expression_node_view, expression_nodes_view, expression_view, template_arg_nodes_view, template_arg_view, template_args_view, type_expression_view}
use Rattle.wgsl_tree_expression.specs.declared.expression.Expression.TheViews.{out-BinaryExpression, out-FunctionCall, out-IndexingExpression, out-TypeExpression}
use Rattle.wgsl_tree_expression.proofs.Chains.{half_below, below_all, below_parts}
use Rattle.wgsl_tree_expression.proofs.Views.{call_view_out, type_view_out}
use Rattle.wgsl_span.specs.View.{span_view}
use Rattle.wgsl_model.specs.Printed.Operators.{binary_operator_text}
use Rattle.wgsl_tree_words.specs.View.{binary_operator_view}
use Rattle.wgsl_tree_packed.specs.Chains.{after_left}
use Rattle.wgsl_tree_packed.proofs.Chains.{leftmost_after}
use Rattle.wgsl_tree_packed.proofs.Lists.{two_parts, item_written, list_written, nodes_list, args_list}
use Rattle.wgsl_tree_packed.proofs.Views.{binary_view_out, indexing_view_out}
use Rattle.wgsl_tree_packed.proofs.+expressions.Goals as goal

pub chain::pack_above-halves-preserved : goal.chain::pack_above-halves-preserved
chain::pack_above-halves-preserved t c =
    let node = expression_node_view c.args.top.now in
    let s = c.args.steps in
    let l = c.halves.left in
    let u = c.descend-upper.result.1 in
    let view = c.descend-upper.ensures.view in
    let inner : u ≤ l = half_below l u c.descend-upper.ensures.limit in
    let outer : l ≤ s = c.halves.invariant.0 in (
      below_all u l s inner outer,
      λ done at_end.
          c.in_ok-pack_above.ensures done (c.halves.invariant.1 done at_end
          ∙ ap (λ b. done ++ leftmost (expression_in b))
          (sym (below_parts l u node inner) ∙ ap (below (l - u)) (sym view)))
          ∙ ap (λ b. done ++ leftmost (expression_in b)) view,
    )

pub chain::pack_above-returns : goal.chain::pack_above-returns
chain::pack_above-returns t c =
    let node = expression_node_view c.args.top.now in
    let e = expression_in node in
    let one : c.halves.left ≡ 1 = omega (arith, c.halves-test.false, c.if-left-eq0.false) in
    on_ok_weaker c.pack_after.result (λ written done at_end.
    written ∙ ap (λ e. c.halves.out.items ++ after_left (expression_view e)) c.node.ensures
    ∙ ap (λ o. o ++ after_left e) (c.halves.invariant.1 done at_end
    ∙ ap (λ k. done ++ leftmost (expression_in (below k node))) one)
    ∙ append_assoc done (leftmost (expression_in (below 1 node))) (after_left e)
    ∙ ap (λ t. done ++ t) (sym (leftmost_after node))) c.pack_after.ensures

pub expression::pack_call-arguments-preserved : goal.expression::pack_call-arguments-preserved
expression::pack_call-arguments-preserved t c = (
  omega arith,
  item_written nodes_rule node_rule packed_expression_node expression_node_view
      c.deref-item-items.result.now c.arguments.item-index _ _ c.item-item.result _ _ _ _
      c.arguments-test.true c.item-item.is (omega arith) c.item_rule.ensures
      c.in_ok-pack_rule-2.ensures c.in_ok-pack_expression_node.ensures c.arguments.invariant.1,
)

pub expression::pack_call-returns : goal.expression::pack_call-returns
expression::pack_call-returns t c =
    let n = out-FunctionCall c.args.node.now in
    let o = c.args.out.now.items in
    let ty = packed_type (type_expression_view n.ty) in
    let items = c.deref-item-items.result.now in
    let some : length items ≢ 0 = λ none. omega arith in
    two_parts o c.pack_type.new.out.items c.arguments.out.items (call_rule ∷ ty) _
    (two_parts o _ _ (call_rule ∷ []) ty c.in_ok-pack_rule.ensures c.in_ok-pack_type.ensures)
    (list_written nothing_rule nodes_rule node_rule packed_expression_node expression_node_view items
    c.arguments.item-index _ _ c.arguments-test.false some c.arguments.invariant.1)
    ∙ ap (λ t. o ++ (call_rule ∷ (ty ++ t))) (sym (nodes_list items)
    ∙ ap (λ xs. packed_expressions (expression_nodes_view xs)) c.deref-item-items.ensures.value)
    ∙ ap (λ v. o ++ packed_call v) (sym (call_view_out c.args.node.now))

pub expression::pack_index-returns : goal.expression::pack_index-returns
expression::pack_index-returns t c =
    let n = out-IndexingExpression c.args.node.now in
    let o = c.args.out.now.items in
    let base = span_view n.base.span in
    let index = packed_expression_node (expression_node_view n.index) in
    let placed : c.pack_placed.new.out.items ≡ o ++ (index_rule ∷ packed_span base) =
    c.in_ok-pack_placed.ensures ∙ ap (λ s. o ++ (index_rule ∷ packed_span (span_view s))) c.span.ensures in
    on_ok_weaker c.pack_expression_node.result (λ written.
    two_parts o _ _ (index_rule ∷ packed_span base) index placed written
    ∙ ap (λ v. o ++ after_left v) (sym (indexing_view_out c.args.node.now)))
    c.pack_expression_node.ensures

pub expression::pack_right-returns : goal.expression::pack_right-returns
expression::pack_right-returns t c =
    let n = out-BinaryExpression c.args.node.now in
    let o = c.args.out.now.items in
    let left = span_view n.left.span in
    let operator = binary_operator_text (binary_operator_view n.operator) in
    let right = packed_expression_node (expression_node_view n.right) in
    let placed : c.pack_placed.new.out.items ≡ o ++ (binary_rule ∷ packed_span left) =
    c.in_ok-pack_placed.ensures ∙ ap (λ s. o ++ (binary_rule ∷ packed_span (span_view s))) c.span.ensures in
    let operated : c.pack_text.new.out.items ≡ c.pack_placed.new.out.items ++ packed_text operator =
    c.in_ok-pack_text.ensures
    ∙ ap (λ w. c.pack_placed.new.out.items ++ packed_text w) c.binary_operator_word.ensures in
    on_ok_weaker c.pack_expression_node.result (λ written.
    two_parts o c.pack_placed.new.out.items _ (binary_rule ∷ packed_span left)
    (packed_text operator ++ right) placed
    (two_parts c.pack_placed.new.out.items _ _ (packed_text operator) right operated written)
    ∙ ap (λ v. o ++ after_left v) (sym (binary_view_out c.args.node.now)))
    c.pack_expression_node.ensures

pub expression::pack_type-template_args-preserved :
    goal.expression::pack_type-template_args-preserved
expression::pack_type-template_args-preserved t c = (
  omega arith,
  item_written nodes_rule node_rule packed_expression_node template_arg_view
      c.deref-item-items.result.now c.template_args.item-index _ _ c.item-item.result _ _ _ _
      c.template_args-test.true c.item-item.is (omega arith) c.item_rule.ensures
      c.in_ok-pack_rule.ensures c.in_ok-pack_template_arg.ensures c.template_args.invariant.1,
)

pub expression::pack_type-returns : goal.expression::pack_type-returns
expression::pack_type-returns t c =
    let n = out-TypeExpression c.args.node.now in
    let o = c.args.out.now.items in
    let name = ident_name n.ident in
    let items = c.deref-item-items.result.now in
    let some : length items ≢ 0 = λ none. omega arith in
    two_parts o c.pack_word-2.new.out.items c.template_args.out.items
    (template_rule ∷ packed_text name) _
    (c.in_ok-pack_word.ensures ∙ ap (λ n. o ++ (template_rule ∷ packed_text n)) c.name-2.ensures)
    (list_written nothing_rule nodes_rule node_rule packed_expression_node template_arg_view items
    c.template_args.item-index _ _ c.template_args-test.false some c.template_args.invariant.1)
    ∙ ap (λ t. o ++ (template_rule ∷ (packed_text name ++ t))) (sym (args_list items)
    ∙ ap (λ xs. packed_expressions (template_arg_nodes_view xs)) c.deref-item-items.ensures.value)
    ∙ ap (λ a. o ++ packed_type (type_expression name (template_args_view a))) (sym c.in-Some.is)
    ∙ ap (λ v. o ++ packed_type v) (sym (type_view_out c.args.node.now))
