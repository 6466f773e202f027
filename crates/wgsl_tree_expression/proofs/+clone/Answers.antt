use Rattle.std.proofs.Common.{rules, ◌∙◌, sym, ap, Some}
use Rattle.std.proofs.lemmas.List.{take_all}
use Rattle.wgsl_model.specs.Trees.Expressions.{call, type_expression, template}
use Rattle.wgsl_tree_expression.specs.declared.expression.Expression.TheViews.{out-FunctionCall, out-TypeExpression}
use Rattle.wgsl_tree_expression.specs.View.{ident_name, type_expression_view, expression_nodes_view, template_arg_nodes_view, template_args_view}
use Rattle.wgsl_tree_expression.proofs.Views.{call_view_out, type_view_out, call_view_roll, type_view_roll}
use Rattle.wgsl_tree_expression.proofs.Copies.{node_more, arg_more}
use Rattle.wgsl_tree_expression.proofs.+clone.Goals as goal

pub function_call::FunctionCallCloneWith::clone_with-arguments-preserved :
    goal.function_call::FunctionCallCloneWith::clone_with-arguments-preserved
function_call::FunctionCallCloneWith::clone_with-arguments-preserved t c =
    ap expression_nodes_view c.in_ok-push.ensures.items
    ∙ node_more c.deref-argument-items.result.now c.arguments.arguments.items
    c.arguments.argument-index c.argument-item.result c.in_ok-clone_node.field-0
    (search rules) c.argument-item.is c.arguments.invariant c.in_ok-clone_node.ensures

pub function_call::FunctionCallCloneWith::clone_with-returns :
    goal.function_call::FunctionCallCloneWith::clone_with-returns
function_call::FunctionCallCloneWith::clone_with-returns t c = record {
  copy =
      let f = out-FunctionCall c.args.self.now in
      call_view_roll (record { ty = c.in_ok-ty.ty; arguments = c.arguments.arguments })
      ∙ sym (call_view_out c.args.self.now
      ∙ ap (λ t. call t (expression_nodes_view f.arguments.items)) (sym c.in_ok-ty.ensures.copy)
      ∙ ap (λ xs. call (type_expression_view c.in_ok-ty.ty) (expression_nodes_view xs)) (sym (take_all _
      c.deref-argument-items.result.now c.arguments-test.false ∙ c.deref-argument-items.ensures.value))
      ∙ ap (call (type_expression_view c.in_ok-ty.ty)) (sym c.arguments.invariant));
}

pub type_expression::TypeExpressionCloneWith::clone_with-arguments-preserved :
    goal.type_expression::TypeExpressionCloneWith::clone_with-arguments-preserved
type_expression::TypeExpressionCloneWith::clone_with-arguments-preserved t c =
    ap template_arg_nodes_view c.in_ok-push-in-Some.ensures.items
    ∙ arg_more c.deref-argument-items.result.now c.arguments.copied.items c.arguments.argument-index
    c.argument-item.result c.in_ok-clone_with-in-Some.field-0
    (search rules) c.argument-item.is c.arguments.invariant c.in_ok-clone_with-in-Some.ensures.copy

pub type_expression::TypeExpressionCloneWith::clone_with-returns-after-arguments :
    goal.type_expression::TypeExpressionCloneWith::clone_with-returns-after-arguments
type_expression::TypeExpressionCloneWith::clone_with-returns-after-arguments t c = record {
  copy =
      let e = out-TypeExpression c.args.self.now in
      type_view_roll c.in_ok-ident.ident (Some c.arguments.copied)
      ∙ sym (type_view_out c.args.self.now
      ∙ ap (λ s. type_expression s (template_args_view e.template_args)) (sym c.in_ok-ident.ensures.copy)
      ∙ ap (λ o. type_expression (ident_name c.in_ok-ident.ident) (template_args_view o)) c.in-Some.is
      ∙ ap (λ xs. type_expression (ident_name c.in_ok-ident.ident) (template (template_arg_nodes_view xs)))
      (sym (take_all _ c.deref-argument-items.result.now c.arguments-test.false ∙ c.deref-argument-items.ensures.value))
      ∙ ap (λ xs. type_expression (ident_name c.in_ok-ident.ident) (template xs)) (sym c.arguments.invariant));
}
