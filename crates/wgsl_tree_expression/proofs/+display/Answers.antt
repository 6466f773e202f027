use Rattle.std.proofs.Common.{rules, ◌≡◌, ◌≤◌, ◌-◌, sym, ap, ◌∙◌, ◌++◌, codes, take}
use Rattle.std.specs.List.{join_by}
use Rattle.std.proofs.lemmas.List.{take_all}
use Rattle.std.proofs.Output.{has_written_append, has_written_of_eq}
use Rattle.wgsl_span.specs.declared.Spanned.{Spanned}
use Rattle.wgsl_tree_expression.specs.declared.expression.Expression.{Expression}
use Rattle.wgsl_tree_expression.specs.declared.type_expression.TemplateArg.{TemplateArg}
use Rattle.wgsl_tree_expression.specs.View.{expression_view, expression_node_view, function_call_view, type_expression_view, template_arg_view, template_args_view, ident_name}
use Rattle.wgsl_model.specs.Printed.Expressions.{print_expression, print_call, print_type, print_expression_node}
use Rattle.wgsl_tree_expression.specs.declared.expression.Expression.TheViews.{out-FunctionCall, out-TypeExpression}
use Rattle.wgsl_model.specs.Trees.Expressions.{type_expression}
use Rattle.wgsl_tree_expression.proofs.Views.{call_view_out, type_view_out}
use Rattle.wgsl_tree_expression.specs.Chains.{below, text_above}
use Rattle.wgsl_tree_expression.proofs.Chains.{printed_above, above_parts, half_below, below_all}
use Rattle.wgsl_tree_expression.proofs.Texts.{joined_nodes, joined_args}
use Rattle.wgsl_tree_expression.proofs.+display.Goals as goal

pub function_call::FunctionCallDisplay::fmt-returns-clause-writes :
    goal.function_call::FunctionCallDisplay::fmt-returns-clause-writes
function_call::FunctionCallDisplay::fmt-returns-clause-writes g t c = λ plain ok.
    let f = out-FunctionCall c.args.self.now in
    let items = c.deref-argument-items.result.now in
    let head = print_type (type_expression_view f.ty) ++ codes "(" in
    let sep = codes ", " in
    let text = λ (n : Spanned Expression). print_expression (expression_view n.node.value) in
    let all : take c.arguments.argument-index items ≡ f.arguments.items =
    take_all _ items c.arguments-test.false ∙ c.deref-argument-items.ensures.value in
    let same : head ++ join_by text sep (take c.arguments.argument-index items) ++ codes ")"
    ≡ print_call (function_call_view c.args.self.now) =
    ap (λ xs. head ++ join_by text sep xs ++ codes ")") all
    ∙ ap (λ u. head ++ u ++ codes ")") (joined_nodes sep f.arguments.items)
    ∙ ap print_call (sym (call_view_out c.args.self.now)) in
    let one = c.write.ensures.writes plain (search rules) in
    let two = c.arguments.invariant.2 one.plain in
    let three = c.write_str.ensures.writes two.plain ok in
    has_written_of_eq _ _ _ _ _ same (has_written_append _ _ _ _ _ _ (has_written_append _ _ _ _ _ _ one two) three)

pub type_expression::TypeExpressionDisplay::fmt-returns-after-arguments-clause-writes :
    goal.type_expression::TypeExpressionDisplay::fmt-returns-after-arguments-clause-writes
type_expression::TypeExpressionDisplay::fmt-returns-after-arguments-clause-writes g t c = λ plain ok.
    let e = out-TypeExpression c.args.self.now in
    let items = c.deref-argument-items.result.now in
    let args' = c.in-Some.template_args.items in
    let head = ident_name e.ident ++ codes "<" in
    let sep = codes ", " in
    let text = λ (a : TemplateArg). print_expression_node (template_arg_view a) in
    let all : take c.arguments.argument-index items ≡ args' =
    take_all _ items c.arguments-test.false ∙ c.deref-argument-items.ensures.value in
    let same : head ++ join_by text sep (take c.arguments.argument-index items) ++ codes ">"
    ≡ print_type (type_expression_view c.args.self.now) =
    ap (λ xs. head ++ join_by text sep xs ++ codes ">") all
    ∙ ap (λ u. head ++ u ++ codes ">") (joined_args sep args')
    ∙ ap (λ o. print_type (type_expression (ident_name e.ident) (template_args_view o))) (sym c.in-Some.is)
    ∙ ap print_type (sym (type_view_out c.args.self.now)) in
    let one = c.write-in-Some.ensures.writes plain (search rules) in
    let two = c.arguments.invariant.2 one.plain in
    let three = c.write_str.ensures.writes two.plain ok in
    has_written_of_eq _ _ _ _ _ same (has_written_append _ _ _ _ _ _ (has_written_append _ _ _ _ _ _ one two) three)

pub chain::write_chain-returns : goal.chain::write_chain-returns
chain::write_chain-returns g t c = λ plain ok.
    let node = expression_node_view c.args.top.now in
    let one = c.write.ensures.writes plain (search rules) in
    let two = c.write_above.ensures one.plain ok in
    let same : print_expression_node (expression_node_view c.descend-steps.result.0.now)
    ++ text_above c.descend-steps.result.1 node ≡ print_expression_node node =
    ap (λ b. print_expression_node b ++ text_above c.descend-steps.result.1 node) c.descend-steps.ensures.view
    ∙ sym (printed_above c.descend-steps.result.1 node) in
    has_written_of_eq _ _ _ _ _ same (has_written_append _ _ _ _ _ _ one two)

pub chain::write_above-halves-preserved : goal.chain::write_above-halves-preserved
chain::write_above-halves-preserved g t c =
    let node = expression_node_view c.args.top.now in
    let s = c.args.steps in
    let l = c.halves.left in
    let u = c.descend-upper.result.1 in
    let inner : u ≤ l = half_below l u c.descend-upper.ensures.limit in
    let outer : l ≤ s = c.halves.invariant.0 in (
      below_all u l s inner outer,
      λ plain.
          let one = c.halves.invariant.1 plain in
          let two = c.write_above.ensures one.plain (search rules) in
          let same : text_above (s - l) (below l node) ++ text_above (l - u)
          (expression_node_view c.descend-upper.result.0.now) ≡ text_above (s - u) (below u node) =
          ap (λ m. text_above (s - l) (below l node) ++ text_above (l - u) m) c.descend-upper.ensures.view
          ∙ sym (above_parts s l u node inner outer) in
          has_written_of_eq _ _ _ _ _ same (has_written_append _ _ _ _ _ _ one two),
    )
