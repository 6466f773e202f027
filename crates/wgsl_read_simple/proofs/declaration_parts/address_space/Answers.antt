use Rattle.std.proofs.Common.{◌≡◌, Some, None, map, option_map, ap, ◌∙◌, Bor, List, ℕ, rules}
use Rattle.wgsl_model.specs.Trees.Expressions.{ExpressionNode}
use Rattle.wgsl_model.specs.Grammar.Checks.{untemplated_word}
use Rattle.wgsl_model.specs.Trees.NamedValues.{address_spaces}
use Rattle.wgsl_tree_expression.specs.View.{template_arg_view}
use Rattle.wgsl_tree_simple.specs.View.{var_template_view}
use Rattle.wgsl_read_attribute.specs.Counted.{one_to_three, seen_by, space_with_mode}
use Rattle.wgsl_read_attribute.proofs.Counts.{seen, space_of, space_is}
use Rattle.wgsl_read_attribute.proofs.Templates.{argument_view, told}
use Rattle.wgsl_read_simple.proofs.declaration_parts.address_space.Goals as goal

pub returns-in-Some-default-default-None : goal.returns-in-Some-default-default-None
returns-in-Some-default-default-None c =
    let items = c.args.template.items in
    let space = c.in-Some-default-default-None.space in
    let mode = c.in-Some-default-default-None.mode in
    let counted : one_to_three items ≡ Some (space, mode, None) = search rules in
    let checked =
    space_is (map template_arg_view items)
    ∙ ap space_of (seen template_arg_view items ∙ ap (option_map (seen_by template_arg_view)) counted)
    ∙ ap (λ (e : ExpressionNode). space_with_mode (untemplated_word address_spaces e)
    (option_map template_arg_view mode)) (argument_view space) in
    told c.space_with_mode.result var_template_view
    (λ (text : Bor (List ℕ)). text.now) _ _ checked c.space_with_mode.ensures
