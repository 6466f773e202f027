use Rattle.std.proofs.Common.{rules, sym, ap, ◌∙◌}
use Rattle.std.specs.Option.{option_map}
use Rattle.wgsl_model.specs.Trees.Attributes.{custom}
use Rattle.wgsl_model.specs.Grammar.Checks.{right}
use Rattle.wgsl_tree_attribute.specs.View.{expressions_view}
use Rattle.wgsl_read_attribute.specs.Known.{checked_attribute}
use Rattle.wgsl_read_attribute.proofs.UntemplatedNames.{custom_is}
use Rattle.wgsl_read_attribute.proofs.attribute_nodes.make_attribute.Goals as goal

pub returns-in_ok-into_string-in_default : goal.returns-in_ok-into_string-in_default
returns-in_ok-into_string-in_default c =
    let arguments = option_map expressions_view c.args.arguments in
    let kept = custom_is c.as_str.result.now arguments (search rules) in
    ap (λ name. checked_attribute name arguments) (sym c.as_str.ensures) ∙ kept
    ∙ ap (λ name. right (custom (record { name = name; arguments = arguments })))
    (c.as_str.ensures ∙ sym c.in_ok-into_string-in_default.ensures)
