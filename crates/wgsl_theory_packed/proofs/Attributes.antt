-- What the packed forms of attributes print.
use Rattle.std.proofs.Common.{ℕ, ◌≡◌, refl, List, [], ◌∷◌, ◌++◌, Option, Some, codes}
use Rattle.wgsl_model.specs.Trees.NamedValues.{severity_text, interpolation_type_text, interpolation_sampling_text, builtin_value_text}
use Rattle.wgsl_model.specs.Trees.Spanned.{Spanned}
use Rattle.wgsl_model.specs.Trees.Expressions.{ExpressionNode}
use Rattle.wgsl_model.specs.Trees.Attributes.{one_argument_text, no_argument_text, Attribute, with_argument, without_argument, builtin, diagnostic, interpolate, workgroup_size, type_constraint, custom, Attributes, TypeConstraint}
use Rattle.wgsl_model.specs.Printed.Attributes.{print_sampling, print_further, print_type_constraint, print_arguments, print_attribute, print_attributes, print_attribute_line, print_attributes_before}
use Rattle.wgsl_model_packed.specs.Rules.{attributes_rule, attributes_line_rule, attributes_space_rule, nodes_rule, node_rule, nothing_rule, types_rule, part_rule, further_word_rule, further_node_rule, arguments_rule}
use Rattle.wgsl_model_packed.specs.Printing.{text_of_rule}
use Rattle.wgsl_model_packed.specs.Expressions.{packed_expression_node, packed_optional, packed_list}
use Rattle.wgsl_model_packed.specs.Attributes.{packed_type_constraint, packed_attribute, packed_attribute_node, packed_attribute_line, packed_attributes_before}
use Rattle.wgsl_theory_packed.specs.Shown.{Shows}
use Rattle.wgsl_theory_packed.proofs.Shown.{◌▸◌, ◌before◌, last, last_closed, in_turn, shown_plain, shown_line, shown_text, shown_span, shown_rule}
use Rattle.wgsl_theory_packed.proofs.Lists.{shown_none, shows_optional, shows_items, shows_list}
use Rattle.wgsl_theory_packed.proofs.Expressions.{shows_expression_node, shows_type}

-- a name, and the types that it may be
pub shows_type_constraint : {d : ℕ} (t : TypeConstraint) →
    Shows d (codes "$") (packed_type_constraint t) (print_type_constraint t)
shows_type_constraint t = shown_rule refl (in_turn (shown_text t.ident before shown_plain (codes ", ") refl
    before last (shows_list types_rule part_rule (codes " | ") refl refl (shown_plain (codes " | ") refl)
    shows_type t.variants)))

-- an expression that may be left out, after another
shows_further : {d : ℕ} (e : Option ExpressionNode) →
    Shows d (codes "$") (packed_optional further_node_rule packed_expression_node e) (print_further e)
shows_further = shows_optional further_node_rule print_further refl refl
    (λ e. shown_plain (codes ", ") refl ▸ shows_expression_node e)

-- a list of arguments in parentheses, if there is one
shows_arguments : {d : ℕ} (arguments : Option (List ExpressionNode)) →
    Shows d (codes "$") (packed_optional arguments_rule
    (packed_list nothing_rule nodes_rule node_rule packed_expression_node) arguments)
    (print_arguments arguments)
shows_arguments = shows_optional arguments_rule print_arguments refl refl (λ es. in_turn
    (shown_plain (codes "(") refl before last_closed
    (shows_list nodes_rule node_rule (codes ", ") refl refl (shown_plain (codes ", ") refl) shows_expression_node es)
    (shown_plain (codes ")") refl)))

pub shows_attribute : {d : ℕ} (a : Attribute) → Shows d (codes "$") (packed_attribute a) (print_attribute a)
shows_attribute (with_argument name e) = shown_rule refl (in_turn (shown_plain (codes "@") refl
    before shown_text (one_argument_text name) before shown_plain (codes "(") refl
    before last_closed (shows_expression_node e) (shown_plain (codes ")") refl)))
shows_attribute (without_argument name) =
    shown_rule refl (shown_plain (codes "@") refl ▸ shown_text (no_argument_text name))
shows_attribute (builtin value) = shown_rule refl (in_turn (shown_plain (codes "@builtin(") refl
    before last_closed (shown_text (builtin_value_text value)) (shown_plain (codes ")") refl)))
shows_attribute (diagnostic x) = shown_rule refl (in_turn (shown_plain (codes "@diagnostic(") refl
    before shown_text (severity_text x.severity) before shown_plain (codes ", ") refl
    before last_closed (shown_text x.rule) (shown_plain (codes ")") refl)))
shows_attribute (interpolate i) = shown_rule refl (in_turn (shown_plain (codes "@interpolate(") refl
    before shown_text (interpolation_type_text i.ty)
    before last_closed (shows_optional further_word_rule print_sampling refl refl
    (λ sampling. shown_plain (codes ", ") refl ▸ shown_text (interpolation_sampling_text sampling)) i.sampling)
    (shown_plain (codes ")") refl)))
shows_attribute (workgroup_size w) = shown_rule refl (in_turn (shown_plain (codes "@workgroup_size(") refl
    before shows_expression_node w.x before shows_further w.y
    before last_closed (shows_further w.z) (shown_plain (codes ")") refl)))
shows_attribute (type_constraint t) = shown_rule refl (in_turn (shown_plain (codes "@type(") refl
    before last_closed (shows_type_constraint t) (shown_plain (codes ")") refl)))
shows_attribute (custom c) = shown_rule refl (in_turn (shown_plain (codes "@") refl
    before shown_text c.name before last (shows_arguments c.arguments)))

pub shows_attribute_node : {d : ℕ} (a : Spanned Attribute) →
    Shows d (codes "%$") (packed_attribute_node a) (print_attribute a.node)
shows_attribute_node a = shown_span a.span ▸ shows_attribute a.node

-- attributes with a space between each two, and an end after them if there are any
shows_attributes : {d : ℕ} (end_rule : ℕ) (end : List ℕ) → text_of_rule end_rule ≡ Some (codes "%$" ++ end) →
    Shows d end [] end → (attributes : Attributes) →
    Shows d (codes "$") (packed_list nothing_rule attributes_rule end_rule packed_attribute_node attributes)
    (print_attributes end attributes)
shows_attributes end_rule end is after [] = shown_none
shows_attributes end_rule end is after (a ∷ more) = shows_items attributes_rule end_rule (codes " ") end refl is
    (shown_plain (codes " ") refl) after shows_attribute_node a more

-- attributes on a line of their own
pub shows_attribute_line : {d : ℕ} (attributes : Attributes) →
    Shows d (codes "$") (packed_attribute_line attributes) (print_attribute_line attributes)
shows_attribute_line = shows_attributes attributes_line_rule (codes "\n") refl shown_line

-- attributes before what they are on
pub shows_attributes_before : {d : ℕ} (attributes : Attributes) →
    Shows d (codes "$") (packed_attributes_before attributes) (print_attributes_before attributes)
shows_attributes_before = shows_attributes attributes_space_rule (codes " ") refl (shown_plain (codes " ") refl)
