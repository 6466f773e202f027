-- What it means that a value is derived wherever its tokens are: tokens of the same kinds derive
-- a value that is the same, ignoring spans.
use Rattle.std.proofs.Common.{◌≡◌, List, map}
use Rattle.std.specs.Option.{option_map}
use Rattle.grammar.specs.Tokens.{Token}
use Rattle.wgsl_model.specs.Trees.Expressions.{ExpressionNode}
use Rattle.wgsl_model.specs.Grammar.Checks.{var_kind_of, attribute_node}
use Rattle.wgsl_model.specs.Trees.WithoutSpans.{bare_spanned, bare_expression, bare_expression_node, bare_call, bare_type, bare_attribute}
use Rattle.wgsl_model.specs.Trees.StatementsWithoutSpans.{bare_attributed, bare_assert, bare_selector, bare_statement, bare_statement_node, bare_compound, bare_switch_clause, bare_continuing, bare_member, bare_parameter, bare_directive, bare_global_declaration, bare_unit}
use Rattle.wgsl_model.specs.Grammar.Symbols.{Symbol, ident, type_specifier, template_list, expressions, call, arguments, literal, primary_expression, singular_expression, component, unary_expression, multiplicative_expression, negated_expression, additive_expression, shift_expression, relational_expression, expression, lhs_expression, attribute, compound_statement, statement, const_assert, switch_clause, case_selector, continuing_statement, for_init, for_update, var_template, typed_ident, struct_member, formal_parameter, global_declaration, var_declaration, const_declaration, override_declaration, alias_declaration, struct_declaration, function_declaration, diagnostic_severity, global_directive, enable_directive, requires_directive, diagnostic_directive, unit, Value}
use Rattle.wgsl_theory_reread.specs.CanonicalUnits.{without_place}
use Rattle.wgsl_theory_reread.proofs.Again.{D, Found}

-- two values of a symbol are the same, spans and places aside; two components are if they make the
-- same of the same base
abbrev pub Alike : (n : Symbol) → Value n → Value n → Type 0
Alike ident w v = without_place w ≡ without_place v
Alike type_specifier w v = bare_type w ≡ bare_type v
Alike template_list w v = map bare_expression_node w ≡ map bare_expression_node v
Alike expressions w v = map bare_expression_node w ≡ map bare_expression_node v
Alike call w v = bare_call w ≡ bare_call v
Alike arguments w v = map bare_expression_node w ≡ map bare_expression_node v
Alike literal w v = w ≡ v
Alike primary_expression w v = bare_expression_node w ≡ bare_expression_node v
Alike singular_expression w v = bare_expression_node w ≡ bare_expression_node v
Alike component w v = (x y : ExpressionNode) → bare_expression_node x ≡ bare_expression_node y
    → bare_expression (w x) ≡ bare_expression (v y)
Alike unary_expression w v = bare_expression_node w ≡ bare_expression_node v
Alike multiplicative_expression w v = bare_expression_node w ≡ bare_expression_node v
Alike negated_expression w v = bare_expression_node w ≡ bare_expression_node v
Alike additive_expression w v = bare_expression_node w ≡ bare_expression_node v
Alike shift_expression w v = bare_expression_node w ≡ bare_expression_node v
Alike relational_expression w v = bare_expression_node w ≡ bare_expression_node v
Alike expression w v = bare_expression_node w ≡ bare_expression_node v
Alike lhs_expression w v = bare_expression_node w ≡ bare_expression_node v
Alike attribute w v = bare_spanned bare_attribute (attribute_node w) ≡ bare_spanned bare_attribute (attribute_node v)
Alike compound_statement w v = bare_compound w ≡ bare_compound v
Alike statement w v = bare_statement_node w ≡ bare_statement_node v
Alike const_assert w v = bare_attributed bare_assert w ≡ bare_attributed bare_assert v
Alike switch_clause w v = bare_switch_clause w ≡ bare_switch_clause v
Alike case_selector w v = bare_selector w ≡ bare_selector v
Alike continuing_statement w v = bare_continuing w ≡ bare_continuing v
Alike for_init w v = bare_statement_node w ≡ bare_statement_node v
Alike for_update w v = bare_statement_node w ≡ bare_statement_node v
Alike var_template w v = var_kind_of w ≡ var_kind_of v
Alike typed_ident w v = (w.0 ≡ v.0) × (option_map bare_type w.1 ≡ option_map bare_type v.1)
Alike struct_member w v = bare_spanned bare_member w ≡ bare_spanned bare_member v
Alike formal_parameter w v = bare_parameter w ≡ bare_parameter v
Alike global_declaration w v = bare_spanned bare_global_declaration w ≡ bare_spanned bare_global_declaration v
Alike var_declaration w v = bare_global_declaration w ≡ bare_global_declaration v
Alike const_declaration w v = bare_global_declaration w ≡ bare_global_declaration v
Alike override_declaration w v = bare_global_declaration w ≡ bare_global_declaration v
Alike alias_declaration w v = bare_global_declaration w ≡ bare_global_declaration v
Alike struct_declaration w v = bare_global_declaration w ≡ bare_global_declaration v
Alike function_declaration w v = bare_global_declaration w ≡ bare_global_declaration v
Alike diagnostic_severity w v = without_place w ≡ without_place v
Alike global_directive w v = bare_directive w ≡ bare_directive v
Alike enable_directive w v = bare_directive w ≡ bare_directive v
Alike requires_directive w v = bare_directive w ≡ bare_directive v
Alike diagnostic_directive w v = bare_directive w ≡ bare_directive v
Alike unit w v = bare_unit w ≡ bare_unit v
Alike n w v = bare_statement w ≡ bare_statement v

-- from each list with the kinds of xs, up to a list with the kinds of ys, what P derives is like a
-- value
abbrev pub Moves : {A : Type 0} → (A → List Token → List Token → Type 0) → (A → A → Type 0) → A
    → List Token → List Token → Type 0
Moves P like v xs ys = (us : List Token) → map without_place us ≡ map without_place xs
    → Found P (λ w. like w v) us (map without_place ys)

-- a value that a symbol derives is derived wherever the tokens are
abbrev pub Moved : (n : Symbol) → Value n → List Token → List Token → Type 0
Moved n v xs ys = Moves (D n) (Alike n) v xs ys
