-- What the tokens that are written from a derived tree derive: the same tree, spans and empty items
-- aside.
use Rattle.std.proofs.Common.{◌≡◌, List, [], ◌∷◌, map, refl, ap, subst, ◌∙◌}
use Rattle.grammar.specs.Tokens.{Token}
use Rattle.grammar.specs.Grammar.{Mode.checking, Means, Derives}
use Rattle.wgsl_model.specs.Trees.Statements as tree
use Rattle.wgsl_model.specs.Trees.Units.{TranslationUnit}
use Rattle.wgsl_model.specs.Trees.StatementsWithoutSpans.{bare_unit}
use Rattle.wgsl_model.specs.Trees.EmptyItems.{full_unit}
use Rattle.wgsl_model.specs.Grammar.Symbols.{Symbol, assignment, increment, decrement, ident, type_specifier, template_list, expressions, call, arguments, literal, primary_expression, singular_expression, component, unary_expression, multiplicative_expression, negated_expression, additive_expression, shift_expression, relational_expression, expression, lhs_expression, attribute, compound_statement, statement, const_assert, switch_clause, case_selector, continuing_statement, for_init, for_update, var_template, typed_ident, struct_member, formal_parameter, global_declaration, var_declaration, const_declaration, override_declaration, alias_declaration, struct_declaration, function_declaration, diagnostic_severity, global_directive, enable_directive, requires_directive, diagnostic_directive, unit, Value}
use Rattle.wgsl_model.specs.Grammar.Written.{written}
use Rattle.wgsl_theory_reread.specs.CanonicalUnits.{canonical, without_place}
use Rattle.wgsl_theory_reread.proofs.Words.{AllWords}
use Rattle.wgsl_theory_reread.proofs.Again.{D, Again, Known, Ended}
use Rattle.wgsl_theory_reread.proofs.Derived.{by_derivation}
use Rattle.wgsl_theory_reread.proofs.Rules.{known_by}
use Rattle.wgsl_theory_reread.proofs.EachRule.ExpressionRules.{ident_rule, component_rule, negated_expression_rule}
use Rattle.wgsl_theory_reread.proofs.EachRule.AttributeRules.{attribute_rule, var_template_rule, diagnostic_severity_rule}
use Rattle.wgsl_theory_reread.proofs.EachRule.RuleTerms.{rule_reads}

-- each rule of the grammar
rules : (n : Symbol) (v : Value n) (xs ys : List Token) → D n v xs ys
    → Means checking Again (written n) v xs ys → Again n v xs ys
rules ident v xs ys here d = ident_rule v xs ys d
rules type_specifier v xs ys here d = known_by type_specifier (rule_reads type_specifier tt) v tt xs ys d
rules template_list v xs ys here d = known_by template_list (rule_reads template_list tt) v tt xs ys d
rules expressions v xs ys here d = known_by expressions (rule_reads expressions tt) v tt xs ys d
rules call v xs ys here d = known_by call (rule_reads call tt) v tt xs ys d
rules arguments v xs ys here d = known_by arguments (rule_reads arguments tt) v tt xs ys d
rules literal v xs ys here d = known_by literal (rule_reads literal tt) v tt xs ys d
rules primary_expression v xs ys here d = known_by primary_expression (rule_reads primary_expression tt) v tt xs ys d
rules singular_expression v xs ys here d = known_by singular_expression (rule_reads singular_expression tt) v tt xs ys d
rules component v xs ys here d = component_rule v xs ys d
rules unary_expression v xs ys here d = known_by unary_expression (rule_reads unary_expression tt) v tt xs ys d
rules multiplicative_expression v xs ys here d = known_by multiplicative_expression
    (rule_reads multiplicative_expression tt) v tt xs ys d
rules negated_expression v xs ys here d = negated_expression_rule v xs ys d
rules additive_expression v xs ys here d = known_by additive_expression (rule_reads additive_expression tt) v tt xs ys d
rules shift_expression v xs ys here d = known_by shift_expression (rule_reads shift_expression tt) v tt xs ys d
rules relational_expression v xs ys here d = known_by relational_expression
    (rule_reads relational_expression tt) v tt xs ys d
rules expression v xs ys here d = known_by expression (rule_reads expression tt) v tt xs ys d
rules lhs_expression v xs ys here d = known_by lhs_expression (rule_reads lhs_expression tt) v tt xs ys d
rules attribute v xs ys here d = attribute_rule v xs ys here d
rules compound_statement v xs ys here d = known_by compound_statement (rule_reads compound_statement tt) v tt xs ys d
rules statement v xs ys here d = known_by statement (rule_reads statement tt) v tt xs ys d
rules const_assert v xs ys here d = known_by const_assert (rule_reads const_assert tt) v tt xs ys d
rules switch_clause v xs ys here d = known_by switch_clause (rule_reads switch_clause tt) v tt xs ys d
rules case_selector v xs ys here d = known_by case_selector (rule_reads case_selector tt) v tt xs ys d
rules continuing_statement v xs ys here d = known_by continuing_statement
    (rule_reads continuing_statement tt) v tt xs ys d
rules for_init v xs ys here d = known_by for_init (rule_reads for_init tt) v tt xs ys d
rules for_update v xs ys here d = known_by for_update (rule_reads for_update tt) v tt xs ys d
rules var_template v xs ys here d = var_template_rule v xs ys d
rules typed_ident v xs ys here d = known_by typed_ident (rule_reads typed_ident tt) v tt xs ys d
rules struct_member v xs ys here d = known_by struct_member (rule_reads struct_member tt) v tt xs ys d
rules formal_parameter v xs ys here d = known_by formal_parameter (rule_reads formal_parameter tt) v tt xs ys d
rules global_declaration v xs ys here d = known_by global_declaration (rule_reads global_declaration tt) v tt xs ys d
rules var_declaration v xs ys here d = known_by var_declaration (rule_reads var_declaration tt) v tt xs ys d
rules const_declaration v xs ys here d = known_by const_declaration (rule_reads const_declaration tt) v tt xs ys d
rules override_declaration v xs ys here d = known_by override_declaration
    (rule_reads override_declaration tt) v tt xs ys d
rules alias_declaration v xs ys here d = known_by alias_declaration (rule_reads alias_declaration tt) v tt xs ys d
rules struct_declaration v xs ys here d = known_by struct_declaration (rule_reads struct_declaration tt) v tt xs ys d
rules function_declaration v xs ys here d = known_by function_declaration
    (rule_reads function_declaration tt) v tt xs ys d
rules diagnostic_severity v xs ys here d = diagnostic_severity_rule v xs ys here d
rules global_directive v xs ys here d = known_by global_directive (rule_reads global_directive tt) v tt xs ys d
rules enable_directive v xs ys here d = known_by enable_directive (rule_reads enable_directive tt) v tt xs ys d
rules requires_directive v xs ys here d = known_by requires_directive (rule_reads requires_directive tt) v tt xs ys d
rules diagnostic_directive v xs ys here d = known_by diagnostic_directive
    (rule_reads diagnostic_directive tt) v tt xs ys d
rules unit v xs ys here d = known_by unit (rule_reads unit tt) v tt xs ys d
rules assignment v xs ys here d = known_by assignment (rule_reads assignment tt) v
    (subst Ended d.1 (refl, λ rest. refl)) xs ys d
rules increment v xs ys here d = known_by increment (rule_reads increment tt) v
    (subst Ended d.1 (refl, λ rest. refl)) xs ys d
rules decrement v xs ys here d = known_by decrement (rule_reads decrement tt) v
    (subst Ended d.1 (refl, λ rest. refl)) xs ys d
rules n v xs ys here d = known_by n (rule_reads n tt) v
    (subst (Known n) (ap (tree.statement d.0.0) d.2.2.1 ∙ d.1) (refl, λ rest. refl)) xs ys d

-- what a symbol derives is read again
pub again : (n : Symbol) (v : Value n) (xs ys : List Token) → D n v xs ys → Again n v xs ys
again = by_derivation Again rules

-- a list without kinds is empty
pub none_left : (ts : List Token) → map without_place ts ≡ [] → ts ≡ []
none_left [] e = refl
none_left (t ∷ ts) e = absurd (cc)

-- tokens with the kinds that are written from a derived module derive it again
pub unit_again : (u : TranslationUnit) (xs : List Token) → AllWords xs
    → Derives checking written unit u xs → (ts : List Token) → map without_place ts ≡ canonical u
    → (w : TranslationUnit) × Derives checking written unit w ts × (bare_unit w ≡ bare_unit (full_unit u))
unit_again u xs words d ts e =
    let found = (again unit u xs [] d words).2 ts [] e in (
      found.value,
      subst (λ (rest : List Token). D unit found.value ts rest)
          (none_left found.rest found.kinds) found.derived,
      found.like,
    )
