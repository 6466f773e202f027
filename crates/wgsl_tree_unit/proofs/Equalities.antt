-- `==` of modules, of their directives and of their declarations is sameness of their codes.
use Rattle.std.proofs.Common.{true, ◌&&◌, ◌==◌, ◌≡◌, ◌↔◌, refl, sym, subst, string_bytes}
use Rattle.std.specs.Cmp.{IsEquivalence, on_equiv}
use Rattle.std.specs.Cmp.Lexicographic.{pointwise}
use Rattle.wgsl_model.specs.Trees.StatementsWithoutSpans.{bare_attributed, bare_directive, bare_type_alias, bare_member, bare_struct, bare_parameter, bare_function, bare_global_declaration, bare_unit}
use Rattle.wgsl_span.specs.Spanned.{spanned_node}
use Rattle.wgsl_span.specs.View.{spanned_view}
use Rattle.wgsl_tree_words.specs.declared.words_nodes.DiagnosticSeverity.TheVariants as severity
use Rattle.wgsl_tree_expression.specs.View.{ident_name, type_expression_view}
use Rattle.wgsl_tree_attribute.proofs.Equalities.{options_same, lists_same, attribute_lists_same, agree, severity_same}
use Rattle.wgsl_tree_statement.specs.View.{compound_statement_view}
use Rattle.wgsl_tree_simple.proofs.Equalities.{declarations_same, asserts_same, agree_after}
use Rattle.wgsl_tree_code.specs.Code.{text, attributed_code}
use Rattle.wgsl_tree_code.proofs.Reading.{type_expression_there}
use Rattle.wgsl_tree_code.specs.Same.{same}
use Rattle.wgsl_tree_code.specs.Laws.{same_equivalence}
use Rattle.wgsl_tree_code.specs.ExpressionNodes.{type_code}
use Rattle.wgsl_tree_code.specs.StatementNodes.{compound_code}
use Rattle.wgsl_tree_code.specs.UnitNodes.{diagnostic_directive_code, enable_directive_code, requires_directive_code, global_directive_code, type_alias_code, member_code, struct_member_node_code, struct_code, parameter_code, function_code, global_declaration_code, global_declaration_node_code, unit_code}
use Rattle.wgsl_tree_code.proofs.SpanlessUnitNodes as law
use Rattle.wgsl_tree_unit.specs.declared.diagnostic.DiagnosticDirective.{DiagnosticDirective}
use Rattle.wgsl_tree_unit.specs.declared.extensions.EnableDirective.{EnableDirective}
use Rattle.wgsl_tree_unit.specs.declared.extensions.RequiresDirective.{RequiresDirective}
use Rattle.wgsl_tree_unit.specs.declared.directive.GlobalDirective.{GlobalDirective}
use Rattle.wgsl_tree_unit.specs.declared.directive.GlobalDirective.TheVariants as directive
use Rattle.wgsl_tree_unit.specs.declared.type_alias.TypeAlias.{TypeAlias}
use Rattle.wgsl_tree_unit.specs.declared.structure.StructMember.{StructMember}
use Rattle.wgsl_tree_unit.specs.declared.structure.Struct.{Struct}
use Rattle.wgsl_tree_unit.specs.declared.function.FormalParameter.{FormalParameter}
use Rattle.wgsl_tree_unit.specs.declared.function.Function.{Function}
use Rattle.wgsl_tree_unit.specs.declared.global_declaration.GlobalDeclaration.{GlobalDeclaration}
use Rattle.wgsl_tree_unit.specs.declared.global_declaration.GlobalDeclaration.TheVariants as declaration
use Rattle.wgsl_tree_unit.specs.declared.unit.TranslationUnit.{TranslationUnit}
use Rattle.wgsl_tree_unit.specs.View.{diagnostic_directive_view, enable_directive_view, requires_directive_view, global_directive_view, type_alias_view, member_view, struct_view, parameter_view, function_view, global_declaration_view, unit_view}
use Rattle.wgsl_tree_unit.specs.Equality.{equal_diagnostics, equal_enables, equal_requires, equal_directives, equal_type_aliases, equal_members, equal_structs, equal_parameters, equal_functions, equal_global_declarations, equal_units}

-- directives
diagnostics_same : (a b : DiagnosticDirective)
    → equal_diagnostics a b ≡ same (attributed_code diagnostic_directive_code (diagnostic_directive_view a))
    (attributed_code diagnostic_directive_code (diagnostic_directive_view b))
diagnostics_same a b = λ i. attribute_lists_same a.attributes.items b.attributes.items i
    && (severity_same a.severity b.severity i && pointwise ◌==◌ (string_bytes a.rule_name) (string_bytes b.rule_name))

enables_same : (a b : EnableDirective) → equal_enables a b ≡ same (attributed_code enable_directive_code
    (enable_directive_view a)) (attributed_code enable_directive_code (enable_directive_view b))
enables_same a b = λ i. attribute_lists_same a.attributes.items b.attributes.items i
    && lists_same string_bytes text _ (λ x y. refl) a.extensions.items b.extensions.items i

requires_same : (a b : RequiresDirective)
    → equal_requires a b ≡ same (attributed_code requires_directive_code (requires_directive_view a))
    (attributed_code requires_directive_code (requires_directive_view b))
requires_same a b = λ i. attribute_lists_same a.attributes.items b.attributes.items i
    && lists_same string_bytes text _ (λ x y. refl) a.extensions.items b.extensions.items i

directives_same : (a b : GlobalDirective) → equal_directives a b
    ≡ same (global_directive_code (global_directive_view a)) (global_directive_code (global_directive_view b))
directives_same (directive.Diagnostic d) (directive.Diagnostic e) = diagnostics_same d e
directives_same (directive.Diagnostic d) other = refl
directives_same (directive.Enable d) (directive.Enable e) = enables_same d e
directives_same (directive.Enable d) other = refl
directives_same (directive.Requires d) (directive.Requires e) = requires_same d e
directives_same (directive.Requires d) other = refl

-- declarations
type_aliases_same : (a b : TypeAlias) → equal_type_aliases a b ≡ same (attributed_code type_alias_code
    (type_alias_view a)) (attributed_code type_alias_code (type_alias_view b))
type_aliases_same a b = λ i. attribute_lists_same a.attributes.items b.attributes.items i
    && (pointwise ◌==◌ (ident_name a.ident) (ident_name b.ident)
    && same (type_code (type_expression_view a.ty)) (type_code (type_expression_view b.ty)))

members_same : (a b : StructMember)
    → equal_members a b ≡ same (member_code (member_view a)) (member_code (member_view b))
members_same a b = λ i.
    attribute_lists_same a.attributes.items b.attributes.items i
    && (pointwise ◌==◌ (ident_name a.ident) (ident_name b.ident)
    && same (type_code (type_expression_view a.ty)) (type_code (type_expression_view b.ty)))

structs_same : (a b : Struct) → equal_structs a b
    ≡ same (attributed_code struct_code (struct_view a)) (attributed_code struct_code (struct_view b))
structs_same a b =
    let members = lists_same (spanned_view member_view) struct_member_node_code
    (λ x y. equal_members (spanned_node x) (spanned_node y))
    (λ x y. members_same (spanned_node x) (spanned_node y)) a.members.items b.members.items in
    λ i. attribute_lists_same a.attributes.items b.attributes.items i
    && (pointwise ◌==◌ (ident_name a.ident) (ident_name b.ident) && members i)

parameters_same : (a b : FormalParameter)
    → equal_parameters a b ≡ same (parameter_code (parameter_view a)) (parameter_code (parameter_view b))
parameters_same a b = λ i.
    attribute_lists_same a.attributes.items b.attributes.items i
    && (pointwise ◌==◌ (ident_name a.ident) (ident_name b.ident)
    && same (type_code (type_expression_view a.ty)) (type_code (type_expression_view b.ty)))

functions_same : (a b : Function) → equal_functions a b ≡ same (attributed_code function_code
    (function_view a)) (attributed_code function_code (function_view b))
functions_same a b =
    let parameters = lists_same parameter_view parameter_code equal_parameters parameters_same
    a.parameters.items b.parameters.items in
    let types = options_same type_expression_view type_code _ (λ x y. refl)
    (λ x. type_expression_there (type_expression_view x)) a.return_type b.return_type in
    λ i. attribute_lists_same a.attributes.items b.attributes.items i
    && (pointwise ◌==◌ (ident_name a.ident) (ident_name b.ident)
    && (parameters i
    && (attribute_lists_same a.return_attributes.items b.return_attributes.items i
    && (types i && same (compound_code (compound_statement_view a.body))
    (compound_code (compound_statement_view b.body))))))

global_declarations_same : (a b : GlobalDeclaration)
    → equal_global_declarations a b ≡ same (global_declaration_code (global_declaration_view a))
    (global_declaration_code (global_declaration_view b))
global_declarations_same declaration.Void declaration.Void = refl
global_declarations_same declaration.Void other = refl
global_declarations_same (declaration.Declaration d) (declaration.Declaration e) = declarations_same d e
global_declarations_same (declaration.Declaration d) other = refl
global_declarations_same (declaration.TypeAlias d) (declaration.TypeAlias e) = type_aliases_same d e
global_declarations_same (declaration.TypeAlias d) other = refl
global_declarations_same (declaration.Struct d) (declaration.Struct e) = structs_same d e
global_declarations_same (declaration.Struct d) other = refl
global_declarations_same (declaration.Function d) (declaration.Function e) = functions_same d e
global_declarations_same (declaration.Function d) other = refl
global_declarations_same (declaration.ConstAssert d) (declaration.ConstAssert e) = asserts_same d e
global_declarations_same (declaration.ConstAssert d) other = refl

-- modules
units_same : (a b : TranslationUnit) → equal_units a b ≡ same (unit_code (unit_view a)) (unit_code (unit_view b))
units_same a b =
    let directives = lists_same global_directive_view global_directive_code equal_directives
    directives_same a.global_directives.items b.global_directives.items in
    let declarations = lists_same (spanned_view global_declaration_view) global_declaration_node_code
    (λ x y. equal_global_declarations (spanned_node x) (spanned_node y)) (λ x y. global_declarations_same
    (spanned_node x) (spanned_node y)) a.global_declarations.items b.global_declarations.items in
    λ i. directives i && declarations i

-- so `==` says that the views are one with their spans set aside
pub diagnostics_agree : (a b : DiagnosticDirective)
    → (equal_diagnostics a b ≡ true) ↔ (bare_attributed (λ d. d) (diagnostic_directive_view a)
    ≡ bare_attributed (λ d. d) (diagnostic_directive_view b))
diagnostics_agree = agree_after equal_diagnostics diagnostic_directive_view
    diagnostic_directive_code diagnostics_same (λ d. d) law.diagnostic_directive_equal

pub enables_agree : (a b : EnableDirective) → (equal_enables a b ≡ true)
    ↔ (bare_attributed (λ d. d) (enable_directive_view a) ≡ bare_attributed (λ d. d) (enable_directive_view b))
enables_agree = agree_after equal_enables enable_directive_view enable_directive_code enables_same
    (λ d. d) law.enable_directive_equal

pub requires_agree : (a b : RequiresDirective) → (equal_requires a b ≡ true)
    ↔ (bare_attributed (λ d. d) (requires_directive_view a) ≡ bare_attributed (λ d. d) (requires_directive_view b))
requires_agree = agree_after equal_requires requires_directive_view requires_directive_code
    requires_same (λ d. d) law.requires_directive_equal

pub directives_agree : (a b : GlobalDirective) → (equal_directives a b ≡ true)
    ↔ (bare_directive (global_directive_view a) ≡ bare_directive (global_directive_view b))
directives_agree = agree equal_directives global_directive_view global_directive_code
    directives_same bare_directive law.global_directive_equal

pub type_aliases_agree : (a b : TypeAlias) → (equal_type_aliases a b ≡ true)
    ↔ (bare_attributed bare_type_alias (type_alias_view a) ≡ bare_attributed bare_type_alias (type_alias_view b))
type_aliases_agree = agree_after equal_type_aliases type_alias_view type_alias_code
    type_aliases_same bare_type_alias law.type_alias_equal

pub members_agree : (a b : StructMember)
    → (equal_members a b ≡ true) ↔ (bare_member (member_view a) ≡ bare_member (member_view b))
members_agree = agree equal_members member_view member_code members_same bare_member law.struct_member_equal

pub structs_agree : (a b : Struct) → (equal_structs a b ≡ true)
    ↔ (bare_attributed bare_struct (struct_view a) ≡ bare_attributed bare_struct (struct_view b))
structs_agree = agree_after equal_structs struct_view struct_code structs_same bare_struct law.struct_equal

pub parameters_agree : (a b : FormalParameter)
    → (equal_parameters a b ≡ true) ↔ (bare_parameter (parameter_view a) ≡ bare_parameter (parameter_view b))
parameters_agree = agree equal_parameters parameter_view parameter_code parameters_same
    bare_parameter law.formal_parameter_equal

pub functions_agree : (a b : Function) → (equal_functions a b ≡ true)
    ↔ (bare_attributed bare_function (function_view a) ≡ bare_attributed bare_function (function_view b))
functions_agree = agree_after equal_functions function_view function_code functions_same
    bare_function law.function_equal

pub global_declarations_agree : (a b : GlobalDeclaration) → (equal_global_declarations a b ≡ true)
    ↔ (bare_global_declaration (global_declaration_view a) ≡ bare_global_declaration (global_declaration_view b))
global_declarations_agree = agree equal_global_declarations global_declaration_view
    global_declaration_code global_declarations_same bare_global_declaration law.global_declaration_equal

pub units_agree : (a b : TranslationUnit)
    → (equal_units a b ≡ true) ↔ (bare_unit (unit_view a) ≡ bare_unit (unit_view b))
units_agree = agree equal_units unit_view unit_code units_same bare_unit law.translation_unit_equal

pub units_equivalence : IsEquivalence equal_units
units_equivalence = subst IsEquivalence (λ i a b. sym (units_same a b) i)
    (on_equiv (λ a. unit_code (unit_view a)) same_equivalence)
