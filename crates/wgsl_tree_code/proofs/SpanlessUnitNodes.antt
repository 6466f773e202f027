-- Written by tools/tables/tree_spans.py from crates/wgsl_model/nodes: modules without their spans.
use Rattle.std.specs.Prelude.{[], ◌∷◌, codes, true, ◌≡◌, ◌↔◌}
use Rattle.std.proofs.Common.{refl}
use Rattle.wgsl_model.specs.Trees.Units as plain
use Rattle.wgsl_model.specs.Trees.Spanned.{Spanned}
use Rattle.wgsl_model.specs.Trees.Attributed.{Attributed}
use Rattle.wgsl_model.specs.Trees.Attributes.{Attributes}
use Rattle.wgsl_model.specs.Trees.WithoutSpans.{bare_attributes, bare_spanned, bare_type, no_span}
use Rattle.wgsl_model.specs.Trees.StatementsWithoutSpans.{bare_attributed, bare_directive, bare_function, bare_global_declaration, bare_member, bare_parameter, bare_struct, bare_type_alias, bare_unattributed_declaration, bare_unit}
use Rattle.wgsl_tree_code.specs.Code.{attributed_code, node_of, placed, text, variant}
use Rattle.wgsl_tree_code.specs.Same.{same, spanless}
use Rattle.wgsl_tree_code.specs.Laws.{same_is}
use Rattle.wgsl_tree_code.proofs.Spanless.{list_alike, list_spanless, optional_spanless}
use Rattle.wgsl_tree_code.specs.WordNodes.{diagnostic_severity_code}
use Rattle.wgsl_tree_code.specs.ExpressionNodes.{type_code}
use Rattle.wgsl_tree_code.specs.UnitNodes.{diagnostic_directive_code, enable_directive_code, function_code, global_declaration_code, global_declaration_node_code, global_directive_code, member_code, parameter_code, requires_directive_code, struct_code, struct_member_node_code, type_alias_code, unattributed_declaration_code, unattributed_directive_code, unit_code}
use Rattle.wgsl_tree_code.proofs.ReadUnitNodes.{diagnostic_directive_of, diagnostic_directive_read, enable_directive_of, enable_directive_read, formal_parameter_of, formal_parameter_read, function_of, function_read, global_declaration_of, global_declaration_read, global_directive_of, global_directive_read, requires_directive_of, requires_directive_read, struct_member_of, struct_member_read, struct_of, struct_read, translation_unit_of, translation_unit_read, type_alias_of, type_alias_read}
use Rattle.wgsl_tree_code.proofs.SpanlessExpressionNodes.{type_expression_spanless}
use Rattle.wgsl_tree_code.proofs.SpanlessAttributeNodes.{attributes_spanless}
use Rattle.wgsl_tree_code.proofs.SpanlessStatementNodes.{compound_statement_spanless, const_assert_spanless, declaration_spanless}

pub diagnostic_directive_spanless : (attributes : Attributes) (x : plain.DiagnosticDirective)
    → spanless (diagnostic_directive_code attributes x) ≡ diagnostic_directive_code (bare_attributes attributes) x
diagnostic_directive_spanless attributes n =
    λ i. node_of ((codes "attributes", attributes_spanless attributes i)
    ∷ (codes "severity", diagnostic_severity_code n.severity) ∷ (codes "rule_name", text n.rule_name) ∷ [])

pub enable_directive_spanless : (attributes : Attributes) (x : plain.EnableDirective)
    → spanless (enable_directive_code attributes x) ≡ enable_directive_code (bare_attributes attributes) x
enable_directive_spanless attributes n =
    λ i. node_of ((codes "attributes", attributes_spanless attributes i)
    ∷ (codes "extensions", list_alike text (λ x. refl) n.extensions i) ∷ [])

pub requires_directive_spanless : (attributes : Attributes) (x : plain.RequiresDirective)
    → spanless (requires_directive_code attributes x) ≡ requires_directive_code (bare_attributes attributes) x
requires_directive_spanless attributes n =
    λ i. node_of ((codes "attributes", attributes_spanless attributes i)
    ∷ (codes "extensions", list_alike text (λ x. refl) n.extensions i) ∷ [])

pub struct_member_spanless : (x : plain.StructMember) → spanless (member_code x) ≡ member_code (bare_member x)
struct_member_spanless n = λ i. node_of ((codes "attributes", attributes_spanless n.attributes i)
    ∷ (codes "ident", text n.ident) ∷ (codes "ty", type_expression_spanless n.ty i) ∷ [])

pub type_alias_spanless : (attributes : Attributes) (x : plain.TypeAlias)
    → spanless (type_alias_code attributes x) ≡ type_alias_code (bare_attributes attributes) (bare_type_alias x)
type_alias_spanless attributes n = λ i. node_of ((codes "attributes", attributes_spanless attributes i)
    ∷ (codes "ident", text n.ident) ∷ (codes "ty", type_expression_spanless n.ty i) ∷ [])

pub formal_parameter_spanless : (x : plain.FormalParameter)
    → spanless (parameter_code x) ≡ parameter_code (bare_parameter x)
formal_parameter_spanless n = λ i. node_of ((codes "attributes", attributes_spanless n.attributes i)
    ∷ (codes "ident", text n.ident) ∷ (codes "ty", type_expression_spanless n.ty i) ∷ [])

pub struct_member_node_spanless : (x : Spanned plain.StructMember)
    → spanless (struct_member_node_code x) ≡ struct_member_node_code (bare_spanned bare_member x)
struct_member_node_spanless s = λ i. placed no_span (struct_member_spanless s.node i)

pub function_spanless : (attributes : Attributes) (x : plain.Function)
    → spanless (function_code attributes x) ≡ function_code (bare_attributes attributes) (bare_function x)
function_spanless attributes n =
    λ i. node_of ((codes "attributes", attributes_spanless attributes i) ∷ (codes "ident", text n.ident) ∷ (
      codes "parameters",
      list_spanless parameter_code bare_parameter formal_parameter_spanless n.parameters i,
    ) ∷ (codes "return_attributes", attributes_spanless n.return_attributes i) ∷ (
      codes "return_type",
      optional_spanless type_code bare_type type_expression_spanless n.return_type i,
    ) ∷ (codes "body", compound_statement_spanless n.body i) ∷ [])

pub diagnostic_directive_equal : (a b : Attributed plain.DiagnosticDirective)
    → (same (attributed_code diagnostic_directive_code a) (attributed_code diagnostic_directive_code b) ≡ true)
    ↔ (bare_attributed (λ t. t) a ≡ bare_attributed (λ t. t) b)
diagnostic_directive_equal = same_is (attributed_code diagnostic_directive_code) diagnostic_directive_of
    (bare_attributed (λ t. t)) (λ a. diagnostic_directive_read a.attributes a.node)
    (λ a. diagnostic_directive_spanless a.attributes a.node)

pub enable_directive_equal : (a b : Attributed plain.EnableDirective)
    → (same (attributed_code enable_directive_code a) (attributed_code enable_directive_code b) ≡ true)
    ↔ (bare_attributed (λ t. t) a ≡ bare_attributed (λ t. t) b)
enable_directive_equal = same_is (attributed_code enable_directive_code) enable_directive_of
    (bare_attributed (λ t. t)) (λ a. enable_directive_read a.attributes a.node)
    (λ a. enable_directive_spanless a.attributes a.node)

pub requires_directive_equal : (a b : Attributed plain.RequiresDirective)
    → (same (attributed_code requires_directive_code a) (attributed_code requires_directive_code b) ≡ true)
    ↔ (bare_attributed (λ t. t) a ≡ bare_attributed (λ t. t) b)
requires_directive_equal = same_is (attributed_code requires_directive_code) requires_directive_of
    (bare_attributed (λ t. t)) (λ a. requires_directive_read a.attributes a.node)
    (λ a. requires_directive_spanless a.attributes a.node)

pub struct_member_equal : (a b : plain.StructMember)
    → (same (member_code a) (member_code b) ≡ true) ↔ (bare_member a ≡ bare_member b)
struct_member_equal = same_is member_code struct_member_of bare_member struct_member_read struct_member_spanless

pub type_alias_equal : (a b : Attributed plain.TypeAlias)
    → (same (attributed_code type_alias_code a) (attributed_code type_alias_code b) ≡ true)
    ↔ (bare_attributed bare_type_alias a ≡ bare_attributed bare_type_alias b)
type_alias_equal = same_is (attributed_code type_alias_code) type_alias_of (bare_attributed bare_type_alias)
    (λ a. type_alias_read a.attributes a.node) (λ a. type_alias_spanless a.attributes a.node)

pub formal_parameter_equal : (a b : plain.FormalParameter)
    → (same (parameter_code a) (parameter_code b) ≡ true) ↔ (bare_parameter a ≡ bare_parameter b)
formal_parameter_equal = same_is parameter_code formal_parameter_of bare_parameter
    formal_parameter_read formal_parameter_spanless

pub struct_spanless : (attributes : Attributes) (x : plain.Struct)
    → spanless (struct_code attributes x) ≡ struct_code (bare_attributes attributes) (bare_struct x)
struct_spanless attributes n =
    λ i. node_of ((codes "attributes", attributes_spanless attributes i) ∷ (codes "ident", text n.ident) ∷ (
      codes "members",
      list_spanless struct_member_node_code
          (bare_spanned bare_member) struct_member_node_spanless n.members i,
    ) ∷ [])

pub function_equal : (a b : Attributed plain.Function)
    → (same (attributed_code function_code a) (attributed_code function_code b) ≡ true)
    ↔ (bare_attributed bare_function a ≡ bare_attributed bare_function b)
function_equal = same_is (attributed_code function_code) function_of (bare_attributed bare_function)
    (λ a. function_read a.attributes a.node) (λ a. function_spanless a.attributes a.node)

pub unattributed_directive_spanless : (attributes : Attributes) (x : plain.UnattributedDirective)
    → spanless (unattributed_directive_code attributes x) ≡ unattributed_directive_code (bare_attributes attributes) x
unattributed_directive_spanless attributes (plain.diagnostic x) =
    λ i. variant (codes "Diagnostic") (diagnostic_directive_spanless attributes x i)
unattributed_directive_spanless attributes (plain.enable x) =
    λ i. variant (codes "Enable") (enable_directive_spanless attributes x i)
unattributed_directive_spanless attributes (plain.requires x) =
    λ i. variant (codes "Requires") (requires_directive_spanless attributes x i)

pub struct_equal : (a b : Attributed plain.Struct)
    → (same (attributed_code struct_code a) (attributed_code struct_code b) ≡ true)
    ↔ (bare_attributed bare_struct a ≡ bare_attributed bare_struct b)
struct_equal = same_is (attributed_code struct_code) struct_of (bare_attributed bare_struct)
    (λ a. struct_read a.attributes a.node) (λ a. struct_spanless a.attributes a.node)

pub global_directive_spanless : (x : plain.GlobalDirective)
    → spanless (global_directive_code x) ≡ global_directive_code (bare_directive x)
global_directive_spanless x = unattributed_directive_spanless x.attributes x.node

pub global_directive_equal : (a b : plain.GlobalDirective)
    → (same (global_directive_code a) (global_directive_code b) ≡ true) ↔ (bare_directive a ≡ bare_directive b)
global_directive_equal = same_is global_directive_code global_directive_of bare_directive
    global_directive_read global_directive_spanless

pub unattributed_declaration_spanless : (attributes : Attributes) (x : plain.UnattributedDeclaration)
    → spanless (unattributed_declaration_code attributes x)
    ≡ unattributed_declaration_code (bare_attributes attributes) (bare_unattributed_declaration x)
unattributed_declaration_spanless [] plain.void = refl
unattributed_declaration_spanless (a ∷ more) plain.void =
    λ i. variant (codes "Void") (node_of ((codes "attributes", attributes_spanless (a ∷ more) i) ∷ []))
unattributed_declaration_spanless attributes (plain.declaration x) =
    λ i. variant (codes "Declaration") (declaration_spanless attributes x i)
unattributed_declaration_spanless attributes (plain.type_alias x) =
    λ i. variant (codes "TypeAlias") (type_alias_spanless attributes x i)
unattributed_declaration_spanless attributes (plain.structure x) =
    λ i. variant (codes "Struct") (struct_spanless attributes x i)
unattributed_declaration_spanless attributes (plain.function x) =
    λ i. variant (codes "Function") (function_spanless attributes x i)
unattributed_declaration_spanless attributes (plain.const_assert x) =
    λ i. variant (codes "ConstAssert") (const_assert_spanless attributes x i)

pub global_declaration_spanless : (x : plain.GlobalDeclaration)
    → spanless (global_declaration_code x) ≡ global_declaration_code (bare_global_declaration x)
global_declaration_spanless x = unattributed_declaration_spanless x.attributes x.node

pub global_declaration_node_spanless : (x : Spanned plain.GlobalDeclaration)
    → spanless (global_declaration_node_code x) ≡ global_declaration_node_code (bare_spanned bare_global_declaration x)
global_declaration_node_spanless s = λ i. placed no_span (global_declaration_spanless s.node i)

pub global_declaration_equal : (a b : plain.GlobalDeclaration)
    → (same (global_declaration_code a) (global_declaration_code b) ≡ true)
    ↔ (bare_global_declaration a ≡ bare_global_declaration b)
global_declaration_equal = same_is global_declaration_code global_declaration_of
    bare_global_declaration global_declaration_read global_declaration_spanless

pub translation_unit_spanless : (x : plain.TranslationUnit) → spanless (unit_code x) ≡ unit_code (bare_unit x)
translation_unit_spanless n = λ i. node_of ((
  codes "global_directives",
  list_spanless global_directive_code bare_directive global_directive_spanless n.global_directives i,
) ∷ (
  codes "global_declarations",
  list_spanless global_declaration_node_code (bare_spanned bare_global_declaration)
      global_declaration_node_spanless n.global_declarations i,
) ∷ [])

pub translation_unit_equal : (a b : plain.TranslationUnit)
    → (same (unit_code a) (unit_code b) ≡ true) ↔ (bare_unit a ≡ bare_unit b)
translation_unit_equal = same_is unit_code translation_unit_of bare_unit translation_unit_read translation_unit_spanless
