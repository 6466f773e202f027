-- Written by tools/tables/tree_codes.py from crates/wgsl_model/nodes: modules.
use Rattle.std.specs.Prelude.{[], ◌∷◌, codes}
use Rattle.wgsl_model.specs.Trees.Spanned.{Spanned}
use Rattle.wgsl_model.specs.Trees.Attributes.{Attributes}
use Rattle.wgsl_model.specs.Trees.Units as plain
use Rattle.wgsl_tree_code.specs.Code.{Code, text, node_of, variant, list_of, optional, placed}
use Rattle.wgsl_tree_code.specs.WordNodes.{diagnostic_severity_code}
use Rattle.wgsl_tree_code.specs.ExpressionNodes.{type_code}
use Rattle.wgsl_tree_code.specs.AttributeNodes.{alone_code, attributes_code}
use Rattle.wgsl_tree_code.specs.StatementNodes.{assert_code, compound_code, declaration_code}

-- `diagnostic(severity, rule_name);`: a severity and the name of a rule
abbrev pub diagnostic_directive_code : Attributes → plain.DiagnosticDirective → Code
diagnostic_directive_code attributes n = node_of (
    (codes "attributes", attributes_code attributes) ∷
    (codes "severity", diagnostic_severity_code n.severity) ∷
    (codes "rule_name", text n.rule_name) ∷
    [])

-- `enable extensions;`: the names of extensions
abbrev pub enable_directive_code : Attributes → plain.EnableDirective → Code
enable_directive_code attributes n = node_of (
    (codes "attributes", attributes_code attributes) ∷
    (codes "extensions", list_of text n.extensions) ∷
    [])

-- `requires extensions;`: the names of extensions
abbrev pub requires_directive_code : Attributes → plain.RequiresDirective → Code
requires_directive_code attributes n = node_of (
    (codes "attributes", attributes_code attributes) ∷
    (codes "extensions", list_of text n.extensions) ∷
    [])

-- a member of a structure
abbrev pub member_code : plain.StructMember → Code
member_code n = node_of (
    (codes "attributes", attributes_code n.attributes) ∷
    (codes "ident", text n.ident) ∷
    (codes "ty", type_code n.ty) ∷
    [])

-- a further name for a type, `alias ident = ty;`
abbrev pub type_alias_code : Attributes → plain.TypeAlias → Code
type_alias_code attributes n = node_of (
    (codes "attributes", attributes_code attributes) ∷
    (codes "ident", text n.ident) ∷
    (codes "ty", type_code n.ty) ∷
    [])

-- a parameter of a function
abbrev pub parameter_code : plain.FormalParameter → Code
parameter_code n = node_of (
    (codes "attributes", attributes_code n.attributes) ∷
    (codes "ident", text n.ident) ∷
    (codes "ty", type_code n.ty) ∷
    [])

abbrev pub struct_member_node_code : Spanned plain.StructMember → Code
struct_member_node_code n = placed n.span (member_code n.node)

-- a function
abbrev pub function_code : Attributes → plain.Function → Code
function_code attributes n = node_of (
    (codes "attributes", attributes_code attributes) ∷
    (codes "ident", text n.ident) ∷
    (codes "parameters", list_of parameter_code n.parameters) ∷
    (codes "return_attributes", attributes_code n.return_attributes) ∷
    (codes "return_type", optional type_code n.return_type) ∷
    (codes "body", compound_code n.body) ∷
    [])

-- a structure
abbrev pub struct_code : Attributes → plain.Struct → Code
struct_code attributes n = node_of (
    (codes "attributes", attributes_code attributes) ∷
    (codes "ident", text n.ident) ∷
    (codes "members", list_of struct_member_node_code n.members) ∷
    [])

abbrev pub unattributed_directive_code : Attributes → plain.UnattributedDirective → Code
unattributed_directive_code attributes (plain.diagnostic inner) =
    variant (codes "Diagnostic") (diagnostic_directive_code attributes inner)
unattributed_directive_code attributes (plain.enable inner) =
    variant (codes "Enable") (enable_directive_code attributes inner)
unattributed_directive_code attributes (plain.requires inner) =
    variant (codes "Requires") (requires_directive_code attributes inner)

-- a directive of a module
abbrev pub global_directive_code : plain.GlobalDirective → Code
global_directive_code n = unattributed_directive_code n.attributes n.node

abbrev pub unattributed_declaration_code : Attributes → plain.UnattributedDeclaration → Code
unattributed_declaration_code attributes plain.void = alone_code (codes "Void") attributes
unattributed_declaration_code attributes (plain.declaration inner) =
    variant (codes "Declaration") (declaration_code attributes inner)
unattributed_declaration_code attributes (plain.type_alias inner) =
    variant (codes "TypeAlias") (type_alias_code attributes inner)
unattributed_declaration_code attributes (plain.structure inner) =
    variant (codes "Struct") (struct_code attributes inner)
unattributed_declaration_code attributes (plain.function inner) =
    variant (codes "Function") (function_code attributes inner)
unattributed_declaration_code attributes (plain.const_assert inner) =
    variant (codes "ConstAssert") (assert_code attributes inner)

-- a declaration of a module
abbrev pub global_declaration_code : plain.GlobalDeclaration → Code
global_declaration_code n = unattributed_declaration_code n.attributes n.node

abbrev pub global_declaration_node_code : Spanned plain.GlobalDeclaration → Code
global_declaration_node_code n = placed n.span (global_declaration_code n.node)

-- a module: its directives, then its declarations
abbrev pub unit_code : plain.TranslationUnit → Code
unit_code n = node_of (
    (codes "global_directives", list_of global_directive_code n.global_directives) ∷
    (codes "global_declarations", list_of global_declaration_node_code n.global_declarations) ∷
    [])
