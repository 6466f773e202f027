-- Modules, their directives and their declarations as plain data.
use Rattle.std.specs.Prelude.{map, string_bytes}
use Rattle.std.specs.Option.{option_map}
use Rattle.wgsl_model.specs.Trees.Attributed.{Attributed, with_attributes, without_attributes}
use Rattle.wgsl_model.specs.Trees.Units as plain
use Rattle.wgsl_span.specs.View.{spanned_view}
use Rattle.wgsl_tree_words.specs.View.{severity_view}
use Rattle.wgsl_tree_expression.specs.View.{ident_name, type_expression_view}
use Rattle.wgsl_tree_attribute.specs.View.{attributes_view}
use Rattle.wgsl_tree_simple.specs.View.{declaration_view, assert_view}
use Rattle.wgsl_tree_statement.specs.View.{compound_statement_view}
use Rattle.wgsl_tree_unit.specs.declared.diagnostic.DiagnosticDirective.{DiagnosticDirective}
use Rattle.wgsl_tree_unit.specs.declared.extensions.EnableDirective.{EnableDirective}
use Rattle.wgsl_tree_unit.specs.declared.extensions.RequiresDirective.{RequiresDirective}
use Rattle.wgsl_tree_unit.specs.declared.directive.GlobalDirective.{GlobalDirective}
use Rattle.wgsl_tree_unit.specs.declared.directive.GlobalDirective.TheVariants as directive
use Rattle.wgsl_tree_unit.specs.declared.type_alias.TypeAlias.{TypeAlias}
use Rattle.wgsl_tree_unit.specs.declared.structure.StructMember.{StructMember}
use Rattle.wgsl_tree_unit.specs.declared.structure.Struct.{Struct}
use Rattle.wgsl_tree_unit.specs.declared.function.FormalParameter.{FormalParameter}
use Rattle.wgsl_tree_unit.specs.declared.function.Function.{Function}
use Rattle.wgsl_tree_unit.specs.declared.global_declaration.GlobalDeclaration.{GlobalDeclaration}
use Rattle.wgsl_tree_unit.specs.declared.global_declaration.GlobalDeclaration.TheVariants as declaration
use Rattle.wgsl_tree_unit.specs.declared.unit.TranslationUnit.{TranslationUnit}

-- directives
abbrev pub diagnostic_directive_view : DiagnosticDirective → Attributed plain.DiagnosticDirective
diagnostic_directive_view d = with_attributes (attributes_view d.attributes.items)
    (record { severity = severity_view d.severity; rule_name = string_bytes d.rule_name })

abbrev pub enable_directive_view : EnableDirective → Attributed plain.EnableDirective
enable_directive_view d = with_attributes (attributes_view d.attributes.items)
    (record { extensions = map string_bytes d.extensions.items })

abbrev pub requires_directive_view : RequiresDirective → Attributed plain.RequiresDirective
requires_directive_view d = with_attributes (attributes_view d.attributes.items)
    (record { extensions = map string_bytes d.extensions.items })

-- a node after its attributes, as a directive of its kind
abbrev pub as_directive : {Node : Type 0} → (Node → plain.UnattributedDirective) → Attributed Node
    → plain.GlobalDirective
as_directive kind a = with_attributes a.attributes (kind a.node)

abbrev pub global_directive_view : GlobalDirective → plain.GlobalDirective
global_directive_view (directive.Diagnostic d) =
    as_directive plain.diagnostic (diagnostic_directive_view d)
global_directive_view (directive.Enable d) = as_directive plain.enable (enable_directive_view d)
global_directive_view (directive.Requires d) =
    as_directive plain.requires (requires_directive_view d)

-- declarations
abbrev pub type_alias_view : TypeAlias → Attributed plain.TypeAlias
type_alias_view a = with_attributes (attributes_view a.attributes.items)
    (record { ident = ident_name a.ident; ty = type_expression_view a.ty })

abbrev pub member_view : StructMember → plain.StructMember
member_view m = record {
  attributes = attributes_view m.attributes.items;
  ident = ident_name m.ident;
  ty = type_expression_view m.ty;
}

abbrev pub struct_view : Struct → Attributed plain.Struct
struct_view s = with_attributes (attributes_view s.attributes.items) (record {
  ident = ident_name s.ident;
  members = map (spanned_view member_view) s.members.items;
})

abbrev pub parameter_view : FormalParameter → plain.FormalParameter
parameter_view p = record {
  attributes = attributes_view p.attributes.items;
  ident = ident_name p.ident;
  ty = type_expression_view p.ty;
}

abbrev pub function_view : Function → Attributed plain.Function
function_view f = with_attributes (attributes_view f.attributes.items) (record {
  ident = ident_name f.ident;
  parameters = map parameter_view f.parameters.items;
  return_attributes = attributes_view f.return_attributes.items;
  return_type = option_map type_expression_view f.return_type;
  body = compound_statement_view f.body;
})

abbrev pub global_declaration_view : GlobalDeclaration → plain.GlobalDeclaration
global_declaration_view declaration.Void = without_attributes plain.void
global_declaration_view (declaration.Declaration d) =
    plain.as_declaration plain.declaration (declaration_view d)
global_declaration_view (declaration.TypeAlias a) =
    plain.as_declaration plain.type_alias (type_alias_view a)
global_declaration_view (declaration.Struct s) =
    plain.as_declaration plain.structure (struct_view s)
global_declaration_view (declaration.Function f) =
    plain.as_declaration plain.function (function_view f)
global_declaration_view (declaration.ConstAssert c) =
    plain.as_declaration plain.const_assert (assert_view c)

-- a module
abbrev pub unit_view : TranslationUnit → plain.TranslationUnit
unit_view u = record {
  global_directives = map global_directive_view u.global_directives.items;
  global_declarations = map (spanned_view global_declaration_view) u.global_declarations.items;
}
