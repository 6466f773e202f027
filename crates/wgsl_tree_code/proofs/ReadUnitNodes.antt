-- Written by tools/tables/tree_readers.py from crates/wgsl_model/nodes: modules read from their
-- codes.
use Rattle.std.specs.Prelude.{[], ◌∷◌, Option, None, Some, codes, ◌≡◌}
use Rattle.std.proofs.Common.{refl}
use Rattle.wgsl_model.specs.Trees.Units as plain
use Rattle.wgsl_model.specs.Trees.Spanned.{Spanned, spanned}
use Rattle.wgsl_model.specs.Trees.Attributed.{Attributed, with_attributes}
use Rattle.wgsl_model.specs.Trees.Attributes.{Attributes}
use Rattle.wgsl_tree_code.specs.Code.{Code, field, no_fields, node, text}
use Rattle.wgsl_tree_code.proofs.Reading.{chosen, items_read, led, list_read_of, named, optional_of, optional_read, span_of, text_of, text_read, then_of, type_expression_there}
use Rattle.wgsl_tree_code.proofs.ReadWordNodes.{diagnostic_severity_of, diagnostic_severity_read}
use Rattle.wgsl_tree_code.specs.ExpressionNodes.{type_code}
use Rattle.wgsl_tree_code.proofs.ReadExpressionNodes.{type_expression_of, type_expression_read}
use Rattle.wgsl_tree_code.proofs.ReadAttributeNodes.{attributes_of, attributes_read, lone_attributes_of, lone_attributes_read}
use Rattle.wgsl_tree_code.proofs.ReadStatementNodes.{compound_statement_of, compound_statement_read, const_assert_of, const_assert_read, declaration_of, declaration_read}
use Rattle.wgsl_tree_code.specs.UnitNodes.{diagnostic_directive_code, enable_directive_code, function_code, global_declaration_code, global_declaration_node_code, global_directive_code, member_code, parameter_code, requires_directive_code, struct_code, struct_member_node_code, type_alias_code, unattributed_declaration_code, unattributed_directive_code, unit_code}

abbrev pub diagnostic_directive_of : Code → Option (Attributed plain.DiagnosticDirective)
diagnostic_directive_of (node (field n0 c0 (field n1 c1 (field n2 c2 no_fields)))) =
    named (n0 ∷ n1 ∷ n2 ∷ []) (codes "attributes" ∷ codes "severity" ∷ codes "rule_name" ∷ [])
    (then_of (attributes_of c0) (λ x0. then_of (diagnostic_severity_of c1) (λ x1. then_of (text_of c2)
    (λ x2. Some (with_attributes x0 (record { severity = x1; rule_name = x2 }))))))
diagnostic_directive_of c = None

abbrev pub enable_directive_of : Code → Option (Attributed plain.EnableDirective)
enable_directive_of (node (field n0 c0 (field n1 c1 no_fields))) = named (n0 ∷ n1 ∷ [])
    (codes "attributes" ∷ codes "extensions" ∷ []) (then_of (attributes_of c0)
    (λ x0. then_of (list_read_of text_of c1) (λ x1. Some (with_attributes x0 (record { extensions = x1 })))))
enable_directive_of c = None

abbrev pub requires_directive_of : Code → Option (Attributed plain.RequiresDirective)
requires_directive_of (node (field n0 c0 (field n1 c1 no_fields))) = named (n0 ∷ n1 ∷ [])
    (codes "attributes" ∷ codes "extensions" ∷ []) (then_of (attributes_of c0)
    (λ x0. then_of (list_read_of text_of c1) (λ x1. Some (with_attributes x0 (record { extensions = x1 })))))
requires_directive_of c = None

abbrev pub struct_member_of : Code → Option plain.StructMember
struct_member_of (node (field n0 c0 (field n1 c1 (field n2 c2 no_fields)))) =
    named (n0 ∷ n1 ∷ n2 ∷ []) (codes "attributes" ∷ codes "ident" ∷ codes "ty" ∷ [])
    (then_of (attributes_of c0) (λ x0. then_of (text_of c1) (λ x1. then_of (type_expression_of c2)
    (λ x2. Some (record { attributes = x0; ident = x1; ty = x2 })))))
struct_member_of c = None

abbrev pub type_alias_of : Code → Option (Attributed plain.TypeAlias)
type_alias_of (node (field n0 c0 (field n1 c1 (field n2 c2 no_fields)))) = named (n0 ∷ n1 ∷ n2 ∷ [])
    (codes "attributes" ∷ codes "ident" ∷ codes "ty" ∷ [])
    (then_of (attributes_of c0) (λ x0. then_of (text_of c1) (λ x1. then_of (type_expression_of c2)
    (λ x2. Some (with_attributes x0 (record { ident = x1; ty = x2 }))))))
type_alias_of c = None

abbrev pub formal_parameter_of : Code → Option plain.FormalParameter
formal_parameter_of (node (field n0 c0 (field n1 c1 (field n2 c2 no_fields)))) =
    named (n0 ∷ n1 ∷ n2 ∷ []) (codes "attributes" ∷ codes "ident" ∷ codes "ty" ∷ [])
    (then_of (attributes_of c0) (λ x0. then_of (text_of c1) (λ x1. then_of (type_expression_of c2)
    (λ x2. Some (record { attributes = x0; ident = x1; ty = x2 })))))
formal_parameter_of c = None

abbrev pub struct_member_node_of : Code → Option (Spanned plain.StructMember)
struct_member_node_of (node (field n0 c0 (field n1 c1 no_fields))) = named (n0 ∷ n1 ∷ [])
    (codes "span" ∷ codes "node" ∷ [])
    (then_of (span_of c0) (λ x0. then_of (struct_member_of c1) (λ x1. Some (spanned x1 x0))))
struct_member_node_of c = None

abbrev pub function_of : Code → Option (Attributed plain.Function)
function_of (node (field n0 c0 (field n1 c1 (field n2 c2 (field n3 c3 (field n4 c4 (field n5 c5 no_fields))))))) =
    named (n0 ∷ n1 ∷ n2 ∷ n3 ∷ n4 ∷ n5 ∷ []) (codes "attributes" ∷ codes "ident"
    ∷ codes "parameters" ∷ codes "return_attributes" ∷ codes "return_type" ∷ codes "body" ∷ [])
    (then_of (attributes_of c0) (λ x0. then_of (text_of c1) (λ x1. then_of (list_read_of formal_parameter_of c2)
    (λ x2. then_of (attributes_of c3) (λ x3. then_of (optional_of type_expression_of c4)
    (λ x4. then_of (compound_statement_of c5) (λ x5. Some (with_attributes x0
    (record { ident = x1; parameters = x2; return_attributes = x3; return_type = x4; body = x5 })))))))))
function_of c = None

abbrev pub struct_of : Code → Option (Attributed plain.Struct)
struct_of (node (field n0 c0 (field n1 c1 (field n2 c2 no_fields)))) = named (n0 ∷ n1 ∷ n2 ∷ [])
    (codes "attributes" ∷ codes "ident" ∷ codes "members" ∷ []) (then_of (attributes_of c0)
    (λ x0. then_of (text_of c1) (λ x1. then_of (list_read_of struct_member_node_of c2)
    (λ x2. Some (with_attributes x0 (record { ident = x1; members = x2 }))))))
struct_of c = None

abbrev pub global_directive_of : Code → Option plain.GlobalDirective
global_directive_of (node (field name value no_fields)) = chosen name
    ((codes "Diagnostic", λ _. then_of (diagnostic_directive_of value) (λ x0. Some (led plain.diagnostic x0)))
    ∷ (codes "Enable", λ _. then_of (enable_directive_of value) (λ x0. Some (led plain.enable x0)))
    ∷ (codes "Requires", λ _. then_of (requires_directive_of value) (λ x0. Some (led plain.requires x0))) ∷ [])
global_directive_of c = None

abbrev pub global_declaration_of : Code → Option plain.GlobalDeclaration
global_declaration_of (text name) = chosen name ((codes "Void", λ _. Some (with_attributes [] plain.void)) ∷ [])
global_declaration_of (node (field name value no_fields)) = chosen name
    ((codes "Void", λ _. then_of (lone_attributes_of value) (λ x0. Some (with_attributes x0 plain.void)))
    ∷ (codes "Declaration", λ _. then_of (declaration_of value) (λ x0. Some (led plain.declaration x0)))
    ∷ (codes "TypeAlias", λ _. then_of (type_alias_of value) (λ x0. Some (led plain.type_alias x0)))
    ∷ (codes "Struct", λ _. then_of (struct_of value) (λ x0. Some (led plain.structure x0)))
    ∷ (codes "Function", λ _. then_of (function_of value) (λ x0. Some (led plain.function x0)))
    ∷ (codes "ConstAssert", λ _. then_of (const_assert_of value) (λ x0. Some (led plain.const_assert x0))) ∷ [])
global_declaration_of c = None

abbrev pub global_declaration_node_of : Code → Option (Spanned plain.GlobalDeclaration)
global_declaration_node_of (node (field n0 c0 (field n1 c1 no_fields))) = named (n0 ∷ n1 ∷ [])
    (codes "span" ∷ codes "node" ∷ [])
    (then_of (span_of c0) (λ x0. then_of (global_declaration_of c1) (λ x1. Some (spanned x1 x0))))
global_declaration_node_of c = None

abbrev pub translation_unit_of : Code → Option plain.TranslationUnit
translation_unit_of (node (field n0 c0 (field n1 c1 no_fields))) = named (n0 ∷ n1 ∷ [])
    (codes "global_directives" ∷ codes "global_declarations" ∷ [])
    (then_of (list_read_of global_directive_of c0) (λ x0. then_of (list_read_of global_declaration_node_of c1)
    (λ x1. Some (record { global_directives = x0; global_declarations = x1 }))))
translation_unit_of c = None

pub diagnostic_directive_read : (attributes : Attributes) (x : plain.DiagnosticDirective)
    → diagnostic_directive_of (diagnostic_directive_code attributes x) ≡ Some (with_attributes attributes x)
diagnostic_directive_read attributes n = λ i. then_of (attributes_read attributes i)
    (λ x0. then_of (diagnostic_severity_read n.severity i) (λ x1. then_of (text_read n.rule_name i)
    (λ x2. Some (with_attributes x0 (record { severity = x1; rule_name = x2 })))))

pub enable_directive_read : (attributes : Attributes) (x : plain.EnableDirective)
    → enable_directive_of (enable_directive_code attributes x) ≡ Some (with_attributes attributes x)
enable_directive_read attributes n =
    λ i. then_of (attributes_read attributes i) (λ x0. then_of (items_read text text_of text_read
    n.extensions i) (λ x1. Some (with_attributes x0 (record { extensions = x1 }))))

pub requires_directive_read : (attributes : Attributes) (x : plain.RequiresDirective)
    → requires_directive_of (requires_directive_code attributes x) ≡ Some (with_attributes attributes x)
requires_directive_read attributes n =
    λ i. then_of (attributes_read attributes i) (λ x0. then_of (items_read text text_of text_read
    n.extensions i) (λ x1. Some (with_attributes x0 (record { extensions = x1 }))))

pub struct_member_read : (x : plain.StructMember) → struct_member_of (member_code x) ≡ Some x
struct_member_read n = λ i. then_of (attributes_read n.attributes i) (λ x0. then_of (text_read n.ident i)
    (λ x1. then_of (type_expression_read n.ty i) (λ x2. Some (record { attributes = x0; ident = x1; ty = x2 }))))

pub type_alias_read : (attributes : Attributes) (x : plain.TypeAlias)
    → type_alias_of (type_alias_code attributes x) ≡ Some (with_attributes attributes x)
type_alias_read attributes n =
    λ i. then_of (attributes_read attributes i) (λ x0. then_of (text_read n.ident i) (λ x1. then_of
    (type_expression_read n.ty i) (λ x2. Some (with_attributes x0 (record { ident = x1; ty = x2 })))))

pub formal_parameter_read : (x : plain.FormalParameter) → formal_parameter_of (parameter_code x) ≡ Some x
formal_parameter_read n =
    λ i. then_of (attributes_read n.attributes i) (λ x0. then_of (text_read n.ident i) (λ x1.
    then_of (type_expression_read n.ty i) (λ x2. Some (record { attributes = x0; ident = x1; ty = x2 }))))

pub struct_member_node_read : (x : Spanned plain.StructMember)
    → struct_member_node_of (struct_member_node_code x) ≡ Some x
struct_member_node_read s = λ i. then_of (struct_member_read s.node i) (λ x0. Some (spanned x0 s.span))

pub function_read : (attributes : Attributes) (x : plain.Function)
    → function_of (function_code attributes x) ≡ Some (with_attributes attributes x)
function_read attributes n = λ i. then_of (attributes_read attributes i)
    (λ x0. then_of (text_read n.ident i) (λ x1. then_of (items_read parameter_code formal_parameter_of
    formal_parameter_read n.parameters i) (λ x2. then_of (attributes_read n.return_attributes i)
    (λ x3. then_of (optional_read type_code type_expression_of type_expression_read type_expression_there
    n.return_type i) (λ x4. then_of (compound_statement_read n.body i) (λ x5. Some (with_attributes x0
    (record { ident = x1; parameters = x2; return_attributes = x3; return_type = x4; body = x5 }))))))))

pub struct_read : (attributes : Attributes) (x : plain.Struct)
    → struct_of (struct_code attributes x) ≡ Some (with_attributes attributes x)
struct_read attributes n = λ i. then_of (attributes_read attributes i) (λ x0. then_of (text_read n.ident i)
    (λ x1. then_of (items_read struct_member_node_code struct_member_node_of struct_member_node_read
    n.members i) (λ x2. Some (with_attributes x0 (record { ident = x1; members = x2 })))))

pub unattributed_directive_read : (attributes : Attributes) (x : plain.UnattributedDirective)
    → global_directive_of (unattributed_directive_code attributes x) ≡ Some (with_attributes attributes x)
unattributed_directive_read attributes (plain.diagnostic x) =
    λ i. then_of (diagnostic_directive_read attributes x i) (λ x0. Some (led plain.diagnostic x0))
unattributed_directive_read attributes (plain.enable x) =
    λ i. then_of (enable_directive_read attributes x i) (λ x0. Some (led plain.enable x0))
unattributed_directive_read attributes (plain.requires x) =
    λ i. then_of (requires_directive_read attributes x i) (λ x0. Some (led plain.requires x0))

pub global_directive_read : (x : plain.GlobalDirective) → global_directive_of (global_directive_code x) ≡ Some x
global_directive_read x = unattributed_directive_read x.attributes x.node

pub unattributed_declaration_read : (attributes : Attributes) (x : plain.UnattributedDeclaration)
    → global_declaration_of (unattributed_declaration_code attributes x) ≡ Some (with_attributes attributes x)
unattributed_declaration_read attributes (plain.declaration x) =
    λ i. then_of (declaration_read attributes x i) (λ x0. Some (led plain.declaration x0))
unattributed_declaration_read attributes (plain.type_alias x) =
    λ i. then_of (type_alias_read attributes x i) (λ x0. Some (led plain.type_alias x0))
unattributed_declaration_read attributes (plain.structure x) =
    λ i. then_of (struct_read attributes x i) (λ x0. Some (led plain.structure x0))
unattributed_declaration_read attributes (plain.function x) =
    λ i. then_of (function_read attributes x i) (λ x0. Some (led plain.function x0))
unattributed_declaration_read attributes (plain.const_assert x) =
    λ i. then_of (const_assert_read attributes x i) (λ x0. Some (led plain.const_assert x0))
unattributed_declaration_read [] plain.void = refl
unattributed_declaration_read (a ∷ more) plain.void =
    λ i. then_of (lone_attributes_read (a ∷ more) i) (λ x0. Some (with_attributes x0 plain.void))

pub global_declaration_read : (x : plain.GlobalDeclaration) → global_declaration_of (global_declaration_code x) ≡ Some x
global_declaration_read x = unattributed_declaration_read x.attributes x.node

pub global_declaration_node_read : (x : Spanned plain.GlobalDeclaration)
    → global_declaration_node_of (global_declaration_node_code x) ≡ Some x
global_declaration_node_read s = λ i. then_of (global_declaration_read s.node i) (λ x0. Some (spanned x0 s.span))

pub translation_unit_read : (x : plain.TranslationUnit) → translation_unit_of (unit_code x) ≡ Some x
translation_unit_read n = λ i. then_of (items_read global_directive_code global_directive_of
    global_directive_read n.global_directives i) (λ x0. then_of (items_read global_declaration_node_code
    global_declaration_node_of global_declaration_node_read n.global_declarations i)
    (λ x1. Some (record { global_directives = x0; global_declarations = x1 })))
