-- The printed texts of modules, their directives and their declarations.
use Rattle.std.specs.Prelude.{Bool, true, false, ℕ, List, [], ◌∷◌, ◌++◌, map, Option, Some, None, codes, if◌then◌else◌}
use Rattle.wgsl_model.specs.Trees.NamedValues.{severity_text}
use Rattle.wgsl_model.specs.Trees.Spanned.{Spanned}
use Rattle.wgsl_model.specs.Trees.Expressions.{TypeExpression}
use Rattle.wgsl_model.specs.Trees.Attributes.{Attributes}
use Rattle.wgsl_model.specs.Trees.Units.{GlobalDirective, UnattributedDirective, diagnostic, enable, requires, DiagnosticDirective, EnableDirective, RequiresDirective, TypeAlias, StructMember, Struct, FormalParameter, Function, GlobalDeclaration, UnattributedDeclaration, void, declaration, type_alias, structure, function, const_assert, TranslationUnit}
use Rattle.wgsl_model.specs.Printed.Joining.{joined}
use Rattle.wgsl_model.specs.Printed.Indentation.{indented}
use Rattle.wgsl_model.specs.Printed.Expressions.{print_type}
use Rattle.wgsl_model.specs.Printed.Attributes.{print_attribute_line, print_attributes_before}
use Rattle.wgsl_model.specs.Printed.Declarations.{print_attributed, print_declaration, print_assert}
use Rattle.wgsl_model.specs.Printed.Statements.{print_compound}

-- directives
abbrev pub print_diagnostic : DiagnosticDirective → List ℕ
print_diagnostic d = codes "diagnostic (" ++ severity_text d.severity ++ codes ", " ++ d.rule_name ++ codes ");"

abbrev pub print_enable : EnableDirective → List ℕ
print_enable d = codes "enable " ++ joined (codes ", ") d.extensions ++ codes ";"

abbrev pub print_requires : RequiresDirective → List ℕ
print_requires d = codes "requires " ++ joined (codes ", ") d.extensions ++ codes ";"

-- what is after the attributes of a directive
abbrev pub print_unattributed_directive : UnattributedDirective → List ℕ
print_unattributed_directive (diagnostic d) = print_diagnostic d
print_unattributed_directive (enable d) = print_enable d
print_unattributed_directive (requires d) = print_requires d

abbrev pub print_directive : GlobalDirective → List ℕ
print_directive = print_attributed print_unattributed_directive

-- declarations
abbrev pub print_type_alias : TypeAlias → List ℕ
print_type_alias a = codes "alias " ++ a.ident ++ codes " = " ++ print_type a.ty ++ codes ";"

abbrev pub print_member : StructMember → List ℕ
print_member m = print_attribute_line m.attributes ++ m.ident ++ codes ": " ++ print_type m.ty

-- members with `,` and a line break between each two, four spaces in
abbrev pub print_struct : Struct → List ℕ
print_struct s = codes "struct " ++ s.ident ++ codes " {\n"
    ++ indented (joined (codes ",\n") (map (λ (m : Spanned StructMember). print_member m.node) s.members))
    ++ codes "\n}"

abbrev pub print_parameter : FormalParameter → List ℕ
print_parameter p = print_attributes_before p.attributes ++ p.ident ++ codes ": " ++ print_type p.ty

-- what a function returns, after its arrow, if it is there
abbrev pub print_result : Attributes → Option TypeExpression → List ℕ
print_result attributes None = []
print_result attributes (Some t) = codes "-> " ++ print_attributes_before attributes ++ print_type t ++ codes " "

abbrev pub print_function : Function → List ℕ
print_function f =
    codes "fn " ++ f.ident ++ codes "(" ++ joined (codes ", ") (map print_parameter f.parameters) ++ codes ") "
    ++ print_result f.return_attributes f.return_type ++ print_compound f.body

-- what is after the attributes of a declaration
abbrev pub print_unattributed_declaration : UnattributedDeclaration → List ℕ
print_unattributed_declaration void = codes ";"
print_unattributed_declaration (declaration d) = print_declaration d
print_unattributed_declaration (type_alias a) = print_type_alias a
print_unattributed_declaration (structure s) = print_struct s
print_unattributed_declaration (function f) = print_function f
print_unattributed_declaration (const_assert c) = print_assert c

abbrev pub print_global_declaration : GlobalDeclaration → List ℕ
print_global_declaration = print_attributed print_unattributed_declaration

-- what is after the attributes of a declaration is empty
abbrev pub is_void_declaration : UnattributedDeclaration → Bool
is_void_declaration void = true
is_void_declaration d = false

-- the declaration is empty
abbrev pub is_void : GlobalDeclaration → Bool
is_void d = is_void_declaration d.node

-- the texts of the declarations that are not empty
abbrev pub declaration_texts : List (Spanned GlobalDeclaration) → List (List ℕ)
declaration_texts [] = []
declaration_texts (d ∷ ds) = if is_void d.node then declaration_texts ds
    else print_global_declaration d.node ∷ declaration_texts ds

-- directives on lines of their own, and an empty line after them if there are any
abbrev pub print_directives : List GlobalDirective → List ℕ
print_directives [] = []
print_directives (d ∷ ds) = joined (codes "\n") (map print_directive (d ∷ ds)) ++ codes "\n\n"

-- a module: its directives, then the declarations that are not empty with an empty line between
-- each two, then a line break
abbrev pub print_unit : TranslationUnit → List ℕ
print_unit u = print_directives u.global_directives
    ++ joined (codes "\n\n") (declaration_texts u.global_declarations) ++ codes "\n"
