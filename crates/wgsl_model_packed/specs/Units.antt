-- The packed forms of modules, their directives and their declarations.
use Rattle.std.specs.Prelude.{ℕ, List, [], ◌∷◌, ◌++◌, Option, Some, None, if◌then◌else◌}
use Rattle.wgsl_model.specs.Trees.NamedValues.{severity_text}
use Rattle.wgsl_model.specs.Trees.Spanned.{Spanned}
use Rattle.wgsl_model.specs.Trees.Attributes.{Attributes}
use Rattle.wgsl_model.specs.Trees.Expressions.{TypeExpression}
use Rattle.wgsl_model.specs.Trees.Units.{GlobalDirective, UnattributedDirective, diagnostic, enable, requires, StructMember, FormalParameter, Function, GlobalDeclaration, UnattributedDeclaration, void, declaration, type_alias, structure, function, const_assert, TranslationUnit}
use Rattle.wgsl_model.specs.Printed.Units.{is_void}
use Rattle.wgsl_model_packed.specs.Printing.{packed_text, packed_span}
use Rattle.wgsl_model_packed.specs.Expressions.{packed_expression_node, packed_type, packed_list}
use Rattle.wgsl_model_packed.specs.Attributes.{packed_attribute_line, packed_attributes_before}
use Rattle.wgsl_model_packed.specs.Statements.{packed_declaration, packed_compound}
use Rattle.wgsl_model_packed.specs.Rules.{name_rule, names_rule, nothing_rule, parts_rule, part_rule, declaration_rule, const_assert_rule, void_rule, ended_rule, void_item_rule, empty_end_rule, unit_rule, directives_rule, last_directive_rule, diagnostic_directive_rule, enable_rule, requires_rule, first_declaration_rule, declarations_rule, alias_rule, struct_rule, members_rule, last_member_rule, member_rule, function_rule, result_rule}

-- names one after another
abbrev pub packed_names : List (List ℕ) → List ℕ
packed_names = packed_list nothing_rule names_rule name_rule packed_text

-- what is after the attributes of a directive, after the number of its rule and these
abbrev pub packed_directive_after : List ℕ → UnattributedDirective → List ℕ
packed_directive_after attributes (diagnostic d) = diagnostic_directive_rule
    ∷ (attributes ++ (packed_text (severity_text d.severity) ++ packed_text d.rule_name))
packed_directive_after attributes (enable d) =
    enable_rule ∷ (attributes ++ packed_names d.extensions)
packed_directive_after attributes (requires d) =
    requires_rule ∷ (attributes ++ packed_names d.extensions)

abbrev pub packed_directive : GlobalDirective → List ℕ
packed_directive d = packed_directive_after (packed_attribute_line d.attributes) d.node

abbrev pub packed_member : StructMember → List ℕ
packed_member m = member_rule
    ∷ (packed_attribute_line m.attributes ++ (packed_text m.ident ++ packed_type m.ty))

abbrev pub packed_member_node : Spanned StructMember → List ℕ
packed_member_node m = packed_span m.span ++ packed_member m.node

-- the members of a structure
abbrev pub packed_members : List (Spanned StructMember) → List ℕ
packed_members ms =
    packed_list empty_end_rule members_rule last_member_rule packed_member_node ms

abbrev pub packed_parameter : FormalParameter → List ℕ
packed_parameter p = member_rule
    ∷ (packed_attributes_before p.attributes ++ (packed_text p.ident ++ packed_type p.ty))

-- what a function returns; attributes alone are not printed
abbrev pub packed_result : Attributes → Option TypeExpression → List ℕ
packed_result attributes None = nothing_rule ∷ []
packed_result attributes (Some t) =
    result_rule ∷ (packed_attributes_before attributes ++ packed_type t)

abbrev pub packed_function : Function → List ℕ
packed_function f = packed_text f.ident
    ++ (packed_list nothing_rule parts_rule part_rule packed_parameter f.parameters
    ++ (packed_result f.return_attributes f.return_type ++ packed_compound f.body))

-- what is after the attributes of a declaration, after the number of its rule and these
abbrev pub packed_declaration_after : List ℕ → UnattributedDeclaration → List ℕ
packed_declaration_after attributes void = ended_rule ∷ void_rule ∷ attributes
packed_declaration_after attributes (declaration d) =
    ended_rule ∷ declaration_rule ∷ (attributes ++ packed_declaration d)
packed_declaration_after attributes (type_alias a) =
    alias_rule ∷ (attributes ++ (packed_text a.ident ++ packed_type a.ty))
packed_declaration_after attributes (structure s) =
    struct_rule ∷ (attributes ++ (packed_text s.ident ++ packed_members s.members))
packed_declaration_after attributes (function f) =
    function_rule ∷ (attributes ++ packed_function f)
packed_declaration_after attributes (const_assert c) =
    ended_rule ∷ const_assert_rule ∷ (attributes ++ packed_expression_node c.expression)

abbrev pub packed_global_declaration : GlobalDeclaration → List ℕ
packed_global_declaration d =
    packed_declaration_after (packed_attribute_line d.attributes) d.node

-- declarations, the first that is not empty after the number of a rule, and then those after that
-- of another; an empty one has its span alone
abbrev pub packed_declarations : ℕ → List (Spanned GlobalDeclaration) → List ℕ
packed_declarations first [] = nothing_rule ∷ []
packed_declarations first (d ∷ ds) = if is_void d.node
    then void_item_rule ∷ (packed_span d.span ++ packed_declarations first ds)
    else first ∷ (packed_span d.span ++ (packed_global_declaration d.node
    ++ packed_declarations declarations_rule ds))

abbrev pub packed_unit : TranslationUnit → List ℕ
packed_unit u = unit_rule
    ∷ (packed_list nothing_rule directives_rule last_directive_rule packed_directive u.global_directives
    ++ packed_declarations first_declaration_rule u.global_declarations)
