-- The printed texts of modules and their declarations are the same with the spans set aside.
use Rattle.std.proofs.Common.{◌≡◌, List, [], ◌∷◌, ◌++◌, map, refl, codes, if◌then◌else◌, Option, Some, None}
use Rattle.std.specs.Option.{option_map}
use Rattle.wgsl_model.specs.Trees.Spanned.{Spanned}
use Rattle.wgsl_model.specs.Trees.Expressions.{TypeExpression}
use Rattle.wgsl_model.specs.Trees.Attributes.{Attributes}
use Rattle.wgsl_model.specs.Trees.Units as tree
use Rattle.wgsl_model.specs.Printed.Joining.{joined}
use Rattle.wgsl_model.specs.Printed.Indentation.{indented}
use Rattle.wgsl_model.specs.Printed.Units as printed
use Rattle.wgsl_model.specs.Trees.WithoutSpans.{bare_spanned, bare_type, bare_attributes}
use Rattle.wgsl_model.specs.Trees.StatementsWithoutSpans as bare
use Rattle.wgsl_theory_reread.proofs.Trees.Spans.{node_bare, type_bare, attribute_line_bare, attributes_before_bare}
use Rattle.wgsl_theory_reread.proofs.Trees.SpansStatements.{declaration_bare, compound_bare}

members_bare : (ms : List (Spanned tree.StructMember))
    → map (λ (m : Spanned tree.StructMember). printed.print_member m.node) (map (bare_spanned bare.bare_member) ms)
    ≡ map (λ (m : Spanned tree.StructMember). printed.print_member m.node) ms
members_bare [] = refl
members_bare (m ∷ ms) = λ i. (attribute_line_bare m.node.attributes i ++ m.node.ident ++ codes ": "
    ++ type_bare m.node.ty i) ∷ members_bare ms i

parameters_bare : (ps : List tree.FormalParameter)
    → map printed.print_parameter (map bare.bare_parameter ps) ≡ map printed.print_parameter ps
parameters_bare [] = refl
parameters_bare (p ∷ ps) =
    λ i. (attributes_before_bare p.attributes i ++ p.ident ++ codes ": " ++ type_bare p.ty i) ∷ parameters_bare ps i

result_bare : (attributes : Attributes) (t : Option TypeExpression)
    → printed.print_result (bare_attributes attributes) (option_map bare_type t) ≡ printed.print_result attributes t
result_bare attributes None = refl
result_bare attributes (Some t) = λ i. codes "-> " ++ attributes_before_bare attributes i ++ type_bare t i ++ codes " "

function_bare : (f : tree.Function) → printed.print_function (bare.bare_function f) ≡ printed.print_function f
function_bare f =
    λ i. codes "fn " ++ f.ident ++ codes "(" ++ joined (codes ", ") (parameters_bare f.parameters i)
    ++ codes ") " ++ result_bare f.return_attributes f.return_type i ++ compound_bare f.body i

unattributed_bare : (d : tree.UnattributedDeclaration)
    → printed.print_unattributed_declaration (bare.bare_unattributed_declaration d)
    ≡ printed.print_unattributed_declaration d
unattributed_bare tree.void = refl
unattributed_bare (tree.declaration d) = λ i. declaration_bare d i ++ codes ";"
unattributed_bare (tree.type_alias a) = λ i. codes "alias " ++ a.ident ++ codes " = " ++ type_bare a.ty i ++ codes ";"
unattributed_bare (tree.structure s) = λ i. codes "struct " ++ s.ident ++ codes " {\n"
    ++ indented (joined (codes ",\n") (members_bare s.members i)) ++ codes "\n}"
unattributed_bare (tree.function f) = function_bare f
unattributed_bare (tree.const_assert c) = λ i. (codes "const_assert " ++ node_bare c.expression i) ++ codes ";"

pub global_bare : (d : tree.GlobalDeclaration)
    → printed.print_global_declaration (bare.bare_global_declaration d) ≡ printed.print_global_declaration d
global_bare d = λ i. attribute_line_bare d.attributes i ++ unattributed_bare d.node i

void_bare : (d : tree.UnattributedDeclaration)
    → printed.is_void_declaration (bare.bare_unattributed_declaration d) ≡ printed.is_void_declaration d
void_bare tree.void = refl
void_bare d = refl

texts_bare : (ds : List (Spanned tree.GlobalDeclaration))
    → printed.declaration_texts (map (bare_spanned bare.bare_global_declaration) ds) ≡ printed.declaration_texts ds
texts_bare [] = refl
texts_bare (d ∷ ds) = λ i. if void_bare d.node.node i then texts_bare ds i else global_bare d.node i ∷ texts_bare ds i

directives_bare : (ds : List tree.GlobalDirective)
    → map printed.print_directive (map bare.bare_directive ds) ≡ map printed.print_directive ds
directives_bare [] = refl
directives_bare (d ∷ ds) =
    λ i. (attribute_line_bare d.attributes i ++ printed.print_unattributed_directive d.node) ∷ directives_bare ds i

all_directives_bare : (ds : List tree.GlobalDirective)
    → printed.print_directives (map bare.bare_directive ds) ≡ printed.print_directives ds
all_directives_bare [] = refl
all_directives_bare (d ∷ ds) = λ i. joined (codes "\n") (directives_bare (d ∷ ds) i) ++ codes "\n\n"

pub unit_print_bare : (u : tree.TranslationUnit) → printed.print_unit (bare.bare_unit u) ≡ printed.print_unit u
unit_print_bare u = λ i. all_directives_bare u.global_directives i
    ++ joined (codes "\n\n") (texts_bare u.global_declarations i) ++ codes "\n"
