-- What the packed forms of modules, their directives and their declarations print.
use Rattle.std.proofs.Common.{ℕ, ◌≡◌, refl, sym, ap, Bool, true, false, cond, List, [], ◌∷◌, ◌++◌, map, map-id, Option, Some, None, codes, append_assoc, append-nil}
use Rattle.std.specs.List.{flat_map}
use Rattle.grammar.specs.Tokens.{Span}
use Rattle.wgsl_model.specs.Trees.NamedValues.{severity_text}
use Rattle.wgsl_model.specs.Trees.Spanned.{Spanned}
use Rattle.wgsl_model.specs.Trees.Attributes.{Attributes}
use Rattle.wgsl_model.specs.Trees.Expressions.{TypeExpression}
use Rattle.wgsl_model.specs.Trees.Units.{GlobalDirective, UnattributedDirective, diagnostic, enable, requires, StructMember, Struct, FormalParameter, Function, GlobalDeclaration, UnattributedDeclaration, void, declaration, type_alias, structure, function, const_assert, TranslationUnit}
use Rattle.wgsl_model.specs.Printed.Indentation.{indented}
use Rattle.wgsl_model.specs.Printed.Joining.{joined}
use Rattle.wgsl_model.specs.Printed.Attributes.{print_attribute_line}
use Rattle.wgsl_model.specs.Printed.Declarations.{unended_declaration, unended_assert}
use Rattle.wgsl_model.specs.Printed.Units.{print_unattributed_directive, print_directive, print_member, print_struct, print_parameter, print_result, print_function, print_unattributed_declaration, print_global_declaration, is_void, declaration_texts, print_directives, print_unit}
use Rattle.wgsl_model.proofs.Filled.{left_filled, member_filled}
use Rattle.wgsl_model_packed.specs.Printing.{packed_text, packed_span}
use Rattle.wgsl_model_packed.specs.Rules.{ended_rule, nothing_rule, names_rule, name_rule, parts_rule, part_rule, void_item_rule, directives_rule, last_directive_rule, first_declaration_rule, declarations_rule, members_rule, last_member_rule}
use Rattle.wgsl_model_packed.specs.Expressions.{packed_items, packed_list}
use Rattle.wgsl_model_packed.specs.Attributes.{packed_attribute_line}
use Rattle.wgsl_model_packed.specs.Units.{packed_names, packed_directive_after, packed_directive, packed_member, packed_member_node, packed_members, packed_parameter, packed_result, packed_function, packed_declaration_after, packed_global_declaration, packed_declarations, packed_unit}
use Rattle.wgsl_theory_packed.specs.Shown.{Shows}
use Rattle.wgsl_theory_packed.proofs.Shown.{◌▸◌, ◌before◌, last, last_closed, in_turn, shown_as, shown_closed, shown_line, shown_plain, shown_span, shown_text, shown_rule}
use Rattle.wgsl_theory_packed.proofs.Lists.{shown_none, shows_list, shows_items}
use Rattle.wgsl_theory_packed.proofs.Expressions.{shows_expression_node, shows_type}
use Rattle.wgsl_theory_packed.proofs.Attributes.{shows_attribute_line, shows_attributes_before}
use Rattle.wgsl_theory_packed.proofs.Declarations.{shows_declaration}
use Rattle.wgsl_theory_packed.proofs.Blocks.{Body, body_of, body_as, body_last, body_more, shown_lines, shown_no_lines, empty_ends}
use Rattle.wgsl_theory_packed.proofs.Statements.{shows_compound}

-- ---- directives

-- names one after another
shows_names : {d : ℕ} (names : List (List ℕ)) → Shows d (codes "$") (packed_names names) (joined (codes ", ") names)
shows_names names = shown_as (ap (λ texts. joined (codes ", ") texts) (map-id names))
    (shows_list {print = λ name. name} names_rule name_rule (codes ", ") refl refl (shown_plain (codes ", ") refl)
    shown_text names)

-- what is after the attributes of a directive, and these
shows_directive_after : {d : ℕ} (attributes : Attributes) (x : UnattributedDirective)
    → Shows d (codes "$") (packed_directive_after (packed_attribute_line attributes) x)
    (print_attribute_line attributes ++ print_unattributed_directive x)
shows_directive_after attributes (diagnostic x) = shown_rule refl (shows_attribute_line attributes
    ▸ in_turn (shown_plain (codes "diagnostic (") refl before shown_text (severity_text x.severity)
    before shown_plain (codes ", ") refl before last_closed (shown_text x.rule_name) (shown_plain (codes ");") refl)))
shows_directive_after attributes (enable x) = shown_rule refl (shows_attribute_line attributes
    ▸ in_turn (shown_plain (codes "enable ") refl
    before last_closed (shows_names x.extensions) (shown_plain (codes ";") refl)))
shows_directive_after attributes (requires x) = shown_rule refl (shows_attribute_line attributes
    ▸ in_turn (shown_plain (codes "requires ") refl
    before last_closed (shows_names x.extensions) (shown_plain (codes ";") refl)))

pub shows_directive : {d : ℕ} (x : GlobalDirective) → Shows d (codes "$") (packed_directive x) (print_directive x)
shows_directive x = shows_directive_after x.attributes x.node

-- directives on lines of their own, and an empty line after them if there are any
shows_directives : {d : ℕ} (xs : List GlobalDirective) → Shows d (codes "$")
    (packed_list nothing_rule directives_rule last_directive_rule packed_directive xs) (print_directives xs)
shows_directives [] = shown_none
shows_directives (x ∷ xs) = shows_items directives_rule last_directive_rule (codes "\n") (codes "\n\n") refl refl
    shown_line (shown_line ▸ shown_line) shows_directive x xs

-- ---- structures

pub shows_member : {d : ℕ} (m : StructMember) → Shows d (codes "$") (packed_member m) (print_member m)
shows_member m = shown_rule refl (in_turn (shows_attribute_line m.attributes before shown_text m.ident
    before shown_plain (codes ": ") refl before last (shows_type m.ty)))

-- the text of a member that has a place
abbrev member_text : Spanned StructMember → List ℕ
member_text m = print_member m.node

shows_member_node : {d : ℕ} (m : Spanned StructMember)
    → Shows d (codes "\n%$") (packed_member_node m) (codes "\n" ++ member_text m)
shows_member_node m = shown_line ▸ shown_span m.span ▸ shows_member m.node

-- members, with `,` and a line break between each two
member_lines : {d : ℕ} (m : Spanned StructMember) (ms : List (Spanned StructMember))
    → Body d (packed_items members_rule last_member_rule packed_member_node (m ∷ ms))
    (codes "\n" ++ joined (codes ",\n") (map member_text (m ∷ ms))) (codes "\n}")
member_lines m [] = body_of (ap (λ form. last_member_rule ∷ form) (sym (append-nil (packed_member_node m))))
    (body_as (ap (λ text. codes "\n" ++ text) (sym (append-nil (member_text m))))
    (body_last {front = codes "\n%$"} refl (shows_member_node m) (shown_line ▸ shown_plain (codes "}") refl)))
member_lines m (n ∷ ns) =
    body_as (append_assoc (codes "\n" ++ member_text m) (codes ",")
    (codes "\n" ++ joined (codes ",\n") (map member_text (n ∷ ns))))
    (body_more {front = codes "\n%$,"} refl (shown_closed (shows_member_node m) (shown_plain (codes ",") refl))
    (member_lines n ns))

shows_members : {d : ℕ} (ms : List (Spanned StructMember)) → Shows d (codes "{^$") (packed_members ms)
    (codes "{\n" ++ (indented (joined (codes ",\n") (map member_text ms)) ++ codes "\n}"))
shows_members [] = shown_no_lines empty_ends
shows_members (m ∷ ms) = shown_lines (left_filled (member_text m) _ (member_filled m.node)) (member_lines m ms)

struct_text : (name inside end : List ℕ) → codes "struct " ++ (name ++ (codes " {\n" ++ (inside ++ end)))
    ≡ codes "struct " ++ name ++ codes " {\n" ++ inside ++ end
struct_text name inside end = simp append_assoc

shows_struct : {d : ℕ} (s : Struct)
    → Shows d (codes "struct # {^$") (packed_text s.ident ++ packed_members s.members) (print_struct s)
shows_struct s = shown_as (struct_text s.ident (indented (joined (codes ",\n") (map member_text s.members))) (codes "\n}"))
    (shown_plain (codes "struct ") refl ▸ shown_text s.ident ▸ shown_plain (codes " ") refl ▸ shows_members s.members)

-- ---- functions

pub shows_parameter : {d : ℕ} (p : FormalParameter) → Shows d (codes "$") (packed_parameter p) (print_parameter p)
shows_parameter p = shown_rule refl (in_turn (shows_attributes_before p.attributes before shown_text p.ident
    before shown_plain (codes ": ") refl before last (shows_type p.ty)))

shows_result : {d : ℕ} (attributes : Attributes) (t : Option TypeExpression)
    → Shows d (codes "$") (packed_result attributes t) (print_result attributes t)
shows_result attributes None = shown_none
shows_result attributes (Some t) = shown_rule refl (in_turn (shown_plain (codes "-> ") refl
    before shows_attributes_before attributes before last_closed (shows_type t) (shown_plain (codes " ") refl)))

shows_function : {d : ℕ} (f : Function) → Shows d (codes "fn #($) $$") (packed_function f) (print_function f)
shows_function f = in_turn (shown_plain (codes "fn ") refl before shown_text f.ident
    before shown_plain (codes "(") refl before shows_list parts_rule part_rule (codes ", ") refl refl
    (shown_plain (codes ", ") refl) shows_parameter f.parameters before shown_plain (codes ") ") refl
    before shows_result f.return_attributes f.return_type before last (shows_compound f.body))

-- ---- declarations

-- a text after attributes, and the `;` that ends it
shows_ended : {d : ℕ} {form : List ℕ} (begun text : List ℕ) → Shows d (codes "$") form (begun ++ text)
    → Shows d (codes "$") (ended_rule ∷ form) (begun ++ (text ++ codes ";"))
shows_ended begun text s = shown_as (append_assoc begun text (codes ";"))
    (shown_rule refl (shown_closed s (shown_plain (codes ";") refl)))

-- what is after the attributes of a declaration, and these
shows_declaration_after : {d : ℕ} (attributes : Attributes) (x : UnattributedDeclaration)
    → Shows d (codes "$") (packed_declaration_after (packed_attribute_line attributes) x)
    (print_attribute_line attributes ++ print_unattributed_declaration x)
shows_declaration_after attributes void = shown_rule refl (shown_closed (shown_rule refl
    (shows_attribute_line attributes)) (shown_plain (codes ";") refl))
shows_declaration_after attributes (declaration x) =
    shows_ended (print_attribute_line attributes) (unended_declaration x)
    (shown_rule refl (shows_attribute_line attributes ▸ shows_declaration x))
shows_declaration_after attributes (type_alias a) = shown_rule refl (shows_attribute_line attributes
    ▸ in_turn (shown_plain (codes "alias ") refl before shown_text a.ident before shown_plain (codes " = ") refl
    before last_closed (shows_type a.ty) (shown_plain (codes ";") refl)))
shows_declaration_after attributes (structure s) =
    shown_rule refl (shows_attribute_line attributes ▸ shows_struct s)
shows_declaration_after attributes (function f) =
    shown_rule refl (shows_attribute_line attributes ▸ shows_function f)
shows_declaration_after attributes (const_assert c) =
    shows_ended (print_attribute_line attributes) (unended_assert c) (shown_rule refl
    (shows_attribute_line attributes ▸ shown_plain (codes "const_assert ") refl ▸ shows_expression_node c.expression))

pub shows_global_declaration : {d : ℕ} (x : GlobalDeclaration)
    → Shows d (codes "$") (packed_global_declaration x) (print_global_declaration x)
shows_global_declaration x = shows_declaration_after x.attributes x.node

-- declarations with an empty line before each, but for those that are empty
abbrev further_lines : List (List ℕ) → List ℕ
further_lines = flat_map (λ text. codes "\n\n" ++ text)

one_declaration : {d : ℕ} {form text more : List ℕ} (empty : Bool) (span : Span) (texts : List (List ℕ))
    → Shows d (codes "$") form text → Shows d (codes "$") more (further_lines texts)
    → Shows d (codes "$") (cond empty (void_item_rule ∷ (packed_span span ++ more))
    (declarations_rule ∷ (packed_span span ++ (form ++ more)))) (further_lines (cond empty texts (text ∷ texts)))
one_declaration true span texts s more = shown_rule refl (shown_span span ▸ more)
one_declaration false span texts s more =
    shown_rule refl (shown_line ▸ shown_line ▸ shown_span span ▸ s ▸ more)

shows_further : {d : ℕ} (xs : List (Spanned GlobalDeclaration))
    → Shows d (codes "$") (packed_declarations declarations_rule xs) (further_lines (declaration_texts xs))
shows_further [] = shown_none
shows_further (x ∷ xs) = one_declaration (is_void x.node) x.span (declaration_texts xs)
    (shows_global_declaration x.node) (shows_further xs)

first_declaration : {d : ℕ} {form text more rest : List ℕ} (empty : Bool) (span : Span) (texts : List (List ℕ))
    → Shows d (codes "$") form text → Shows d (codes "$") more (joined (codes "\n\n") texts)
    → Shows d (codes "$") rest (further_lines texts)
    → Shows d (codes "$") (cond empty (void_item_rule ∷ (packed_span span ++ more))
    (first_declaration_rule ∷ (packed_span span ++ (form ++ rest))))
    (joined (codes "\n\n") (cond empty texts (text ∷ texts)))
first_declaration true span texts s more rest = shown_rule refl (shown_span span ▸ more)
first_declaration false span texts s more rest = shown_rule refl (shown_span span ▸ s ▸ rest)

-- declarations with an empty line between each two
shows_declarations : {d : ℕ} (xs : List (Spanned GlobalDeclaration))
    → Shows d (codes "$") (packed_declarations first_declaration_rule xs)
    (joined (codes "\n\n") (declaration_texts xs))
shows_declarations [] = shown_none
shows_declarations (x ∷ xs) = first_declaration (is_void x.node) x.span (declaration_texts xs)
    (shows_global_declaration x.node) (shows_declarations xs) (shows_further xs)

pub shows_unit : {d : ℕ} (u : TranslationUnit) → Shows d (codes "$") (packed_unit u) (print_unit u)
shows_unit u = shown_rule refl (shown_closed
    (shows_directives u.global_directives ▸ shows_declarations u.global_declarations) shown_line)
