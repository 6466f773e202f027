-- What the packed forms of the declarations of values print, and of some parts of statements.
use Rattle.std.proofs.Common.{ℕ, refl, Option, Some, codes}
use Rattle.wgsl_model.specs.Trees.NamedValues.{AddressSpace, AccessMode, access_mode_text, address_space_text}
use Rattle.wgsl_model.specs.Trees.Attributed.{Attributed}
use Rattle.wgsl_model.specs.Trees.Statements.{DeclarationKind, const_kind, override_kind, let_kind, var_kind, Declaration, BreakIfStatement, CaseSelector, default_selector, expression_selector}
use Rattle.wgsl_model.specs.Printed.Declarations.{print_attributed, print_access_mode, print_var_template, print_kind, print_typed, print_initializer, unended_declaration, print_break_if, print_selector}
use Rattle.wgsl_model_packed.specs.Rules.{further_word_rule, var_template_rule, typed_rule, initializer_rule}
use Rattle.wgsl_model_packed.specs.Statements.{packed_var_template, packed_kind, packed_declaration, packed_break_if, packed_selector}
use Rattle.wgsl_theory_packed.specs.Shown.{Shows}
use Rattle.wgsl_theory_packed.proofs.Shown.{◌▸◌, ◌before◌, last, last_closed, in_turn, shown_plain, shown_text, shown_rule}
use Rattle.wgsl_theory_packed.proofs.Lists.{shows_optional}
use Rattle.wgsl_theory_packed.proofs.Expressions.{shows_expression_node, shows_type}
use Rattle.wgsl_theory_packed.proofs.Attributes.{shows_attribute_line}

-- an address space, and an access mode
shows_var_template : {d : ℕ} (t : AddressSpace × Option AccessMode) →
    Shows d (codes "<#$>") (packed_var_template t) (print_var_template (Some t))
shows_var_template (space, mode) = in_turn (shown_plain (codes "<") refl
    before shown_text (address_space_text space)
    before last_closed (shows_optional further_word_rule print_access_mode refl refl
    (λ m. shown_plain (codes ", ") refl ▸ shown_text (access_mode_text m)) mode)
    (shown_plain (codes ">") refl))

pub shows_kind : {d : ℕ} (kind : DeclarationKind) → Shows d (codes "$") (packed_kind kind) (print_kind kind)
shows_kind const_kind = shown_rule refl (shown_text (codes "const"))
shows_kind override_kind = shown_rule refl (shown_text (codes "override"))
shows_kind let_kind = shown_rule refl (shown_text (codes "let"))
shows_kind (var_kind t) = shown_rule refl (shown_plain (codes "var") refl
    ▸ shows_optional var_template_rule print_var_template refl refl shows_var_template t)

-- what is after the attributes of a declaration
pub shows_declaration : {d : ℕ} (x : Declaration) →
    Shows d (codes "$ #$$") (packed_declaration x) (unended_declaration x)
shows_declaration x = in_turn (shows_kind x.kind before shown_plain (codes " ") refl before shown_text x.ident
    before shows_optional typed_rule print_typed refl refl (λ t. shown_plain (codes ": ") refl ▸ shows_type t) x.ty
    before last (shows_optional initializer_rule print_initializer refl refl
    (λ e. shown_plain (codes " = ") refl ▸ shows_expression_node e) x.initializer))

pub shows_break_if : {d : ℕ} (b : Attributed BreakIfStatement) →
    Shows d (codes "$") (packed_break_if b) (print_attributed print_break_if b)
shows_break_if b = shown_rule refl (shows_attribute_line b.attributes ▸ in_turn (shown_plain (codes "break if ") refl
    before last_closed (shows_expression_node b.node.expression) (shown_plain (codes ";") refl)))

-- what a clause of a `switch` selects
pub shows_selector : {d : ℕ} (s : CaseSelector) → Shows d (codes "$") (packed_selector s) (print_selector s)
shows_selector default_selector = shown_rule refl (shown_plain (codes "default") refl)
shows_selector (expression_selector e) = shown_rule refl (shows_expression_node e)
