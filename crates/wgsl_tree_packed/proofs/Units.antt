-- Declarations one after another in their packed form: what is written of each.
use Rattle.std.proofs.Common.{ℕ, ◌≡◌, sym, ◌∙◌, ap, true, false, List, ◌∷◌, ◌++◌, map, append_assoc, if◌then◌else◌}
use Rattle.wgsl_model.specs.Printed.Units.{is_void}
use Rattle.wgsl_model_packed.specs.Printing.{packed_span}
use Rattle.wgsl_model_packed.specs.Rules.{declarations_rule, void_item_rule}
use Rattle.wgsl_model_packed.specs.Units.{packed_declarations, packed_global_declaration}
use Rattle.wgsl_span.specs.declared.Spanned.{Spanned}
use Rattle.wgsl_span.specs.View.{span_view, spanned_view}
use Rattle.wgsl_tree_unit.specs.declared.global_declaration.GlobalDeclaration.{GlobalDeclaration}
use Rattle.wgsl_tree_unit.specs.View.{global_declaration_view}
use Rattle.wgsl_tree_packed.proofs.Lists.{one_written, two_parts}

-- declarations, the first that is not empty after the number of a rule
abbrev pub left_after : ℕ → List (Spanned GlobalDeclaration) → List ℕ
left_after rule xs = packed_declarations rule (map (spanned_view global_declaration_view) xs)

-- an empty declaration more
pub void_written : (rule : ℕ) (x : Spanned GlobalDeclaration) (after : List (Spanned GlobalDeclaration))
    (o p whole : List ℕ) → is_void (global_declaration_view x.node.value) ≡ true
    → p ≡ o ++ (void_item_rule ∷ packed_span (span_view x.span))
    → o ++ left_after rule (x ∷ after) ≡ whole → p ++ left_after rule after ≡ whole
void_written rule x after o p whole void e so_far =
    let span = packed_span (span_view x.span) in
    let text = packed_global_declaration (global_declaration_view x.node.value) in
    one_written o p (void_item_rule ∷ span) (left_after rule after) whole e
    (ap (λ t. o ++ t) (sym (ap (λ b. if b then (void_item_rule ∷ (span ++ left_after rule after))
    else (rule ∷ (span ++ (text ++ left_after declarations_rule after)))) void)) ∙ so_far)

-- another declaration more
pub declaration_written : (rule : ℕ) (x : Spanned GlobalDeclaration)
    (after : List (Spanned GlobalDeclaration)) (o p q whole : List ℕ)
    → is_void (global_declaration_view x.node.value) ≡ false
    → p ≡ o ++ (rule ∷ packed_span (span_view x.span))
    → q ≡ p ++ packed_global_declaration (global_declaration_view x.node.value)
    → o ++ left_after rule (x ∷ after) ≡ whole
    → q ++ left_after declarations_rule after ≡ whole
declaration_written rule x after o p q whole void e f so_far =
    let span = packed_span (span_view x.span) in
    let text = packed_global_declaration (global_declaration_view x.node.value) in
    let rest = left_after declarations_rule after in
    one_written o q ((rule ∷ span) ++ text) rest whole (two_parts o p q (rule ∷ span) text e f)
    (ap (λ t. o ++ t) (sym (ap (λ b. if b then (void_item_rule ∷ (span ++ left_after rule after))
    else (rule ∷ (span ++ (text ++ rest)))) void
    ∙ ap (λ t. rule ∷ t) (sym (append_assoc span text rest)))) ∙ so_far)
