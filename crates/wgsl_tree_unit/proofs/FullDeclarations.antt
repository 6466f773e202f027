-- Declarations without the empty ones, one after another.
use Rattle.std.proofs.Common.{◌≡◌, refl, ◌∙◌, ap, Bool, true, false, not, cond, List, [], ◌∷◌, map, if◌then◌else◌}
use Rattle.std.specs.List.Retain.{RetainsInTurn}
use Rattle.wgsl_model.specs.Trees.Units as plain
use Rattle.wgsl_model.specs.Printed.Units.{is_void_declaration, is_void}
use Rattle.wgsl_model.specs.Trees.EmptyItems.{full_unattributed_declaration, full_declaration, full_declarations}
use Rattle.wgsl_span.specs.declared.Spanned.{Spanned}
use Rattle.wgsl_span.specs.Spanned.{spanned_node, spanned_span}
use Rattle.wgsl_span.specs.View.{span_view, spanned_view}
use Rattle.wgsl_tree_unit.specs.declared.global_declaration.GlobalDeclaration.{GlobalDeclaration}
use Rattle.wgsl_tree_unit.specs.View.{global_declaration_view}

empty_full : (d : plain.UnattributedDeclaration)
    → is_void_declaration (full_unattributed_declaration d) ≡ is_void_declaration d
empty_full plain.void = refl
empty_full d = refl

-- y is x without its empty statements, and stays where it is not empty
abbrev pub Emptied : Spanned GlobalDeclaration → Bool → Spanned GlobalDeclaration → Type 0
Emptied x stays y =
    (global_declaration_view (spanned_node y) ≡ full_declaration (global_declaration_view (spanned_node x)))
    × (stays ≡ not (is_void (global_declaration_view (spanned_node y))))
    × (spanned_span y ≡ spanned_span x)

module _ {S : Type 0} (R : S → Spanned GlobalDeclaration → Bool → S → Spanned GlobalDeclaration → Type 0)
    (says : (s : S) (x : Spanned GlobalDeclaration) (stays : Bool) (t : S)
    (y : Spanned GlobalDeclaration) → R s x stays t y → Emptied x stays y) where
  pub retained_full : (s : S) (xs ys : List (Spanned GlobalDeclaration)) → RetainsInTurn R s xs ys
      → map (spanned_view global_declaration_view) ys
      ≡ full_declarations (map (spanned_view global_declaration_view) xs)
  retained_full s [] ys e = ap (map (spanned_view global_declaration_view)) e
  retained_full s (x ∷ xs) ys (stays, t, y, called, zs, rest, e) =
      let view = spanned_view global_declaration_view in
      let d = global_declaration_view (spanned_node x) in
      let emptied = says s x stays t y called in
      let answer : stays ≡ not (is_void d) = emptied.1 ∙ ap (λ z. not (is_void z)) emptied.0
      ∙ ap not (empty_full d.node) in
      let further = retained_full t xs zs rest in
      ap (map view) (e ∙ ap (λ b. cond b (y ∷ zs) zs) answer)
      ∙ (elim (is_void d) as (λ b. map view (cond (not b) (y ∷ zs) zs) ≡ (if b then full_declarations (map view xs)
      else record (view x) { node = full_declaration d } ∷ full_declarations (map view xs))) [
        | true ↦ further
        | false ↦ λ i. record { node = emptied.0 i; span = span_view (emptied.2 i) } ∷ further i
      ])
