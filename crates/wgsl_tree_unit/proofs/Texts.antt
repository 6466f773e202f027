-- The texts of members, none of which is empty, one more at a time.
use Rattle.std.proofs.Common.{ℕ, ◌+◌, ◌<◌, ◌≡◌, sym, ◌∙◌, ap, List, [], ◌∷◌, ◌++◌, length, take, map, get_or}
use Rattle.std.proofs.lemmas.List.{take_more, map-append}
use Rattle.wgsl_model.specs.Trees.Spanned as plain_tree
use Rattle.wgsl_model.specs.Trees.Units as plain
use Rattle.wgsl_model.specs.Printed.Units.{print_member}
use Rattle.wgsl_model.proofs.Filled.{member_filled}
use Rattle.wgsl_span.specs.declared.Spanned.{Spanned}
use Rattle.wgsl_span.specs.Spanned.{spanned_node}
use Rattle.wgsl_span.specs.View.{spanned_view}
use Rattle.wgsl_tree_simple.proofs.Blocks.{BeginsFilled, begins}
use Rattle.wgsl_tree_unit.specs.declared.structure.StructMember.{StructMember}
use Rattle.wgsl_tree_unit.specs.View.{member_view}

abbrev pub member_texts : List (Spanned StructMember) → List (List ℕ)
member_texts members = map (λ (m : plain_tree.Spanned plain.StructMember). print_member m.node)
    (map (spanned_view member_view) members)

pub members_filled : (members : List (Spanned StructMember)) → BeginsFilled (member_texts members)
members_filled [] = tt
members_filled (m ∷ ms) = begins (print_member (member_view (spanned_node m))) (member_texts ms)
    (member_filled (member_view (spanned_node m)))

pub members_more : (xs : List (Spanned StructMember)) (k : ℕ) (x : Spanned StructMember)
    → k < length xs → x ≡ get_or xs k x
    → member_texts (take k xs) ++ (print_member (member_view (spanned_node x)) ∷ []) ≡ member_texts (take (k + 1) xs)
members_more xs k x inside at =
    let view = spanned_view member_view in
    let text : plain_tree.Spanned plain.StructMember → List ℕ = λ m. print_member m.node in
    sym (ap member_texts (take_more xs k x inside ∙ ap (λ (y : Spanned StructMember). take k xs ++ (y ∷ [])) (sym at))
    ∙ ap (map text) (map-append view (take k xs) (x ∷ []))
    ∙ map-append text (map view (take k xs)) (view x ∷ []))
