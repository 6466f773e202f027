-- The texts of the declarations that are not empty, one declaration more at a time.
use Rattle.std.proofs.Common.{ℕ, ◌+◌, ◌<◌, ◌≡◌, refl, sym, ◌∙◌, ap, true, false, if◌then◌else◌, List, [], ◌∷◌, ◌++◌, length, take, map, get_or}
use Rattle.std.proofs.lemmas.List.{take_more, append-nil, append_assoc, map-append}
use Rattle.std.proofs.lemmas.Grind.{flat_map-append}
use Rattle.std.specs.List.{flat_map}
use Rattle.wgsl_model.specs.Trees.Spanned as plain_tree
use Rattle.wgsl_model.specs.Trees.Units as plain
use Rattle.wgsl_model.specs.Printed.Joining.{joined}
use Rattle.wgsl_model.specs.Printed.Units.{print_global_declaration, is_void, declaration_texts}
use Rattle.wgsl_span.specs.declared.Spanned.{Spanned}
use Rattle.wgsl_span.specs.Spanned.{spanned_node}
use Rattle.wgsl_span.specs.View.{spanned_view}
use Rattle.wgsl_tree_unit.specs.declared.global_declaration.GlobalDeclaration.{GlobalDeclaration}
use Rattle.wgsl_tree_unit.specs.View.{global_declaration_view}

-- what is before the next text
abbrev pub before_next : List ℕ → List (List ℕ) → List ℕ
before_next separator [] = []
before_next separator (t ∷ ts) = separator

pub before_more : (separator : List ℕ) (ts : List (List ℕ)) (t : List ℕ)
    → before_next separator (ts ++ (t ∷ [])) ≡ separator
before_more separator [] t = refl
before_more separator (u ∷ us) t = refl

pub joined_more : (separator : List ℕ) (ts : List (List ℕ)) (t : List ℕ)
    → joined separator (ts ++ (t ∷ [])) ≡ joined separator ts ++ (before_next separator ts ++ t)
joined_more separator [] t = append-nil t
joined_more separator (u ∷ us) t =
    let line : List ℕ → List ℕ = λ v. separator ++ v in
    ap (λ z. u ++ z) (flat_map-append line us (t ∷ []) ∙ ap (λ z. flat_map line us ++ z) (append-nil (line t)))
    ∙ sym (append_assoc u (flat_map line us) (line t))

-- the texts of declarations
abbrev pub shown : List (Spanned GlobalDeclaration) → List (List ℕ)
shown declarations = declaration_texts (map (spanned_view global_declaration_view) declarations)

-- the text of one, if it is not empty
abbrev pub shown_one : plain.GlobalDeclaration → List (List ℕ)
shown_one d = if is_void d then [] else print_global_declaration d ∷ []

texts_more : (ds : List (plain_tree.Spanned plain.GlobalDeclaration)) (d : plain_tree.Spanned plain.GlobalDeclaration)
    → declaration_texts (ds ++ (d ∷ [])) ≡ declaration_texts ds ++ shown_one d.node
texts_more [] d = refl
texts_more (first ∷ ds) d =
    elim (is_void first.node) as (λ b. (if b then declaration_texts (ds ++ (d ∷ []))
    else print_global_declaration first.node ∷ declaration_texts (ds ++ (d ∷ []))) ≡ (if b then declaration_texts ds
    else print_global_declaration first.node ∷ declaration_texts ds) ++ shown_one d.node) [
      | true ↦ texts_more ds d
      | false ↦ ap (λ z. print_global_declaration first.node ∷ z) (texts_more ds d)
    ]

-- the front of a list that is longer by one
pub shown_more : (xs : List (Spanned GlobalDeclaration)) (k : ℕ) (x : Spanned GlobalDeclaration)
    → k < length xs → x ≡ get_or xs k x
    → shown (take (k + 1) xs) ≡ shown (take k xs) ++ shown_one (global_declaration_view (spanned_node x))
shown_more xs k x inside at =
    let view = spanned_view global_declaration_view in
    ap shown (take_more xs k x inside ∙ ap (λ y. take k xs ++ (y ∷ [])) (sym at))
    ∙ ap declaration_texts (map-append view (take k xs) (x ∷ []))
    ∙ texts_more (map view (take k xs)) (view x)
