-- Lists of names by their bytes.
use Rattle.std.proofs.Common.{◌≡◌, ℕ, ◌+◌, ◌<◌, List, [], ◌∷◌, ◌++◌, refl, sym, ◌∙◌, ap, map, length, take, get_or, codes, string_bytes, String, Global}
use Rattle.std.proofs.lemmas.List.{map_more, append-nil, append_assoc}
use Rattle.std.proofs.lemmas.Grind.{flat_map-append}
use Rattle.std.specs.List.{AllZip, flat_map}
use Rattle.wgsl_model.specs.Printed.Joining.{joined}

-- the copies of names are the same bytes
pub same_names : (names copies : List (String Global))
    → AllZip (λ name copy. string_bytes copy ≡ string_bytes name) names copies
    → map string_bytes copies ≡ map string_bytes names
same_names [] [] same = refl
same_names (name ∷ names) (copy ∷ copies) same = λ i. same.0 i ∷ same_names names copies same.1 i
same_names [] (copy ∷ copies) same = absurd same
same_names (name ∷ names) [] same = absurd same

-- the text of a path with one component more
pub one_component_more : (origin : List ℕ) (names : List (String Global)) (k : ℕ) (name : String Global)
    → k < length names → name ≡ get_or names k name
    → joined (codes "::") (origin ∷ map string_bytes (take (k + 1) names))
    ≡ joined (codes "::") (origin ∷ map string_bytes (take k names)) ++ (codes "::" ++ string_bytes name)
one_component_more origin names k name h at =
    let further : List ℕ → List ℕ = λ text. codes "::" ++ text in
    let before = map string_bytes (take k names) in
    ap (λ texts. joined (codes "::") (origin ∷ texts))
    (map_more string_bytes names k name h ∙ ap (λ x. before ++ (string_bytes x ∷ [])) (sym at))
    ∙ ap (λ text. origin ++ text) (flat_map-append further before (string_bytes name ∷ [])
    ∙ ap (λ text. flat_map further before ++ text) (append-nil (further (string_bytes name))))
    ∙ sym (append_assoc origin (flat_map further before) (further (string_bytes name)))
