-- The components and the origin of a joined path.
use Rattle.std.proofs.Common.{◌≡◌, ◌∙◌, ℕ, ◌-◌, List, [], ◌++◌, refl, sym, ap, map, length, take, string_bytes, String, Global}
use Rattle.std.specs.List.{AllZip}
use Rattle.std.proofs.lemmas.List.{take-map, length-map, map-append}
use Rattle.wgsl_model.specs.Trees.Paths.{kept, without_last_names}
use Rattle.wgsl_tree_path.specs.declared.path.PathOrigin.{PathOrigin}
use Rattle.wgsl_tree_path.specs.declared.path.PathOrigin.TheVariants.{Absolute, Relative, Package}
use Rattle.wgsl_tree_path.specs.View.{origin_view}
use Rattle.wgsl_tree_path.proofs.Names.{same_names}

-- copies of names after the names that are kept
pub joined_names : (all first added names : List (String Global)) (front : List (List ℕ))
    → all ≡ first ++ added → map string_bytes first ≡ front
    → AllZip (λ name copy. string_bytes copy ≡ string_bytes name) names added
    → map string_bytes all ≡ front ++ map string_bytes names
joined_names all first added names front whole kept copies =
    ap (map string_bytes) whole ∙ map-append string_bytes first added ∙ (λ i. kept i ++ same_names names added copies i)

pub kept_names : (names : List (String Global)) (n : ℕ)
    → map string_bytes (take (length names - n) names) ≡ without_last_names n (map string_bytes names)
kept_names names n = sym (take-map string_bytes (length names - n) names)
    ∙ ap (λ count. take (count - n) (map string_bytes names)) (sym (length-map names string_bytes))

pub none_kept : (names : List (List ℕ)) (origin : PathOrigin)
    → ((levels : ℕ) → origin ≡ Relative levels → ⊥) → [] ≡ kept names (origin_view origin)
none_kept names Absolute other = refl
none_kept names (Relative levels) other = absurd (other levels refl)
none_kept names (Package name) other = refl
