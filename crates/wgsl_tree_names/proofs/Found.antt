-- What is met in a part, and then nothing, are its occurrences.
use Rattle.std.proofs.Common.{◌≡◌, refl, sym, ap, ◌∙◌, List, [], ◌∷◌, ◌++◌, append_assoc, append-nil}
use Rattle.wgsl_model_names.specs.Scopes.{Names, nothing, used, unknown, declared, alternative, ◌then◌, scope}
use Rattle.wgsl_model_minify.specs.Occurrences.{Occurrence, occurrences, scope_start, scope_end}
use Rattle.wgsl_tree_names.specs.Found.{met_before}

met_then : (names : Names) (after : List Occurrence) → met_before names after ≡ occurrences names ++ after
met_then nothing after = refl
met_then (used x) after = refl
met_then (unknown x) after = refl
met_then (declared x) after = refl
met_then (alternative branch name) after = refl
met_then (a then b) after =
    met_then a (met_before b after) ∙ ap (λ xs. occurrences a ++ xs) (met_then b after)
    ∙ sym (append_assoc (occurrences a) (occurrences b) after)
met_then (scope a) after = ap (λ xs. scope_start ∷ xs)
    (met_then a (scope_end ∷ after) ∙ sym (append_assoc (occurrences a) (scope_end ∷ []) after))

pub all_met : (names : Names) → met_before names [] ≡ occurrences names
all_met names = met_then names [] ∙ append-nil (occurrences names)
