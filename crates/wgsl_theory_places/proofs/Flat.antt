-- What uses may refer to is what is found by going over their occurrences.
use Rattle.std.proofs.Common.{◌≡◌, List, [], ◌∷◌, ◌++◌, refl, ◌∙◌, ap, sym, append_assoc, append-nil}
use Rattle.grammar.specs.Tokens.{Token}
use Rattle.wgsl_model.specs.Trees.Units.{TranslationUnit}
use Rattle.wgsl_model_names.specs.Names.{unit_names, unit_referents}
use Rattle.wgsl_model_names.specs.Scopes.{Names, nothing, used, unknown, declared, alternative, ◌then◌, scope, Known, InScope, after, nothing_known, referents_of}
use Rattle.wgsl_model_minify.specs.Occurrences as plain
use Rattle.wgsl_model_minify.specs.Occurrences.{Occurrence, scope_end}
use Rattle.wgsl_model_places.specs.Places.{Resolving, after_occurrences, occurrences, referents}

flat : (names : Names) (known : Known) (scopes : List InScope) (rest : List Occurrence)
    → after_occurrences (plain.occurrences names ++ rest) (known, scopes)
    ≡ after_occurrences rest (after names known, scopes)
flat nothing known scopes rest = refl
flat (used x) known scopes rest = refl
flat (unknown x) known scopes rest = refl
flat (declared x) known scopes rest = refl
flat (alternative branch name) known scopes rest = refl
flat (a then b) known scopes rest = rw (append_assoc (plain.occurrences a) (plain.occurrences b) rest)
    (flat a known scopes (plain.occurrences b ++ rest) ∙ flat b (after a known) scopes rest)
flat (scope a) known scopes rest = rw (append_assoc (plain.occurrences a) (scope_end ∷ []) rest)
    (flat a known (known.in_scope ∷ scopes) (scope_end ∷ rest))

-- the referents of names are found so
pub referents_flat : (names : Names)
    → (after_occurrences (plain.occurrences names) (nothing_known, [])).0.referents ≡ referents_of names
referents_flat names =
    ap (λ (os : List Occurrence). (after_occurrences os (nothing_known, [])).0.referents)
    (sym (append-nil (plain.occurrences names)))
    ∙ ap (λ (r : Resolving). r.0.referents) (flat names nothing_known [] [])

-- where the names of tokens occur as those of a module, they refer to what those refer to
pub unit_referents_by : (u : TranslationUnit) (ts : List Token)
    → occurrences ts ≡ plain.occurrences (unit_names u) → referents ts ≡ unit_referents u
unit_referents_by u ts e =
    ap (λ (os : List Occurrence). (after_occurrences os (nothing_known, [])).0.referents) e
    ∙ referents_flat (unit_names u)
