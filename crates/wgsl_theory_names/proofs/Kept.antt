-- Renaming keeps what the uses of a module may refer to.
use Rattle.std.proofs.Common.{◌≡◌, ℕ, List, [], ◌∷◌, map, Some, None, refl, ap, ◌∙◌}
use Rattle.std.specs.List.{Contains}
use Rattle.std.proofs.lemmas.List.Elements.{Contains-append_left, Contains-append_right, Contains-push}
use Rattle.wgsl_model.specs.Trees.Units.{TranslationUnit}
use Rattle.wgsl_model_names.specs.Scopes.{Names, nothing, used, unknown, declared, alternative, ◌then◌, scope, Referent, declaration, outside, nothing_known, referents_of, spelled, unknown_names}
use Rattle.wgsl_model_names.specs.Names.{unit_names, unit_referents}
use Rattle.wgsl_model_names.specs.Renamed.{Renaming, renamed_unit}
use Rattle.wgsl_model_names.specs.Renaming.{FixesAll, FixesWords, FixesOutside, IsInjectiveOn, IsRenamingOf, renamed_referent, renamed_referents}
use Rattle.wgsl_theory_names.proofs.RenamedScopes.{renamed_names, spelled_renamed, EachName, after_renamed}
use Rattle.wgsl_theory_names.proofs.RenamedNames.{unit_renamed}
use Rattle.wgsl_theory_names.proofs.Unknown.{all_of}

-- each name is among the names that are spelled, and those are among any that have them all
pub each_spelled : (P : List ℕ → Type 0) (a : Names) → ((x : List ℕ) → Contains (spelled a) x → P x) → EachName P a
each_spelled P nothing among = tt
each_spelled P (used x) among = among x (Contains-push [] x)
each_spelled P (unknown x) among = among x (Contains-push [] x)
each_spelled P (declared x) among = among x (Contains-push [] x)
each_spelled P (alternative branch None) among = tt
each_spelled P (alternative branch (Some x)) among = among x (Contains-push [] x)
each_spelled P (a then b) among = (
  each_spelled P a (λ x h. among x (Contains-append_left (spelled a) (spelled b) x h)),
  each_spelled P b (λ x h. among x (Contains-append_right (spelled a) (spelled b) x h)),
)
each_spelled P (scope a) among = each_spelled P a among

-- referents whose outside names are fixed are the same after the renaming
fixed_referent : (f : Renaming) (r : Referent) → ((x : List ℕ) → Contains (r ∷ []) (outside x) → f x ≡ x)
    → renamed_referent f r ≡ r
fixed_referent f (declaration n) fixes = refl
fixed_referent f (outside x) fixes = ap outside (fixes x (Contains-push [] (outside x)))

fixed_use : (f : Renaming) (rs : List Referent) → ((x : List ℕ) → Contains rs (outside x) → f x ≡ x)
    → map (renamed_referent f) rs ≡ rs
fixed_use f [] fixes = refl
fixed_use f (r ∷ rs) fixes = λ i. fixed_referent f r (λ x h. fixes x (Contains-append_left (r ∷ []) rs (outside x) h)) i
    ∷ fixed_use f rs (λ x h. fixes x (Contains-append_right (r ∷ []) rs (outside x) h)) i

fixed_uses : (f : Renaming) (uses : List (List Referent)) → FixesOutside uses f → renamed_referents f uses ≡ uses
fixed_uses f [] fixes = refl
fixed_uses f (rs ∷ uses) fixes =
    λ i. fixed_use f rs (λ x h. fixes x (Contains-append_left rs (all_of uses) (outside x) h)) i
    ∷ fixed_uses f uses (λ x h. fixes x (Contains-append_right rs (all_of uses) (outside x) h)) i

names_rename : (a : Names) (f : Renaming) → IsInjectiveOn (spelled a) f → FixesAll (unknown_names a) f
    → referents_of (renamed_names f a) ≡ renamed_referents f (referents_of a)
names_rename a f injective fixes i = (after_renamed f (Contains (spelled a)) injective a nothing_known
    (each_spelled (Contains (spelled a)) a (λ x h. h)) fixes tt i).referents

pub unit_renames : (u : TranslationUnit) (f : Renaming) → IsRenamingOf u f
    → unit_referents (renamed_unit f u) ≡ renamed_referents f (unit_referents u)
unit_renames u f is = ap referents_of (unit_renamed f is.fixes_words u)
    ∙ names_rename (unit_names u) f is.injective is.fixes_unknown

pub unit_keeps : (u : TranslationUnit) (f : Renaming) → IsRenamingOf u f → FixesOutside (unit_referents u) f
    → unit_referents (renamed_unit f u) ≡ unit_referents u
unit_keeps u f is fixes = unit_renames u f is ∙ fixed_uses f (unit_referents u) fixes

pub unit_spelled : (u : TranslationUnit) (f : Renaming) → FixesWords f → FixesAll (unknown_names (unit_names u)) f
    → spelled (unit_names (renamed_unit f u)) ≡ map f (spelled (unit_names u))
unit_spelled u f words fixes = ap spelled (unit_renamed f words u) ∙ spelled_renamed f (unit_names u) fixes
