-- What uses may refer to is the same after a renaming, for declarations, uses and scopes of any
-- shape.
use Rattle.std.proofs.Common.{◌≡◌, ℕ, List, [], ◌∷◌, ◌++◌, map, Bool, true, false, Option, Some, None, IfSome, refl, sym, ap, ◌∙◌, if◌then◌else◌}
use Rattle.std.specs.Str.{bytes_eq}
use Rattle.std.specs.Option.{option_map}
use Rattle.std.proofs.lemmas.Slice.Eq.{bytes_eq-Decides}
use Rattle.std.proofs.lemmas.List.{map-append}
use Rattle.std.proofs.lemmas.List.Elements.{Contains-append_left, Contains-append_right, Contains-push}
use Rattle.wgsl_model_names.specs.Scopes.{Names, nothing, used, unknown, declared, alternative, ◌then◌, scope, Branch, under_if, under_elif, under_else, under_several, Referent, declaration, outside, Entry, InScope, declares, beside, may_refer_to, Known, after, spelled, unknown_names}
use Rattle.wgsl_model_names.specs.Renamed.{Renaming}
use Rattle.wgsl_model_names.specs.Renaming.{renamed_referent, renamed_referents, FixesAll}

-- names, and what is known, renamed
abbrev pub renamed_names : Renaming → Names → Names
renamed_names f nothing = nothing
renamed_names f (used x) = used (f x)
renamed_names f (unknown x) = unknown x
renamed_names f (declared x) = declared (f x)
renamed_names f (alternative branch name) = alternative branch (option_map f name)
renamed_names f (a then b) = renamed_names f a then renamed_names f b
renamed_names f (scope a) = scope (renamed_names f a)

abbrev pub renamed_entry : Renaming → Entry → Entry
renamed_entry f entry = record entry { name = option_map f entry.name }

abbrev pub renamed_known : Renaming → Known → Known
renamed_known f known = record {
  in_scope = map (renamed_entry f) known.in_scope;
  declarations = known.declarations;
  referents = renamed_referents f known.referents;
}

-- names that stay in two parts stay in each
fixes_first : (f : Renaming) (a b : Names) → FixesAll (unknown_names (a then b)) f → FixesAll (unknown_names a) f
fixes_first f a b fixes x h = fixes x (Contains-append_left (unknown_names a) (unknown_names b) x h)

fixes_second : (f : Renaming) (a b : Names) → FixesAll (unknown_names (a then b)) f → FixesAll (unknown_names b) f
fixes_second f a b fixes x h = fixes x (Contains-append_right (unknown_names a) (unknown_names b) x h)

pub spelled_renamed : (f : Renaming) (a : Names) → FixesAll (unknown_names a) f
    → spelled (renamed_names f a) ≡ map f (spelled a)
spelled_renamed f nothing fixes = refl
spelled_renamed f (used x) fixes = refl
spelled_renamed f (unknown x) fixes = λ i. sym (fixes x (Contains-push [] x)) i ∷ []
spelled_renamed f (declared x) fixes = refl
spelled_renamed f (alternative branch None) fixes = refl
spelled_renamed f (alternative branch (Some x)) fixes = refl
spelled_renamed f (a then b) fixes = (λ i. spelled_renamed f a (fixes_first f a b fixes) i
    ++ spelled_renamed f b (fixes_second f a b fixes) i)
    ∙ sym (map-append f (spelled a) (spelled b))
spelled_renamed f (scope a) fixes = spelled_renamed f a fixes

-- two tests of which each implies the other are one
same_test : (a b : Bool) → (a ≡ true → b ≡ true) → (b ≡ true → a ≡ true) → a ≡ b
same_test true b f g = sym (f refl)
same_test false true f g = g refl
same_test false false f g = refl

-- what is made of each of two values by a function, or of the one that is taken
mapped_if : {A B : Type 0} (g : A → B) (test : Bool) (x y : A) → (if test then g x else g y) ≡ g (if test then x else y)
mapped_if g true x y = refl
mapped_if g false x y = refl

-- P holds of each name
abbrev pub EachName : (List ℕ → Type 0) → Names → Type 0
EachName P nothing = Unit {0}
EachName P (used x) = P x
EachName P (unknown x) = P x
EachName P (declared x) = P x
EachName P (alternative branch name) = IfSome name P
EachName P (a then b) = EachName P a × EachName P b
EachName P (scope a) = EachName P a

abbrev pub EachInScope : (List ℕ → Type 0) → InScope → Type 0
EachInScope P [] = Unit {0}
EachInScope P (entry ∷ entries) = IfSome entry.name P × EachInScope P entries

-- no two names of which P holds get one name
module _ (f : Renaming) (P : List ℕ → Type 0) (one : (x y : List ℕ) → P x → P y → f x ≡ f y → x ≡ y) where
  declares_renamed : (name : Option (List ℕ)) (x : List ℕ) → IfSome name P → P x
      → declares (option_map f name) (f x) ≡ declares name x
  declares_renamed None x p q = refl
  declares_renamed (Some y) x p q = same_test (bytes_eq (f y) (f x)) (bytes_eq y x)
      (λ h. (bytes_eq-Decides y x).1 (one y x p q ((bytes_eq-Decides (f y) (f x)).0 h)))
      (λ h. (bytes_eq-Decides (f y) (f x)).1 (ap f ((bytes_eq-Decides y x).0 h)))

  beside_renamed : (branch : Option Branch) (each : Bool) (old new : Bool → List Referent)
      → ((each : Bool) → new each ≡ map (renamed_referent f) (old each))
      → beside branch each new ≡ map (renamed_referent f) (beside branch each old)
  beside_renamed None each old new same = refl
  beside_renamed (Some under_if) true old new same = refl
  beside_renamed (Some under_if) false old new same = same false
  beside_renamed (Some under_elif) each old new same = same each
  beside_renamed (Some under_else) each old new same = same true
  beside_renamed (Some under_several) each old new same = same false

  referents_renamed : (each : Bool) (entries : InScope) (x : List ℕ) → EachInScope P entries → P x
      → may_refer_to each (map (renamed_entry f) entries) (f x) ≡ map (renamed_referent f) (may_refer_to each entries x)
  referents_renamed each [] x here p = refl
  referents_renamed each (entry ∷ entries) x here p =
      (λ i. if declares_renamed entry.name x here.0 p i
      then declaration entry.number ∷ beside_renamed entry.branch each (λ each. may_refer_to each entries x)
      (λ each. may_refer_to each (map (renamed_entry f) entries) (f x))
      (λ each. referents_renamed each entries x here.1 p) i
      else referents_renamed false entries x here.1 p i)
      ∙ mapped_if (map (renamed_referent f)) (declares entry.name x)
      (declaration entry.number ∷ beside entry.branch each (λ each. may_refer_to each entries x))
      (may_refer_to false entries x)

  in_scope_after : (a : Names) (known : Known) → EachName P a → EachInScope P known.in_scope
      → EachInScope P (after a known).in_scope
  in_scope_after nothing known each here = here
  in_scope_after (used x) known each here = here
  in_scope_after (unknown x) known each here = here
  in_scope_after (declared x) known each here = (each, here)
  in_scope_after (alternative branch name) known each here = (each, here)
  in_scope_after (a then b) known each here =
      in_scope_after b (after a known) each.1 (in_scope_after a known each.0 here)
  in_scope_after (scope a) known each here = here

  -- what is known, and what one more use may refer to
  more_renamed : (known : Known) (old new : List Referent) → new ≡ map (renamed_referent f) old
      → record (renamed_known f known) { referents = renamed_referents f known.referents ++ (new ∷ []) }
      ≡ renamed_known f (record known { referents = known.referents ++ (old ∷ []) })
  more_renamed known old new same =
      let all = (λ i. renamed_referents f known.referents ++ (same i ∷ []))
      ∙ sym (map-append (map (renamed_referent f)) known.referents (old ∷ [])) in
      λ i. record (renamed_known f known) { referents = all i }

  pub after_renamed : (a : Names) (known : Known) → EachName P a → FixesAll (unknown_names a) f
      → EachInScope P known.in_scope
      → after (renamed_names f a) (renamed_known f known) ≡ renamed_known f (after a known)
  after_renamed nothing known each fixes here = refl
  after_renamed (used x) known each fixes here = more_renamed known (may_refer_to false known.in_scope x)
      (may_refer_to false (map (renamed_entry f) known.in_scope) (f x))
      (referents_renamed false known.in_scope x here each)
  after_renamed (unknown x) known each fixes here = more_renamed known (outside x ∷ []) (outside x ∷ [])
      (λ i. outside (sym (fixes x (Contains-push [] x)) i) ∷ [])
  after_renamed (declared x) known each fixes here = refl
  after_renamed (alternative branch None) known each fixes here = refl
  after_renamed (alternative branch (Some x)) known each fixes here = refl
  after_renamed (a then b) known each fixes here =
      ap (after (renamed_names f b)) (after_renamed a known each.0 (fixes_first f a b fixes) here)
      ∙ after_renamed b (after a known) each.1 (fixes_second f a b fixes) (in_scope_after a known each.0 here)
  after_renamed (scope a) known each fixes here =
      λ i. record (after_renamed a known each fixes here i) { in_scope = map (renamed_entry f) known.in_scope }
