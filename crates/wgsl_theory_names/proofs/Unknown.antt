-- A name of which it is not known what it refers to is one of what is outside.
use Rattle.std.proofs.Common.{ℕ, false, List, [], ◌∷◌, ◌++◌, flat_map, inl, inr, sym, subst, arith}
use Rattle.std.specs.List.{Contains}
use Rattle.std.proofs.lemmas.List.Concat.{flat_map-append}
use Rattle.std.proofs.lemmas.List.Elements.{Contains-append_left, Contains-append_right, Contains-append_cases, Contains-push, Contains-push_cases}
use Rattle.wgsl_model_names.specs.Scopes.{Names, nothing, used, unknown, declared, alternative, ◌then◌, scope, Referent, outside, may_refer_to, Known, after, nothing_known, referents_of, IsOutside, unknown_names}
use Rattle.wgsl_model_names.specs.Renamed.{Renaming}
use Rattle.wgsl_model_names.specs.Renaming.{FixesAll, FixesOutside}

-- all that uses may refer to
abbrev pub all_of : List (List Referent) → List Referent
all_of = flat_map (λ may. may)

outside_before : (uses more : List (List Referent)) (x : List ℕ) → IsOutside uses x → IsOutside (uses ++ more) x
outside_before uses more x h = subst (λ (rs : List Referent). Contains rs (outside x))
    (sym (flat_map-append (λ may. may) uses more))
    (Contains-append_left (all_of uses) (all_of more) (outside x) h)

outside_last : (uses : List (List Referent)) (x : List ℕ) → IsOutside (uses ++ ((outside x ∷ []) ∷ [])) x
outside_last uses x = subst (λ (rs : List Referent). Contains rs (outside x))
    (sym (flat_map-append (λ may. may) uses ((outside x ∷ []) ∷ [])))
    (Contains-append_right (all_of uses) (outside x ∷ []) (outside x) (Contains-push [] (outside x)))

outside_after : (a : Names) (known : Known) (x : List ℕ) → IsOutside known.referents x
    → IsOutside (after a known).referents x
outside_after nothing known x h = h
outside_after (used y) known x h =
    outside_before known.referents (may_refer_to false known.in_scope y ∷ []) x h
outside_after (unknown y) known x h = outside_before known.referents ((outside y ∷ []) ∷ []) x h
outside_after (declared y) known x h = h
outside_after (alternative branch name) known x h = h
outside_after (a then b) known x h = outside_after b (after a known) x (outside_after a known x h)
outside_after (scope a) known x h = outside_after a known x h

none : (x : List ℕ) → Contains [] x → ⊥
none x (k, lt, e) = omega arith

unknown_outside : (a : Names) (known : Known) (x : List ℕ) → Contains (unknown_names a) x
    → IsOutside (after a known).referents x
unknown_outside (unknown y) known x h = elim (Contains-push_cases [] y x h) [
  | inl k ↦ absurd (none x k)
  | inr e ↦ subst (IsOutside (known.referents ++ ((outside y ∷ []) ∷ []))) e (outside_last known.referents y)
]
unknown_outside (a then b) known x h = elim (Contains-append_cases (unknown_names a) (unknown_names b) x h) [
  | inl k ↦ outside_after b (after a known) x (unknown_outside a known x k)
  | inr k ↦ unknown_outside b (after a known) x k
]
unknown_outside (scope a) known x h = unknown_outside a known x h
unknown_outside a known x h = absurd (none x h)

-- so it stays where the names of what is outside stay
pub unknown_fixed : (a : Names) (f : Renaming) → FixesOutside (referents_of a) f → FixesAll (unknown_names a) f
unknown_fixed a f fixes x h = fixes x (unknown_outside a nothing_known x h)
