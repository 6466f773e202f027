-- The names of a part that stay are those that may refer to what is outside, and those that it
-- declares in no scope.
use Rattle.std.proofs.Common.{◌≡◌, ◌⊎◌, inl, inr, ℕ, Bool, true, false, cond, ◌||◌, ◌&&◌, List, [], ◌∷◌, ◌++◌, Option, Some, None, refl, sym, ap, ap₂, subst, ◌∙◌, append_assoc, append-nil, arith}
use Rattle.std.specs.Prelude.{bytes_eq, flat_map, Contains}
use Rattle.std.specs.Option.{option_to_list}
use Rattle.std.proofs.lemmas.Bool.{true≢false}
use Rattle.std.proofs.lemmas.Cmp.{nat_list_eq_equiv}
use Rattle.std.proofs.lemmas.List.Concat.{flat_map-append}
use Rattle.std.proofs.lemmas.Slice.Eq.{bytes_eq-Decides}
use Rattle.wgsl_model_names.specs.Scopes.{Names, nothing, used, unknown, declared, alternative, ◌then◌, scope, Branch, under_if, under_elif, under_else, under_several, Referent, declaration, outside, Known, InScope, declares, beside, may_refer_to, after, nothing_known, referents_of, IsOutside, spelled}
use Rattle.wgsl_model_minify.specs.Renamed.{declared_names, module_names}
use Rattle.wgsl_minify_names.specs.InScope.{Declared, nothing_declared, is_in, same_name, with_alternative, with_declaration}
use Rattle.wgsl_minify_names.proofs.Lists.{is_in-append, is_in-with_name}
use Rattle.wgsl_minify_names.proofs.Membership.{or_left, or_right, or_cases, at_head, at_later, at_none, at_cases}
use Rattle.wgsl_minify_names.proofs.Passed.{all_found, and_false, declared_after, found_in}
use Rattle.wgsl_minify_names.proofs.Tallies.{or_false}

-- ---- what is declared
-- a name is declared whatever the conditions, or in each alternative that was passed just now
abbrev is_declared : Bool → Declared → List ℕ → Bool
is_declared each known x = is_in x known.names || (each && declares known.in_each x)

in_list : (name : Option (List ℕ)) (x : List ℕ) → is_in x (option_to_list name) ≡ declares name x
in_list None x = refl
in_list (Some y) x = or_false (bytes_eq x y) ∙ nat_list_eq_equiv.symm x y

declared_too : (name : Option (List ℕ)) (known : Declared) (x : List ℕ)
    → is_in x (with_declaration name known).names ≡ (is_in x known.names || declares name x)
declared_too None known x = sym (or_false (is_in x known.names))
declared_too (Some y) known x = is_in-with_name x known.names y ∙ is_in-append x known.names (y ∷ [])
    ∙ ap (λ b. is_in x known.names || b) (in_list (Some y) x)

and_right : (a b : Bool) → (a && b) ≡ true → b ≡ true
and_right true b h = h
and_right false b h = absurd (true≢false (sym h))

and_itself : (b : Bool) → (b && b) ≡ b
and_itself true = refl
and_itself false = refl

two_same : (first second : Option (List ℕ)) (x : List ℕ)
    → declares (same_name first second) x ≡ (declares first x && declares second x)
two_same None second x = refl
two_same (Some a) None x = sym (and_false (bytes_eq a x))
two_same (Some a) (Some b) x = go (bytes_eq a b) refl where
  go : (same : Bool) → bytes_eq a b ≡ same
      → declares (cond same (Some a) None) x ≡ (bytes_eq a x && bytes_eq b x)
  go true e = sym (and_itself (bytes_eq a x)) ∙ ap (λ t. bytes_eq a x && t) (nat_list_eq_equiv.congr a b x e)
  go false e = neither (bytes_eq a x) refl where
    neither : (t : Bool) → bytes_eq a x ≡ t → false ≡ (t && bytes_eq b x)
    neither false f = refl
    neither true f = sym e ∙ nat_list_eq_equiv.symm a b ∙ ap (λ z. bytes_eq b z) ((bytes_eq-Decides a x).0 f)

-- ---- what a use may refer to
-- the names of what is outside
abbrev outs : List Referent → List (List ℕ)
outs [] = []
outs (declaration n ∷ rs) = outs rs
outs (outside x ∷ rs) = x ∷ outs rs

outs-append : (rs qs : List Referent) → outs (rs ++ qs) ≡ outs rs ++ outs qs
outs-append [] qs = refl
outs-append (declaration n ∷ rs) qs = outs-append rs qs
outs-append (outside x ∷ rs) qs = ap (λ l. x ∷ l) (outs-append rs qs)

-- a name, unless a test holds
abbrev unless : Bool → List ℕ → List (List ℕ)
unless b x = cond b [] (x ∷ [])

-- a use may refer to what is outside unless the name is declared
abbrev SameScope : Declared → InScope → Type 0
SameScope known entries = (each : Bool) (x : List ℕ)
    → outs (may_refer_to each entries x) ≡ unless (is_declared each known x) x

-- whether nothing outside is beside a declaration
abbrev none_beside : Option Branch → Bool → (Bool → Bool) → Bool
none_beside None each others = true
none_beside (Some under_if) each others = cond each true (others false)
none_beside (Some under_elif) each others = others each
none_beside (Some under_else) each others = others true
none_beside (Some under_several) each others = others false

outs_beside : (branch : Option Branch) (each : Bool) (others : Bool → List Referent) (none : Bool → Bool) (x : List ℕ)
    → ((b : Bool) → outs (others b) ≡ unless (none b) x)
    → outs (beside branch each others) ≡ unless (none_beside branch each none) x
outs_beside None each others none x h = refl
outs_beside (Some under_if) true others none x h = refl
outs_beside (Some under_if) false others none x h = h false
outs_beside (Some under_elif) each others none x h = h each
outs_beside (Some under_else) each others none x h = h true
outs_beside (Some under_several) each others none x h = h false

-- what is declared after an entry
abbrev after_entry : Option Branch → Option (List ℕ) → Declared → Declared
after_entry None name known = with_declaration name known
after_entry (Some branch) name known = with_alternative branch name known

-- the same of tests: whether a name is declared at all, in each alternative, and by the entry
table_plain : (p q d each : Bool) → cond d true (p || (false && q)) ≡ ((p || d) || (each && false))
table_plain p q d each = grind arith

table_if : (p q d each : Bool) → cond d (cond each true (p || (false && q))) (p || (false && q)) ≡ (p || (each && d))
table_if p q d each = grind arith

table_elif : (p q d each : Bool) → cond d (p || (each && q)) (p || (false && q)) ≡ (p || (each && (q && d)))
table_elif p q d each = grind arith

table_else : (p q d each : Bool) → cond d (p || (true && q)) (p || (false && q)) ≡ ((p || (q && d)) || (each && false))
table_else p q d each = grind arith

table_several : (p q d each : Bool) → cond d (p || (false && q)) (p || (false && q)) ≡ (p || (each && false))
table_several p q d each = grind arith

after_declaration : (name : Option (List ℕ)) (known : Declared) (each : Bool) (x : List ℕ)
    → is_declared each (with_declaration name known) x ≡ ((is_in x known.names || declares name x) || (each && false))
after_declaration None known each x = ap (λ b. b || (each && false)) (declared_too None known x)
after_declaration (Some y) known each x = ap (λ b. b || (each && false)) (declared_too (Some y) known x)

-- the same scope after an entry
entry_same : (branch : Option Branch) (name : Option (List ℕ)) (n : ℕ) (known : Declared) (old : InScope)
    → SameScope known old
    → SameScope (after_entry branch name known) (record { branch = branch; name = name; number = n } ∷ old)
entry_same branch name n known old h each x =
    referred (declares name x) ∙ ap (λ b. unless b x) (passed branch) where
      p : Bool
      p = is_in x known.names

      q : Bool
      q = declares known.in_each x

      d : Bool
      d = declares name x

      others : Bool → List Referent
      others b = may_refer_to b old x

      covered : Bool → Bool
      covered b = is_declared b known x

      referred : (b : Bool)
          → outs (cond b (declaration n ∷ beside branch each others) (others false))
          ≡ unless (cond b (none_beside branch each covered) (covered false)) x
      referred true = outs_beside branch each others covered x (λ b. h b x)
      referred false = h false x

      passed : (branch : Option Branch) → cond d (none_beside branch each covered) (covered false)
          ≡ is_declared each (after_entry branch name known) x
      passed None = table_plain p q d each ∙ sym (after_declaration name known each x)
      passed (Some under_if) = table_if p q d each
      passed (Some under_elif) = table_elif p q d each
          ∙ ap (λ b. p || (each && b)) (sym (two_same known.in_each name x))
      passed (Some under_else) = table_else p q d each
          ∙ ap (λ b. (p || b) || (each && false)) (sym (two_same known.in_each name x))
          ∙ sym (after_declaration (same_name known.in_each name) known each x)
      passed (Some under_several) = table_several p q d each

scope_same : (n : Names) (known : Declared) (k : Known) → SameScope known k.in_scope
    → SameScope (declared_after n known) (after n k).in_scope
scope_same nothing known k h = h
scope_same (used x) known k h = h
scope_same (unknown x) known k h = h
scope_same (declared x) known k h = entry_same None (Some x) k.declarations known k.in_scope h
scope_same (alternative branch name) known k h = entry_same (Some branch) name k.declarations known k.in_scope h
scope_same (a then b) known k h = scope_same b (declared_after a known) (after a k) (scope_same a known k h)
scope_same (scope a) known k h = h

-- ---- what is outside
abbrev all_outs : List (List Referent) → List (List ℕ)
all_outs referents = outs (flat_map (λ may. may) referents)

outs_more : (referents : List (List Referent)) (may : List Referent)
    → all_outs (referents ++ may ∷ []) ≡ all_outs referents ++ outs may
outs_more referents may =
    ap outs (flat_map-append (λ l. l) referents (may ∷ []))
    ∙ outs-append (flat_map (λ l. l) referents) (may ++ [])
    ∙ ap (λ l. all_outs referents ++ outs l) (append-nil may)

outs_after : (n : Names) (known : Declared) (k : Known) → SameScope known k.in_scope
    → all_outs (after n k).referents ≡ all_outs k.referents ++ found_in false n known
outs_after nothing known k h = sym (append-nil (all_outs k.referents))
outs_after (used x) known k h = outs_more k.referents (may_refer_to false k.in_scope x)
    ∙ ap (λ l. all_outs k.referents ++ l) (h false x ∙ ap (λ b. unless b x) (or_false (is_in x known.names)))
outs_after (unknown x) known k h = outs_more k.referents (outside x ∷ [])
outs_after (declared x) known k h = sym (append-nil (all_outs k.referents))
outs_after (alternative branch name) known k h = sym (append-nil (all_outs k.referents))
outs_after (a then b) known k h =
    outs_after b (declared_after a known) (after a k) (scope_same a known k h)
    ∙ ap (λ l. l ++ found_in false b (declared_after a known)) (outs_after a known k h)
    ∙ append_assoc (all_outs k.referents) (found_in false a known) (found_in false b (declared_after a known))
outs_after (scope a) known k h = outs_after a known k h

in_outs : (x : List ℕ) (rs : List Referent) → Contains rs (outside x) → is_in x (outs rs) ≡ true
in_outs x [] h = absurd (at_none (outside x) h)
in_outs x (declaration n ∷ rs) h = elim (at_cases (declaration n) (outside x) rs h) [
  | inl e ↦ absurd (cc)
  | inr k ↦ in_outs x rs k
]
in_outs x (outside y ∷ rs) h = elim (at_cases (outside y) (outside x) rs h) [
  | inl e ↦ let same : x ≡ y = cc in or_left (bytes_eq x y) (is_in x (outs rs)) ((bytes_eq-Decides x y).1 same)
  | inr k ↦ or_right (bytes_eq x y) (is_in x (outs rs)) (in_outs x rs k)
]

from_outs : (x : List ℕ) (rs : List Referent) → is_in x (outs rs) ≡ true → Contains rs (outside x)
from_outs x [] h = absurd (true≢false (sym h))
from_outs x (declaration n ∷ rs) h = at_later (declaration n) (outside x) rs (from_outs x rs h)
from_outs x (outside y ∷ rs) h = elim (or_cases (bytes_eq x y) (is_in x (outs rs)) h) [
  | inl e ↦ subst (λ z. Contains (outside y ∷ rs) (outside z)) (sym ((bytes_eq-Decides x y).0 e))
      (at_head (outside y) rs)
  | inr k ↦ at_later (outside y) (outside x) rs (from_outs x rs k)
]

outs_found : (n : Names) → all_outs (referents_of n) ≡ all_found false n
outs_found n = outs_after n nothing_declared nothing_known (λ each x. ap (λ b. unless b x) (sym (and_false each)))

pub found_if_outside : (n : Names) (x : List ℕ) → IsOutside (referents_of n) x
    → is_in x (all_found false n) ≡ true
found_if_outside n x h = subst (λ l. is_in x l ≡ true) (outs_found n)
    (in_outs x (flat_map (λ may. may) (referents_of n)) h)

pub outside_if_found : (n : Names) (x : List ℕ) → is_in x (all_found false n) ≡ true
    → IsOutside (referents_of n) x
outside_if_found n x h = from_outs x (flat_map (λ may. may) (referents_of n))
    (subst (λ l. is_in x l ≡ true) (sym (outs_found n)) h)

-- ---- what is declared in no scope
shuffle : (a b c d : Bool) → ((a || b) || (c || d)) ≡ ((a || c) || (b || d))
shuffle true b c d = refl
shuffle false true true d = refl
shuffle false true false d = refl
shuffle false false c d = refl

pub found_outer : (n : Names) (known : Declared) (x : List ℕ)
    → is_in x (found_in true n known) ≡ (is_in x (found_in false n known) || is_in x (module_names n))
found_outer nothing known x = refl
found_outer (used y) known x = sym (or_false (is_in x (found_in false (used y) known)))
found_outer (unknown y) known x = sym (or_false (is_in x (y ∷ [])))
found_outer (declared y) known x = refl
found_outer (alternative branch name) known x = refl
found_outer (a then b) known x =
    let later = declared_after a known in
    is_in-append x (found_in true a known) (found_in true b later)
    ∙ ap₂ (λ s t. s || t) (found_outer a known x) (found_outer b later x)
    ∙ shuffle (is_in x (found_in false a known)) (is_in x (module_names a))
    (is_in x (found_in false b later)) (is_in x (module_names b))
    ∙ sym (ap₂ (λ s t. s || t) (is_in-append x (found_in false a known) (found_in false b later))
    (is_in-append x (module_names a) (module_names b)))
found_outer (scope a) known x = sym (or_false (is_in x (found_in false a known)))

-- ---- each name is declared or outside
pub declared_spelled : (n : Names) (x : List ℕ) → is_in x (declared_names n) ≡ true → is_in x (spelled n) ≡ true
declared_spelled nothing x h = h
declared_spelled (used y) x h = absurd (true≢false (sym h))
declared_spelled (unknown y) x h = absurd (true≢false (sym h))
declared_spelled (declared y) x h = h
declared_spelled (alternative branch name) x h = h
declared_spelled (a then b) x h =
    elim (or_cases (is_in x (declared_names a)) (is_in x (declared_names b))
    (sym (is_in-append x (declared_names a) (declared_names b)) ∙ h)) [
      | inl e ↦ is_in-append x (spelled a) (spelled b)
          ∙ or_left (is_in x (spelled a)) (is_in x (spelled b)) (declared_spelled a x e)
      | inr e ↦ is_in-append x (spelled a) (spelled b)
          ∙ or_right (is_in x (spelled a)) (is_in x (spelled b)) (declared_spelled b x e)
    ]
declared_spelled (scope a) x h = declared_spelled a x h

-- a name that stays is one of the part
pub found_spelled : (outer : Bool) (n : Names) (known : Declared) (x : List ℕ)
    → is_in x (found_in outer n known) ≡ true
    → is_in x (spelled n) ≡ true
found_spelled outer nothing known x h = h
found_spelled outer (used y) known x h = go (is_in y known.names) h where
  go : (b : Bool) → is_in x (cond b [] (y ∷ [])) ≡ true → is_in x (y ∷ []) ≡ true
  go true e = absurd (true≢false (sym e))
  go false e = e
found_spelled outer (unknown y) known x h = h
found_spelled true (declared y) known x h = h
found_spelled false (declared y) known x h = absurd (true≢false (sym h))
found_spelled true (alternative branch name) known x h = h
found_spelled false (alternative branch name) known x h = absurd (true≢false (sym h))
found_spelled outer (a then b) known x h =
    let later = found_in outer b (declared_after a known) in
    elim (or_cases (is_in x (found_in outer a known)) (is_in x later)
    (sym (is_in-append x (found_in outer a known) later) ∙ h)) [
      | inl e ↦ is_in-append x (spelled a) (spelled b)
          ∙ or_left (is_in x (spelled a)) (is_in x (spelled b)) (found_spelled outer a known x e)
      | inr e ↦ is_in-append x (spelled a) (spelled b)
          ∙ or_right (is_in x (spelled a)) (is_in x (spelled b))
          (found_spelled outer b (declared_after a known) x e)
    ]
found_spelled outer (scope a) known x h = found_spelled false a known x h

-- a name that is declared after a part was declared before or is declared in it
declared_cases : (n : Names) (known : Declared) (x : List ℕ) → is_in x (declared_after n known).names ≡ true
    → (is_in x known.names ≡ true) ⊎ (is_in x (declared_names n) ≡ true)
declared_cases nothing known x h = inl h
declared_cases (used y) known x h = inl h
declared_cases (unknown y) known x h = inl h
declared_cases (declared y) known x h = or_cases (is_in x known.names) (is_in x (y ∷ []))
    (sym (is_in-with_name x known.names y ∙ is_in-append x known.names (y ∷ [])) ∙ h)
declared_cases (alternative under_if name) known x h = inl h
declared_cases (alternative under_elif name) known x h = inl h
declared_cases (alternative under_several name) known x h = inl h
declared_cases (alternative under_else name) known x h =
    let same = same_name known.in_each name in
    elim (or_cases (is_in x known.names) (declares same x) (sym (declared_too same known x) ∙ h)) [
      | inl e ↦ inl e
      | inr e ↦ inr (in_list name x
          ∙ and_right (declares known.in_each x) (declares name x) (sym (two_same known.in_each name x) ∙ e))
    ]
declared_cases (a then b) known x h = elim (declared_cases b (declared_after a known) x h) [
  | inl e ↦ elim (declared_cases a known x e) [
    | inl f ↦ inl f
    | inr f ↦ inr (is_in-append x (declared_names a) (declared_names b)
        ∙ or_left (is_in x (declared_names a)) (is_in x (declared_names b)) f)
  ]
  | inr e ↦ inr (is_in-append x (declared_names a) (declared_names b)
      ∙ or_right (is_in x (declared_names a)) (is_in x (declared_names b)) e)
]
declared_cases (scope a) known x h = inl h

-- where a name is known from
pub data Known_from (n : Names) (known : Declared) (x : List ℕ) : Type 0 where
  from_before : is_in x known.names ≡ true → Known_from n known x
  from_declaration : is_in x (declared_names n) ≡ true → Known_from n known x
  from_outside : is_in x (found_in false n known) ≡ true → Known_from n known x

used_from : (y : List ℕ) (known : Declared) (x : List ℕ) → bytes_eq x y ≡ true → (b : Bool)
    → is_in y known.names ≡ b → Known_from (used y) known x
used_from y known x e true there =
    from_before (subst (λ z. is_in z known.names ≡ true) (sym ((bytes_eq-Decides x y).0 e)) there)
used_from y known x e false there =
    from_outside (ap (λ b. is_in x (cond b [] (y ∷ []))) there ∙ or_left (bytes_eq x y) false e)

first_from : (a b : Names) (known : Declared) (x : List ℕ) → Known_from a known x → Known_from (a then b) known x
first_from a b known x (from_before h) = from_before h
first_from a b known x (from_declaration h) = from_declaration (is_in-append x (declared_names a) (declared_names b)
    ∙ or_left (is_in x (declared_names a)) (is_in x (declared_names b)) h)
first_from a b known x (from_outside h) =
    let later = found_in false b (declared_after a known) in
    from_outside (is_in-append x (found_in false a known) later
    ∙ or_left (is_in x (found_in false a known)) (is_in x later) h)

second_from : (a b : Names) (known : Declared) (x : List ℕ)
    → Known_from b (declared_after a known) x → Known_from (a then b) known x
second_from a b known x (from_before h) = elim (declared_cases a known x h) [
  | inl e ↦ from_before e
  | inr e ↦ from_declaration (is_in-append x (declared_names a) (declared_names b)
      ∙ or_left (is_in x (declared_names a)) (is_in x (declared_names b)) e)
]
second_from a b known x (from_declaration h) = from_declaration (is_in-append x (declared_names a) (declared_names b)
    ∙ or_right (is_in x (declared_names a)) (is_in x (declared_names b)) h)
second_from a b known x (from_outside h) =
    let later = found_in false b (declared_after a known) in
    from_outside (is_in-append x (found_in false a known) later
    ∙ or_right (is_in x (found_in false a known)) (is_in x later) h)

within_from : (a : Names) (known : Declared) (x : List ℕ) → Known_from a known x → Known_from (scope a) known x
within_from a known x (from_before h) = from_before h
within_from a known x (from_declaration h) = from_declaration h
within_from a known x (from_outside h) = from_outside h

pub known_from : (n : Names) (known : Declared) (x : List ℕ) → is_in x (spelled n) ≡ true → Known_from n known x
known_from nothing known x h = absurd (true≢false (sym h))
known_from (used y) known x h = used_from y known x (sym (or_false (bytes_eq x y)) ∙ h) (is_in y known.names) refl
known_from (unknown y) known x h = from_outside h
known_from (declared y) known x h = from_declaration h
known_from (alternative branch name) known x h = from_declaration h
known_from (a then b) known x h =
    elim (or_cases (is_in x (spelled a)) (is_in x (spelled b)) (sym (is_in-append x (spelled a) (spelled b)) ∙ h)) [
      | inl e ↦ first_from a b known x (known_from a known x e)
      | inr e ↦ second_from a b known x (known_from b (declared_after a known) x e)
    ]
known_from (scope a) known x h = within_from a known x (known_from a known x h)
