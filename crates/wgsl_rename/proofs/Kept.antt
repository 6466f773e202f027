-- Uses refer to the same exactly if each name does.
use Rattle.std.proofs.Common.{◌≡◌, ◌∙◌, List, [], ◌∷◌, ◌++◌, length, map, refl, sym, ap}
use Rattle.std.specs.Prelude.{flat_map}
use Rattle.std.proofs.lemmas.List.{length-map}
use Rattle.wgsl_model_names.specs.Scopes.{Referent}
use Rattle.wgsl_model_places.specs.Roles.{Role, Name, Event, named, in_module, in_scope, scope_start, scope_end, declares, uses, unknown, component, word}
use Rattle.wgsl_model_places.specs.Places.{names_in}
use Rattle.wgsl_model_places.specs.Edited.{Edit, edited_event}
use Rattle.wgsl_lex_names.specs.View.{role_view}
use Rattle.wgsl_resolve_names.specs.declared.scope.Named.{Named}
use Rattle.wgsl_resolve_names.specs.declared.whole.Names.{Names}
use Rattle.wgsl_resolve_names.specs.Found.{AreNames}
use Rattle.wgsl_resolve_names.specs.Linked.{named_view, others_of, referents_at, referents_beside, uses_of}
use Rattle.wgsl_rename.specs.Changes.{refers}
use Rattle.wgsl_rename.specs.Renames.{KeepsReferents}

-- ---- what names are
abbrev role_in : Named → Role
role_in n = role_view n.role

abbrev first : Role × Name → Role
first p = p.0

roles_viewed : (ns : List Named) → map first (map named_view ns) ≡ map role_in ns
roles_viewed [] = refl
roles_viewed (n ∷ ns) = ap (λ l. role_in n ∷ l) (roles_viewed ns)

roles_kept : (g : Edit) (es : List Event)
    → map first (flat_map names_in (map (edited_event g) es)) ≡ map first (flat_map names_in es)
roles_kept g [] = refl
roles_kept g (named role name ∷ es) = ap (λ l. role ∷ l) (roles_kept g es)
roles_kept g (in_module entry ∷ es) = roles_kept g es
roles_kept g (in_scope entry ∷ es) = roles_kept g es
roles_kept g (scope_start ∷ es) = roles_kept g es
roles_kept g (scope_end ∷ es) = roles_kept g es

-- names are the same where others are written
pub same_roles : (g : Edit) (es : List Event) (before after : Names) → AreNames es before
    → AreNames (map (edited_event g) es) after → map role_in before.names.items ≡ map role_in after.names.items
same_roles g es before after are now =
    sym (roles_viewed before.names.items) ∙ ap (map first) are.names ∙ sym (roles_kept g es)
    ∙ sym (ap (map first) now.names) ∙ roles_viewed after.names.items

pub same_length : (g : Edit) (es : List Event) (before after : Names) → AreNames es before
    → AreNames (map (edited_event g) es) after → length before.names.items ≡ length after.names.items
same_length g es before after are now =
    sym (length-map before.names.items role_in) ∙ ap length (same_roles g es before after are now)
    ∙ length-map after.names.items role_in

-- ---- what they refer to
uses_same : (xs ys : List Named) → map role_in xs ≡ map role_in ys → map refers xs ≡ map refers ys
    → flat_map uses_of xs ≡ flat_map uses_of ys
uses_same [] [] roles same = refl
uses_same [] (y ∷ ys) roles same = absurd (cc)
uses_same (x ∷ xs) [] roles same = absurd (cc)
uses_same (x ∷ xs) (y ∷ ys) roles same =
    let role : role_in x ≡ role_in y = cc in
    let here : refers x ≡ refers y = cc in
    let more : map role_in xs ≡ map role_in ys = cc in
    let rest : map refers xs ≡ map refers ys = cc in
    λ i. referents_at (role i) (here i) ++ uses_same xs ys more rest i

-- nothing is in two lists of which nothing is in both together
none_left : {A : Type 0} (xs ys : List A) → xs ++ ys ≡ [] → xs ≡ []
none_left [] ys none = refl
none_left (x ∷ xs) ys none = absurd (cc)

none_right : {A : Type 0} (xs ys : List A) → xs ++ ys ≡ [] → ys ≡ []
none_right [] ys none = none
none_right (x ∷ xs) ys none = absurd (cc)

-- by what a name is, its referents and those of the uses after it
pub record Same (a b : List Referent) (us vs : List (List Referent)) : Type 0 where
  pub here : a ≡ b
  pub rest : us ≡ vs

by_role : (r : Role) (a b : List Referent) (us vs : List (List Referent))
    → referents_at r a ++ us ≡ referents_at r b ++ vs → referents_beside r a ≡ [] → referents_beside r b ≡ []
    → Same a b us vs
by_role uses a b us vs e p q = record { here = cc; rest = cc }
by_role unknown a b us vs e p q = record { here = cc; rest = cc }
by_role (declares what) a b us vs e p q = record { here = p ∙ sym q; rest = e }
by_role component a b us vs e p q = record { here = p ∙ sym q; rest = e }
by_role word a b us vs e p q = record { here = p ∙ sym q; rest = e }

names_same : (xs ys : List Named) → map role_in xs ≡ map role_in ys → flat_map others_of xs ≡ []
    → flat_map others_of ys ≡ [] → flat_map uses_of xs ≡ flat_map uses_of ys → map refers xs ≡ map refers ys
names_same [] [] roles none nil same = refl
names_same [] (y ∷ ys) roles none nil same = absurd (cc)
names_same (x ∷ xs) [] roles none nil same = absurd (cc)
names_same (x ∷ xs) (y ∷ ys) roles none nil same =
    let role : role_in y ≡ role_in x = cc in
    let more : map role_in xs ≡ map role_in ys = cc in
    let both = by_role (role_in x) (refers x) (refers y) (flat_map uses_of xs) (flat_map uses_of ys)
    (same ∙ (λ i. referents_at (role i) (refers y) ++ flat_map uses_of ys))
    (none_left (others_of x) (flat_map others_of xs) none)
    ((λ i. referents_beside (sym role i) (refers y)) ∙ none_left (others_of y) (flat_map others_of ys) nil) in
    λ i. both.here i ∷ names_same xs ys more (none_right (others_of x) (flat_map others_of xs) none)
    (none_right (others_of y) (flat_map others_of ys) nil) both.rest i

pub kept : (g : Edit) (es : List Event) (before after : Names) → AreNames es before
    → AreNames (map (edited_event g) es) after → map refers before.names.items ≡ map refers after.names.items
    → KeepsReferents g es
kept g es before after are now same =
    sym now.referents ∙ sym (uses_same before.names.items after.names.items (same_roles g es before after are now) same)
    ∙ are.referents

pub lost : (g : Edit) (es : List Event) (before after : Names) → AreNames es before
    → AreNames (map (edited_event g) es) after → KeepsReferents g es
    → map refers before.names.items ≡ map refers after.names.items
lost g es before after are now keeps =
    names_same before.names.items after.names.items (same_roles g es before after are now) are.others now.others
    (are.referents ∙ sym keeps ∙ sym now.referents)
