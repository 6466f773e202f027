-- Declarations, uses and scopes, and what each use refers to (WGSL, "Declaration and Scope").
use Rattle.std.specs.Prelude.{ℕ, Bool, true, false, suc, List, [], ◌∷◌, ◌++◌, Option, Some, None, if◌then◌else◌, bytes_eq, Contains, flat_map}
use Rattle.std.specs.Option.{option_to_list}

-- the condition under which something is in a module: that of `@if`, of `@elif` or of `@else`, or
-- several conditions at once
pub data Branch : Type 0 where
  under_if under_elif under_else under_several : Branch

infixr 60 ◌then◌
-- what a part of a module does with names
pub data Names : Type 0 where
  nothing : Names
  -- a use of a name
  used : List ℕ → Names
  -- a name of which it is not known what it refers to
  unknown : List ℕ → Names
  -- a declaration, which is in scope from here to the end of the scope that it is in
  declared : List ℕ → Names
  -- what is there only under a condition: a declaration, or what declares nothing
  alternative : Branch → Option (List ℕ) → Names
  -- one part, then another
  ◌then◌ : Names → Names → Names
  -- a part whose declarations are in scope in it alone
  scope : Names → Names

-- what a use refers to: a declaration of the module, by how many are before it, or something
-- outside of the module, by its name
pub data Referent : Type 0 where
  declaration : ℕ → Referent
  outside : List ℕ → Referent

-- what is in scope: a declaration, or an alternative that declares nothing; if it is an alternative,
-- under which condition; and how many declarations are before it
pub record Entry : Type 0 where
  pub branch : Option Branch
  pub name : Option (List ℕ)
  pub number : ℕ

-- what is in scope, the last first
abbrev pub InScope : Type 0
InScope = List Entry

-- it declares this name
abbrev pub declares : Option (List ℕ) → List ℕ → Bool
declares None x = false
declares (Some y) x = bytes_eq y x

-- What else a use may refer to beside a declaration: nothing where that is always there, or is the
-- first of alternatives of which each declares the name, up to the one under `@else`.
abbrev pub beside : Option Branch → Bool → (Bool → List Referent) → List Referent
beside None each_declares others = []
beside (Some under_if) each_declares others = if each_declares then [] else others false
beside (Some under_elif) each_declares others = others each_declares
beside (Some under_else) each_declares others = others true
beside (Some under_several) each_declares others = others false

-- What a use of a name may refer to, the nearest declaration first. `each_declares`: the
-- alternatives that were passed just now, from the one under `@else` on, declare it.
abbrev pub may_refer_to : Bool → InScope → List ℕ → List Referent
may_refer_to each_declares [] x = outside x ∷ []
may_refer_to each_declares (entry ∷ entries) x = if declares entry.name x
    then declaration entry.number ∷ beside entry.branch each_declares (λ each. may_refer_to each entries x)
    else may_refer_to false entries x

-- what is known after a part: what is in scope, how many declarations there are in all, and what the
-- uses may refer to, in their order
pub record Known : Type 0 where
  pub in_scope : InScope
  pub declarations : ℕ
  pub referents : List (List Referent)

-- how many declarations there are after one more, or after what declares nothing
abbrev pub counted : Option (List ℕ) → ℕ → ℕ
counted None n = n
counted (Some x) n = suc n

-- what is known after something that declares a name, or none
abbrev pub with_entry : Option Branch → Option (List ℕ) → Known → Known
with_entry branch name known = record known {
  in_scope = record { branch = branch; name = name; number = known.declarations } ∷ known.in_scope;
  declarations = counted name known.declarations;
}

-- At the end of a scope that is in scope which was before it.
abbrev pub after : Names → Known → Known
after nothing known = known
after (used x) known = record known {
  referents = known.referents ++ (may_refer_to false known.in_scope x ∷ []);
}
after (unknown x) known = record known { referents = known.referents ++ ((outside x ∷ []) ∷ []) }
after (declared x) known = with_entry None (Some x) known
after (alternative branch name) known = with_entry (Some branch) name known
after (a then b) known = after b (after a known)
after (scope a) known = record (after a known) { in_scope = known.in_scope }

-- what is known before the first part
abbrev pub nothing_known : Known
nothing_known = record { in_scope = []; declarations = 0; referents = [] }

-- what each use may refer to
abbrev pub referents_of : Names → List (List Referent)
referents_of names = (after names nothing_known).referents

-- some use may refer to something of this name that is outside of the module
abbrev pub IsOutside : List (List Referent) → List ℕ → Type 0
IsOutside referents x = Contains (flat_map (λ may. may) referents) (outside x)

-- the names that are used or declared, in their order
abbrev pub spelled : Names → List (List ℕ)
spelled nothing = []
spelled (used x) = x ∷ []
spelled (unknown x) = x ∷ []
spelled (declared x) = x ∷ []
spelled (alternative branch name) = option_to_list name
spelled (a then b) = spelled a ++ spelled b
spelled (scope a) = spelled a

-- the names of which it is not known what they refer to
abbrev pub unknown_names : Names → List (List ℕ)
unknown_names nothing = []
unknown_names (used x) = []
unknown_names (unknown x) = x ∷ []
unknown_names (declared x) = []
unknown_names (alternative branch name) = []
unknown_names (a then b) = unknown_names a ++ unknown_names b
unknown_names (scope a) = unknown_names a
