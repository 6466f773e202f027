-- What is known of the name at a place, and of why it is refused.
use Rattle.std.proofs.Common.{◌≡◌, ◌∙◌, ◌<◌, ℕ, true, false, List, ◌||◌, length, get_or, Option, Some, None, ap, subst, sym}
use Rattle.std.specs.Prelude.{Contains, HoldsAt, MatchOption, slice_get}
use Rattle.std.specs.List.{list_any}
use Rattle.std.proofs.lemmas.List.Elements.{Contains-get_or}
use Rattle.wgsl_span.specs.declared.Span.{Span}
use Rattle.wgsl_model_places.specs.Roles.{Event}
use Rattle.wgsl_resolve_names.specs.declared.scope.Named.{Named}
use Rattle.wgsl_resolve_names.specs.declared.scope.Referent.{Referent}
use Rattle.wgsl_resolve_names.specs.declared.whole.Names.{Names}
use Rattle.wgsl_resolve_names.specs.Found.{AreNames}
use Rattle.wgsl_references.specs.References as references
use Rattle.wgsl_rename.specs.declared.error.Refusal.{Refusal}
use Rattle.wgsl_rename.specs.declared.error.Refusal.TheVariants.{NoName, Member, Outside, NoIdentifier, Keyword, Reserved, Captured}
use Rattle.wgsl_rename.specs.declared.error.RenameError.{RenameError}
use Rattle.wgsl_rename.specs.declared.error.RenameError.TheVariants.{Fault, Refused}
use Rattle.wgsl_rename.specs.NewName.{IsNoName}
use Rattle.wgsl_rename.specs.Renames.{IsDeclarationAt, IsInTheWay, IsRefused, is_at, places_of, written_at}
use Rattle.wgsl_rename.specs.Targets.{HasNoDeclaration}
use Rattle.wgsl_rename.specs.Captured.{IsLost}

-- ---- the name at a place
pub is_there : (items xs : List Named) (index : ℕ) (named : Named) → xs ≡ items → index < length xs
    → named ≡ get_or items index named → Contains items named
is_there items xs index named same lt is =
    subst (Contains items) (sym is) (Contains-get_or items index named (subst (λ l. index < length l) same lt))

pub is_placed : (items xs : List Named) (place index : ℕ) (named : Named) → xs ≡ items
    → HoldsAt (λ (it : Named). is_at place it ≡ true) xs index → named ≡ get_or items index named
    → is_at place named ≡ true
is_placed items xs place index named same at is =
    ap (is_at place) (is ∙ ap (λ l. get_or l index named) (sym same)) ∙ at named

-- a name that no declaration has where it is is of the first declaration that it refers to
pub by_referents : (names : Names) (named : Named) (refs : List Referent) (r : Option ℕ) → refs ≡ named.referents.items
    → ((n : ℕ) → references.is_at (slice_get names.declarations.items n) named ≡ false)
    → MatchOption r ((n : ℕ) → list_any (references.is_declaration n) refs ≡ false)
    (λ n. list_any (references.is_declaration n) refs ≡ true)
    → MatchOption r ((n : ℕ) → references.is_of n names named ≡ false) (λ n. references.is_of n names named ≡ true)
by_referents names named refs None same none found =
    λ n. λ i. none n i || (ap (list_any (references.is_declaration n)) (sym same) ∙ found n) i
by_referents names named refs (Some n) same none found =
    λ i. none n i || (ap (list_any (references.is_declaration n)) (sym same) ∙ found) i

-- ---- what is in the way
module _ (names : Names) (es : List Event) (place : ℕ) (new : List ℕ) (are : AreNames es names) where
  pub no_declaration : (e : RenameError) → HasNoDeclaration names place e → IsRefused es place new e
  no_declaration (Fault error) h = absurd h
  no_declaration (Refused NoName span) h = (names, are, h)
  no_declaration (Refused Member span) h = (names, are, h)
  no_declaration (Refused Outside span) h = (names, are, h)
  no_declaration (Refused NoIdentifier span) h = absurd h
  no_declaration (Refused Keyword span) h = absurd h
  no_declaration (Refused Reserved span) h = absurd h
  no_declaration (Refused Captured span) h = absurd h

  pub no_name : (refusal : Refusal) → IsNoName new refusal → IsInTheWay names es place new refusal
  no_name NoName h = absurd h
  no_name Member h = absurd h
  no_name Outside h = absurd h
  no_name NoIdentifier h = h
  no_name Keyword h = h
  no_name Reserved h = h
  no_name Captured h = absurd h

  pub captured : (number : ℕ) (places : List Span) → IsDeclarationAt names place number
      → places ≡ places_of names number → (e : RenameError) → IsLost (written_at places new) es e
      → IsRefused es place new e
  captured number places at same (Fault error) h = h
  captured number places at same (Refused NoName span) h = absurd h
  captured number places at same (Refused Member span) h = absurd h
  captured number places at same (Refused Outside span) h = absurd h
  captured number places at same (Refused NoIdentifier span) h = absurd h
  captured number places at same (Refused Keyword span) h = absurd h
  captured number places at same (Refused Reserved span) h = absurd h
  captured number places at same (Refused Captured span) h = (
    names,
    are,
    record {
      number = number;
      declaration = at;
      lost = subst (λ l. IsLost (written_at l new) es (Refused Captured span)) same h;
    },
  )
