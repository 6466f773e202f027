-- Renaming a declaration, and what is in the way.
use Rattle.std.specs.Prelude.{◌≡◌, ℕ, Bool, true, false, ◌==◌, ◌&&◌, nat_le, if◌then◌else◌, List, Contains, map, filter}
use Rattle.std.specs.List.{list_any}
use Rattle.wgsl_error.specs.Kinds.{error_at}
use Rattle.wgsl_error.specs.declared.ParseError.TheVariants as parse
use Rattle.wgsl_span.specs.declared.Span.{Span}
use Rattle.wgsl_model_places.specs.Roles as roles
use Rattle.wgsl_model_places.specs.Places.{resolved}
use Rattle.wgsl_model_places.specs.Edited.{Edit, edited_event}
use Rattle.wgsl_lex_names.specs.View.{role_view}
use Rattle.wgsl_resolve_names.specs.declared.scope.Named.{Named}
use Rattle.wgsl_resolve_names.specs.declared.whole.Names.{Names}
use Rattle.wgsl_resolve_names.specs.Found.{AreNames}
use Rattle.wgsl_references.specs.References.{is_of, place_of}
use Rattle.wgsl_rename.specs.declared.error.Refusal.{Refusal}
use Rattle.wgsl_rename.specs.declared.error.Refusal.TheVariants as refusal
use Rattle.wgsl_rename.specs.declared.error.RenameError.{RenameError}
use Rattle.wgsl_rename.specs.declared.error.RenameError.TheVariants.{Fault, Refused}
use Rattle.wgsl_rename.specs.NewName.{IsName, IsNoName}

-- ---- the name at a place
-- a place is in a name, or at its end
abbrev pub is_at : ℕ → Named → Bool
is_at place named = nat_le named.name.span.start place && nat_le place named.name.span.end

-- a name there is that of a declaration, by its number: it declares it, or may refer to it
pub record IsDeclarationAt (names : Names) (place number : ℕ) : Type 0 where
  pub named : Named
  pub there : Contains names.names.items named
  pub at : is_at place named ≡ true
  pub declared : is_of number names named ≡ true

-- a member of a structure, or components of a vector
abbrev pub is_member : roles.Role → Bool
is_member roles.component = true
is_member (roles.declares roles.member) = true
is_member role = false

-- a name there is of no declaration; it is a member or not
pub record IsUndeclaredAt (names : Names) (place : ℕ) (member : Bool) : Type 0 where
  pub named : Named
  pub there : Contains names.names.items named
  pub at : is_at place named ≡ true
  pub undeclared : (number : ℕ) → is_of number names named ≡ false
  pub kind : is_member (role_view named.role) ≡ member

-- ---- the new name
-- the places of a declaration and of its uses
abbrev pub places_of : Names → ℕ → List Span
places_of names number = map place_of (filter (is_of number names) names.names.items)

-- one of some places starts here
abbrev pub starts_at : List Span → ℕ → Bool
starts_at places start = list_any (λ (place : Span). start == place.start) places

-- a name is written at some places
abbrev pub written_at : List Span → List ℕ → Edit
written_at places new name = if starts_at places name.start then new else name.text

-- each use may refer to what it did before
abbrev pub KeepsReferents : Edit → List roles.Event → Type 0
KeepsReferents g es = (resolved (map (edited_event g) es)).referents ≡ (resolved es).referents

-- Of a text in which this happens to names, these are the places of the declaration whose name is at
-- a place, and of its uses; with a new name there, which is an identifier, each use may refer to what
-- it did.
pub record IsRenaming (es : List roles.Event) (place : ℕ) (new : List ℕ) (found : List Span) : Type 0 where
  pub names : Names
  pub are : AreNames es names
  pub number : ℕ
  pub declaration : IsDeclarationAt names place number
  pub places : found ≡ places_of names number
  pub identifier : IsName new
  pub kept : KeepsReferents (written_at found new) es

-- ---- what is in the way
-- a use would refer to something else
pub record Captures (names : Names) (es : List roles.Event) (place : ℕ) (new : List ℕ) : Type 0 where
  pub number : ℕ
  pub declaration : IsDeclarationAt names place number
  pub lost : ¬ (KeepsReferents (written_at (places_of names number) new) es)

abbrev pub IsInTheWay : Names → List roles.Event → ℕ → List ℕ → Refusal → Type 0
IsInTheWay names es place new refusal.NoName = list_any (is_at place) names.names.items ≡ false
IsInTheWay names es place new refusal.Member = IsUndeclaredAt names place true
IsInTheWay names es place new refusal.Outside = IsUndeclaredAt names place false
IsInTheWay names es place new refusal.Captured = Captures names es place new
IsInTheWay names es place new other = IsNoName new other

-- an allocation fails, or something is in the way of the new name
abbrev pub IsRefused : List roles.Event → ℕ → List ℕ → RenameError → Type 0
IsRefused es place new (Fault error) = error ≡ error_at parse.OutOfMemory 0 0
IsRefused es place new (Refused reason span) = (names : Names) × AreNames es names
    × IsInTheWay names es place new reason
