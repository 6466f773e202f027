-- What a resolver knows, as the definitions have it.
use Rattle.std.specs.Prelude.{◌≡◌, ℕ, if◌then◌else◌, Option, List, [], ◌++◌, map, flat_map, length, reverse, bytes_eq}
use Rattle.wgsl_model_minify.specs.Occurrences.{Occurrence}
use Rattle.wgsl_model_places.specs.Places.{Resolving, after_occurrences}
use Rattle.wgsl_model_places.specs.Roles as roles
use Rattle.wgsl_lex_names.specs.View.{name_view}
use Rattle.wgsl_resolve_names.specs.declared.scope.Resolver.{Resolver}
use Rattle.wgsl_resolve_names.specs.Linked.{AreLinked, AreStarts, in_scope, last_of, named_view, others_of, place_of, uses_of}

-- where the last one is that declares each name is right
pub record IsRight (resolver : Resolver) : Type 0 where
  pub last : (x : List ℕ) → last_of resolver.last.entries x ≡ place_of x (in_scope (reverse resolver.links.items))
  pub linked : AreLinked (reverse resolver.links.items)

-- the last one that declares a name is there, and those of other names are where they were
abbrev pub SetsLast : Resolver → List ℕ → Option ℕ → Resolver → Type 0
SetsLast before name place after = (x : List ℕ) → last_of after.last.entries x
    ≡ (if bytes_eq name x then place else last_of before.last.entries x)

-- it knows this
pub record Knows (resolver : Resolver) (known : Resolving) : Type 0 where
  pub in_scope : known.0.in_scope ≡ in_scope (reverse resolver.links.items)
  pub declarations : known.0.declarations ≡ length resolver.declarations.items
  pub referents : known.0.referents ≡ flat_map uses_of resolver.names.items
  pub right : IsRight resolver
  pub starts : AreStarts (reverse resolver.links.items) (reverse resolver.starts.items) known.1

-- it knows what is known after some occurrences
abbrev pub Passes : Resolver → List Occurrence → Resolver → Type 0
Passes before os after = (known : Resolving) → Knows before known → Knows after (after_occurrences os known)

abbrev pub declared_names : Resolver → List roles.Name
declared_names resolver = map name_view resolver.declarations.items

-- these are declared beside those before
abbrev pub Declares : Resolver → List roles.Name → Resolver → Type 0
Declares before names after = declared_names after ≡ declared_names before ++ names

abbrev pub found_names : Resolver → List (roles.Role × roles.Name)
found_names resolver = map named_view resolver.names.items

-- what is no use refers to nothing
abbrev pub RefersByUses : Resolver → Type 0
RefersByUses resolver = flat_map others_of resolver.names.items ≡ []

-- these names are found beside those before
abbrev pub Finds : Resolver → List (roles.Role × roles.Name) → Resolver → Type 0
Finds before names after = found_names after ≡ found_names before ++ names
