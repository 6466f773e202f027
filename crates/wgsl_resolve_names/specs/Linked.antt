-- What is in scope, with where the last declaration of each name is.
use Rattle.std.specs.Prelude.{◌≡◌, ℕ, Bool, false, if◌then◌else◌, List, [], ◌∷◌, ◌++◌, Option, Some, None, ⊤, map, bytes_eq, length}
use Rattle.std.specs.Borrow.{Bor}
use Rattle.std.specs.Map.{lookup}
use Rattle.std.specs.Option.{option_map, option_flatten}
use Rattle.wgsl_lex_names.specs.View.{branch_view, name_view, role_view}
use Rattle.wgsl_lex_names.specs.declared.role.Name.{Name as SpelledName}
use Rattle.wgsl_model_places.specs.Roles.{Role, uses, unknown, Name}
use Rattle.wgsl_model_names.specs.Scopes.{Entry, InScope, Referent, declaration, outside, declares, may_refer_to}
use Rattle.wgsl_resolve_names.specs.declared.scope.Link.{Link}
use Rattle.wgsl_resolve_names.specs.declared.scope.Named.{Named}
use Rattle.wgsl_resolve_names.specs.declared.scope.Referent.{Referent as Refers}
use Rattle.wgsl_resolve_names.specs.declared.scope.Referent.TheVariants as refers

abbrev pub referent_view : Refers → Referent
referent_view (refers.Declaration number) = declaration number
referent_view (refers.Outside name) = outside name.now

abbrev pub referents_view : List Refers → List Referent
referents_view = map referent_view

-- the text of a name
abbrev pub text_of : Option SpelledName → Option (List ℕ)
text_of = option_map (λ (name : SpelledName). name.text.now)

-- what a name that is so refers to, if it is a use
abbrev pub referents_at : Role → List Referent → List (List Referent)
referents_at uses found = found ∷ []
referents_at unknown found = found ∷ []
referents_at other found = []

-- what any other name refers to
abbrev pub referents_beside : Role → List Referent → List Referent
referents_beside uses found = []
referents_beside unknown found = []
referents_beside other found = found

-- the same as `referents_at`, by what is in scope
abbrev pub referents_by : Role → InScope → List ℕ → List (List Referent)
referents_by uses scope x = may_refer_to false scope x ∷ []
referents_by unknown scope x = (outside x ∷ []) ∷ []
referents_by other scope x = []

abbrev pub named_view : Named → Role × Name
named_view named = (role_view named.role, name_view named.name)

abbrev pub uses_of : Named → List (List Referent)
uses_of named = referents_at (role_view named.role) (referents_view named.referents.items)

abbrev pub others_of : Named → List Referent
others_of named = referents_beside (role_view named.role) (referents_view named.referents.items)

-- a link as what is in scope
abbrev pub link_view : Link → Entry
link_view link = record {
  branch = option_map branch_view link.entry.branch;
  name = text_of link.entry.name;
  number = link.number;
}

abbrev pub in_scope : List Link → InScope
in_scope = map link_view

-- where the last entry is that declares a name, by how many are before it
abbrev pub place_of : List ℕ → InScope → Option ℕ
place_of x [] = None
place_of x (entry ∷ entries) = if declares entry.name x then Some (length entries) else place_of x entries

abbrev pub place_of_any : Option (List ℕ) → InScope → Option ℕ
place_of_any None entries = None
place_of_any (Some x) entries = place_of x entries

-- each has where the last one before it is that declares the same name
abbrev pub AreLinked : List Link → Type 0
AreLinked [] = ⊤
AreLinked (link ∷ links) = (link.previous ≡ place_of_any (text_of link.entry.name) (in_scope links)) × AreLinked links

-- what a map has for a name
abbrev pub last_of : List (Bor (List ℕ) × Option ℕ) → List ℕ → Option ℕ
last_of entries x = option_flatten (lookup (λ (key : Bor (List ℕ)). bytes_eq x key.now) entries)

-- what was in scope where each open scope started, the last first, by how many that were
abbrev pub AreStarts : List Link → List ℕ → List InScope → Type 0
AreStarts links [] [] = ⊤
AreStarts links [] (scope ∷ scopes) = ⊥
AreStarts links (n ∷ ns) [] = ⊥
AreStarts links (n ∷ ns) (scope ∷ scopes) = (inner outer : List Link) × (links ≡ inner ++ outer) × (length outer ≡ n)
    × (in_scope outer ≡ scope) × AreStarts outer ns scopes

-- What else a use may refer to beside a declaration: nothing, or the same as after alternatives of
-- which each declares its name or not.
abbrev pub beside_view : Option Bool → (Bool → List Referent) → List Referent
beside_view None others = []
beside_view (Some each) others = others each
