-- The names that are those of a declaration.
use Rattle.std.specs.Prelude.{ℕ, Bool, false, ◌==◌, ◌||◌, Option, None, Some, slice_get}
use Rattle.std.specs.List.{list_any}
use Rattle.wgsl_span.specs.declared.Span.{Span}
use Rattle.wgsl_lex_names.specs.declared.role.Name.{Name}
use Rattle.wgsl_resolve_names.specs.declared.scope.Named.{Named}
use Rattle.wgsl_resolve_names.specs.declared.scope.Referent.{Referent}
use Rattle.wgsl_resolve_names.specs.declared.scope.Referent.TheVariants.{Declaration, Outside}
use Rattle.wgsl_resolve_names.specs.declared.whole.Names.{Names}

-- a referent is the declaration with a number
abbrev pub is_declaration : ℕ → Referent → Bool
is_declaration number (Declaration other) = other == number
is_declaration number (Outside name) = false

-- a name may refer to it
abbrev pub may_be : ℕ → Named → Bool
may_be number named = list_any (is_declaration number) named.referents.items

-- a name is where a declaration has its name, if there is one
abbrev pub is_at : Option Name → Named → Bool
is_at None named = false
is_at (Some declared) named = named.name.span.start == declared.span.start

-- a name is declared by the declaration with a number, or may refer to it
abbrev pub is_of : ℕ → Names → Named → Bool
is_of number names named = is_at (slice_get names.declarations.items number) named || may_be number named

abbrev pub place_of : Named → Span
place_of named = named.name.span
