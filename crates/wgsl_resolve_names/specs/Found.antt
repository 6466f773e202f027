-- The names of a module, by what happens to names at its tokens.
use Rattle.std.specs.Prelude.{◌≡◌, List, [], flat_map, map}
use Rattle.wgsl_model_places.specs.Roles.{Event}
use Rattle.wgsl_model_places.specs.Places.{declared, names_in, resolved}
use Rattle.wgsl_lex_names.specs.View.{name_view}
use Rattle.wgsl_resolve_names.specs.declared.whole.Names.{Names}
use Rattle.wgsl_resolve_names.specs.Linked.{named_view, others_of, uses_of}

pub record AreNames (es : List Event) (found : Names) : Type 0 where
  -- the names, in their order, each with what it is
  pub names : map named_view found.names.items ≡ flat_map names_in es
  -- what each use may refer to, and that all else refers to nothing
  pub referents : flat_map uses_of found.names.items ≡ (resolved es).referents
  pub others : flat_map others_of found.names.items ≡ []
  -- the declarations, each at its number
  pub declarations : map name_view found.declarations.items ≡ declared es
