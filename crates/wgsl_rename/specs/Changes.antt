-- What names refer to.
use Rattle.std.specs.Prelude.{List}
use Rattle.wgsl_model_names.specs.Scopes.{Referent}
use Rattle.wgsl_resolve_names.specs.declared.scope.Named.{Named}
use Rattle.wgsl_resolve_names.specs.Linked.{referents_view}

-- what a name may refer to
abbrev pub refers : Named → List Referent
refers named = referents_view named.referents.items
