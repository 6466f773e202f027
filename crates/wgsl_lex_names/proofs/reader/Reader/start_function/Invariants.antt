-- The parameters so far are in scope.
use Rattle.std.proofs.Common.{◌≡◌, ◌++◌, map}
use Rattle.wgsl_model_places.specs.Roles.{in_scope}
use Rattle.wgsl_lex_names.specs.View.{entry_view}
use Rattle.wgsl_lex_names.specs.Readers.{happened}
use Rattle.wgsl_lex_names.proofs.reader.Reader.start_function.Given as goal

abbrev pub invariant-parameters : goal.invariant-parameters
invariant-parameters l = record {
  events : happened l.self ≡ happened l.initial.self ++ map in_scope (map entry_view l.yielded);
  state : l.self.state ≡ l.initial.self.state;
}
