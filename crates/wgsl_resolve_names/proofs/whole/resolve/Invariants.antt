-- What is known of the events so far.
use Rattle.std.proofs.Common.{◌≡◌, ◌++◌, [], map, take}
use Rattle.std.specs.Prelude.{flat_map}
use Rattle.wgsl_model_names.specs.Scopes.{nothing_known}
use Rattle.wgsl_model_places.specs.Places.{after_occurrences, inner_occurs, module_declares, module_occurs, names_in, scope_declares}
use Rattle.wgsl_lex_names.specs.View.{event_view}
use Rattle.wgsl_resolve_names.specs.Known.{Knows, RefersByUses, declared_names, found_names}
use Rattle.wgsl_resolve_names.proofs.whole.resolve.Given as goal

abbrev pub invariant-module : goal.invariant-module
invariant-module l = let past = map event_view (take l.event-index l.events) in record {
  known : Knows l.resolver (after_occurrences (flat_map module_occurs past) (nothing_known, []));
  declared : declared_names l.resolver ≡ flat_map module_declares past;
  names : found_names l.resolver ≡ [];
  others : RefersByUses l.resolver;
}

abbrev pub invariant-others : goal.invariant-others
invariant-others l =
    let all = map event_view l.events in
    let past = map event_view (take l.event-index l.events) in
    record {
      known : Knows l.resolver
          (after_occurrences (flat_map inner_occurs past) (after_occurrences (flat_map module_occurs all) (nothing_known, [])));
      declared : declared_names l.resolver ≡ flat_map module_declares all ++ flat_map scope_declares past;
      names : found_names l.resolver ≡ flat_map names_in past;
      others : RefersByUses l.resolver;
    }
