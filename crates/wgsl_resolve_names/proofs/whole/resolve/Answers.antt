use Rattle.std.proofs.Common.{◌∙◌, ◌++◌, [], ap, map, subst, sym}
use Rattle.std.specs.Prelude.{flat_map}
use Rattle.std.proofs.lemmas.List.{take_all}
use Rattle.wgsl_model_names.specs.Scopes.{nothing_known}
use Rattle.wgsl_model_places.specs.Places.{after_occurrences, inner_occurs, module_declares, module_occurs, names_in, scope_declares}
use Rattle.wgsl_lex_names.specs.View.{event_view}
use Rattle.wgsl_resolve_names.specs.Linked.{named_view, others_of}
use Rattle.wgsl_resolve_names.specs.Known.{Knows, declared_names, found_names}
use Rattle.wgsl_resolve_names.proofs.Passed.{after-append, gathered, passed}
use Rattle.wgsl_resolve_names.proofs.whole.resolve.Goals as goal

pub module-preserved : goal.module-preserved
module-preserved c =
    let events = c.args.events.now in
    let i = c.module.event-index in
    let met = c.in_ok-meet_in_module.ensures in
    record {
      known = subst (Knows c.meet_in_module.new.self) (passed module_occurs events i _ c.module-test.true (nothing_known, []))
          (met.known _ c.module.invariant.known);
      declared = gathered module_declares events i _ c.module-test.true [] (declared_names c.module.resolver)
          (declared_names c.meet_in_module.new.self) met.declared c.module.invariant.declared;
      names = ap (λ found. map named_view found.items) met.names ∙ c.module.invariant.names;
      others = ap (λ found. flat_map others_of found.items) met.names ∙ c.module.invariant.others;
    }

pub others-preserved : goal.others-preserved
others-preserved c =
    let events = c.args.events.now in
    let i = c.others.event-index in
    let met = c.in_ok-meet.ensures in
    record {
      known = subst (Knows c.meet.new.self) (passed inner_occurs events i _ c.others-test.true
          (after_occurrences (flat_map module_occurs (map event_view events)) (nothing_known, [])))
          (met.known _ c.others.invariant.known);
      declared = gathered scope_declares events i _ c.others-test.true (flat_map module_declares (map event_view events))
          (declared_names c.others.resolver) (declared_names c.meet.new.self) met.declared c.others.invariant.declared;
      names = gathered names_in events i _ c.others-test.true [] (found_names c.others.resolver) (found_names c.meet.new.self)
          met.names c.others.invariant.names;
      others = met.others c.others.invariant.others;
    }

pub returns : goal.returns
returns c =
    let events = c.args.events.now in
    let all = map event_view events in
    let known = after_occurrences (flat_map module_occurs all) (nothing_known, []) in
    let whole = take_all c.others.event-index events c.others-test.false in
    let found = c.others.invariant in
    record {
      names = found.names ∙ ap (λ l. flat_map names_in (map event_view l)) whole;
      referents = sym found.known.referents
          ∙ ap (λ l. (after_occurrences (flat_map inner_occurs (map event_view l)) known).0.referents) whole
          ∙ ap (λ it. it.0.referents) (sym (after-append (flat_map module_occurs all) (flat_map inner_occurs all) (nothing_known, [])));
      others = found.others;
      declarations = found.declared ∙ ap (λ l. flat_map module_declares all ++ flat_map scope_declares (map event_view l)) whole;
    }
