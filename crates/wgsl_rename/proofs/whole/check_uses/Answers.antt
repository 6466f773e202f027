use Rattle.std.proofs.Common.{◌∙◌, ap, length, map, sym}
use Rattle.wgsl_lex_names.specs.View.{event_view}
use Rattle.wgsl_rename.specs.Changes.{refers}
use Rattle.wgsl_rename.proofs.Checked.{are_kept, are_lost, as_long}
use Rattle.wgsl_rename.proofs.whole.check_uses.Goals as goal

pub first_changed-requires : goal.first_changed-requires
first_changed-requires c = ap length c.deref-2.ensures.value
    ∙ as_long c.in_ok-edit.edit (map event_view c.args.events.now) (map event_view c.deref.result.now) c.args.names.now
    c.in_ok-after.after (ap (map event_view) c.deref.ensures.value ∙ c.in_ok-edited.ensures) c.requires c.in_ok-after.ensures
    ∙ sym (ap length c.deref-3.ensures.value)

pub returns-in-None-clause-kept : goal.returns-in-None-clause-kept
returns-in-None-clause-kept c =
    are_kept c.in_ok-edit.edit (map event_view c.args.events.now) (map event_view c.deref.result.now) c.args.names.now
    c.in_ok-after.after (ap (map event_view) c.deref.ensures.value ∙ c.in_ok-edited.ensures) c.requires c.in_ok-after.ensures
    c.args.places.now c.args.name.now c.in_ok-edit.ensures
    (sym (ap (map refers) c.deref-2.ensures.value) ∙ c.in-None.ensures ∙ ap (map refers) c.deref-3.ensures.value)

pub returns-clause-lost : goal.returns-clause-lost
returns-clause-lost c = λ keeps. c.in-Some.ensures.1 (ap (map refers) c.deref-2.ensures.value
    ∙ are_lost c.in_ok-edit.edit (map event_view c.args.events.now) (map event_view c.deref.result.now) c.args.names.now
    c.in_ok-after.after (ap (map event_view) c.deref.ensures.value ∙ c.in_ok-edited.ensures) c.requires c.in_ok-after.ensures
    c.args.places.now c.args.name.now c.in_ok-edit.ensures keeps
    ∙ sym (ap (map refers) c.deref-3.ensures.value))
