-- The events so far are edited.
use Rattle.std.proofs.Common.{◌≡◌, map, take}
use Rattle.wgsl_model_places.specs.Edited.{edited_event}
use Rattle.wgsl_lex_names.specs.View.{event_view}
use Rattle.wgsl_rename.specs.Edits.{edit_view}
use Rattle.wgsl_rename.proofs.edit.Edit.events.Given as goal

abbrev pub invariant-events : goal.invariant-events
invariant-events l = map event_view l.edited.items
    ≡ map (edited_event (edit_view l.self)) (map event_view (take l.event-index l.events))
