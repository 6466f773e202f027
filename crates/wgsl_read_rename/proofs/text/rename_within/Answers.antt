use Rattle.std.proofs.Common.{map, subst, sym}
use Rattle.std.specs.Prelude.{chars}
use Rattle.std.proofs.lemmas.Result.{IfErr-weaker, IfOk-weaker}
use Rattle.wgsl_lex_names.specs.View.{event_view}
use Rattle.wgsl_read_names.specs.Texts.{AreEventsOf}
use Rattle.wgsl_read_rename.proofs.Told.{is_refused, is_renaming}
use Rattle.wgsl_read_rename.proofs.text.rename_within.Goals as goal

pub returns-clause-renamed : goal.returns-clause-renamed
returns-clause-renamed c = IfOk-weaker c.renamed_places.result _ _
    (λ places. is_renaming (chars c.args.source.now) c.args.place c.args.name.now (map event_view c.deref.result.now)
    places.items (subst (λ l. AreEventsOf (chars c.args.source.now) (map event_view l)) (sym c.deref.ensures.value)
    c.in_ok-events.ensures.accepted)) c.renamed_places.ensures.renamed

pub returns-clause-refused : goal.returns-clause-refused
returns-clause-refused c = IfErr-weaker c.renamed_places.result _ _
    (is_refused (chars c.args.source.now) c.args.place c.args.name.now (map event_view c.deref.result.now)
    (subst (λ l. AreEventsOf (chars c.args.source.now) (map event_view l)) (sym c.deref.ensures.value)
    c.in_ok-events.ensures.accepted)) c.renamed_places.ensures.refused
