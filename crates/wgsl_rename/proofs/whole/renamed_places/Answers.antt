use Rattle.std.proofs.Common.{map, subst, ◌∙◌}
use Rattle.std.proofs.lemmas.Result.{err_from_is_err_and}
use Rattle.wgsl_lex_names.specs.View.{event_view}
use Rattle.wgsl_rename.proofs.Found.{captured, no_declaration, no_name}
use Rattle.wgsl_rename.specs.Renames.{KeepsReferents, written_at}
use Rattle.wgsl_rename.proofs.whole.renamed_places.Goals as goal

pub returns-in_err-number-clause-refused : goal.returns-in_err-number-clause-refused
returns-in_err-number-clause-refused c =
    let p = err_from_is_err_and c.from_residual-in_err-number.result c.from_residual-in_err-number.ensures.1 in
    rw (p.1, p.2) (no_declaration c.in_ok-names.names (map event_view c.args.events.now) c.args.place c.args.name.now
    c.in_ok-names.ensures c.in_err-number.field-0.0 c.in_err-number.ensures.undeclared)

pub returns-in-Err-clause-refused : goal.returns-in-Err-clause-refused
returns-in-Err-clause-refused c = (
  c.in_ok-names.names,
  c.in_ok-names.ensures,
  no_name c.in_ok-names.names (map event_view c.args.events.now) c.args.place c.args.name.now c.in_ok-names.ensures
      c.in-Err.refusal c.in-Err.ensures,
)

pub returns-in_err-check_uses-clause-refused : goal.returns-in_err-check_uses-clause-refused
returns-in_err-check_uses-clause-refused c =
    let p = err_from_is_err_and c.from_residual-in_err-check_uses.result c.from_residual-in_err-check_uses.ensures.1 in
    rw (p.1, p.2) (captured c.in_ok-names.names (map event_view c.args.events.now) c.args.place c.args.name.now
    c.in_ok-names.ensures c.in_ok-number.number c.deref.result.now c.in_ok-number.ensures.declared
    (c.deref.ensures.value ∙ c.in_ok-places.ensures) c.in_err-check_uses.field-0.0 c.in_err-check_uses.ensures.lost)

pub returns-clause-renamed : goal.returns-clause-renamed
returns-clause-renamed c = record {
  names = c.in_ok-names.names;
  are = c.in_ok-names.ensures;
  number = c.in_ok-number.number;
  declaration = c.in_ok-number.ensures.declared;
  places = c.in_ok-places.ensures;
  identifier = c.in_default.ensures;
  kept = subst (λ l. KeepsReferents (written_at l c.args.name.now) (map event_view c.args.events.now))
      c.deref.ensures.value c.in_ok-check_uses.ensures.kept;
}
