use Rattle.std.proofs.Common.{sym, ap, ◌∙◌}
use Rattle.grammar.specs.States.{State, done, first_of}
use Rattle.wgsl_read_cursor.specs.Reading.{state}
use Rattle.wgsl_read_cursor.proofs.Names.{name_read, name_text}
use Rattle.wgsl_read_cursor.proofs.cursor.Cursor.name.Goals as goal

pub returns-in-Some-clause-value : goal.returns-in-Some-clause-value
returns-in-Some-clause-value c = name_read _ _ _ c.in-Some.ensures
    ∙ ap (λ (s : State). done (first_of (state c.args.self.now)) s) (sym c.skip.ensures)

pub returns-in-Some-clause-text : goal.returns-in-Some-clause-text
returns-in-Some-clause-text c = c.in_ok-name.ensures.ok ∙ name_text _ _ _ c.in-Some.ensures
