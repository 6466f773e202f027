use Rattle.std.proofs.Common.{sym, ap, ◌∙◌}
use Rattle.grammar.specs.Tokens.{Span}
use Rattle.grammar.specs.States.{Read.stop, Stop.faulty, span_from}
use Rattle.wgsl_model.specs.Faults.Kinds.{diagnostic_severity}
use Rattle.wgsl_span.specs.View.{span_view}
use Rattle.wgsl_read_cursor.specs.Reading.{state}
use Rattle.wgsl_read_cursor.proofs.Refused.{told}
use Rattle.wgsl_read_declaration.proofs.Severities.{severity_named, severity_is, severity_refused}
use Rattle.wgsl_read_declaration.proofs.directive.parse_severity.Goals as goal

pub returns-in-Ok-clause-value : goal.returns-in-Ok-clause-value
returns-in-Ok-clause-value c =
    severity_named _ _ _ _ _ _ _ c.in_ok-expect.ensures.value c.in_ok-expect-2.ensures.value c.in_ok-name.ensures.value
    (sym c.in_ok-name.ensures.text ∙ sym c.as_str.ensures.value ∙ c.in-Ok.ensures)

pub returns-in-Ok-clause-severity : goal.returns-in-Ok-clause-severity
returns-in-Ok-clause-severity c =
    severity_is _ _ _ _ _ _ c.in_ok-expect.ensures.value c.in_ok-expect-2.ensures.value
    (sym c.in_ok-name.ensures.text ∙ sym c.as_str.ensures.value ∙ c.in-Ok.ensures)

pub returns-clause-value : goal.returns-clause-value
returns-clause-value c =
    told _ _ _ c.checked.ensures
    (severity_refused _ _ _ _ _ _ c.in_ok-expect.ensures.value c.in_ok-expect-2.ensures.value c.in_ok-name.ensures.value
    (λ severity e. c.in-Err.ensures severity (c.as_str.ensures.value ∙ c.in_ok-name.ensures.text ∙ e))
    ∙ ap (λ (span : Span). stop (faulty (diagnostic_severity span)))
    (ap (λ start. span_from start (state c.name.new.self)) (sym c.start-start.ensures)
    ∙ ap span_view (sym c.span_from-span.ensures)))
