use Rattle.std.proofs.Common.{◌≡◌, ◌∙◌, ℕ, List, IfOk, chars, string_bytes, subst}
use Rattle.wgsl_span.specs.View.{span_view}
use Rattle.wgsl_buffers.specs.Answers.{nul_terminated}
use Rattle.wgsl_buffers.specs.Deep.{message_lines}
use Rattle.wgsl_buffers.proofs.snippets.lines_of_deeper.Goals as goal

pub returns : goal.returns
returns c = subst
    (λ (message : List ℕ). IfOk c.lines_of_message.result (λ lines. string_bytes lines ≡ nul_terminated
    (message_lines c.args.name.now message (chars c.args.source.now) (span_view c.args.span))))
    (c.as_str.ensures.value ∙ c.in_ok-message.ensures) c.lines_of_message.ensures
