use Rattle.std.proofs.Common.{◌≡◌, ℕ, List, IfOk, chars, string_bytes, subst}
use Rattle.wgsl_error.specs.declared.Error.{Error}
use Rattle.wgsl_error.specs.Places.{message_in_file}
use Rattle.wgsl_error.specs.Printing.{print_message}
use Rattle.wgsl_span.specs.View.{span_view}
use Rattle.wgsl_buffers.specs.Answers.{nul_terminated}
use Rattle.wgsl_buffers.proofs.snippets.lines_in_file.Goals as goal

pub returns : goal.returns
returns c =
    let shown = c.in_file-error.result in
    let is = c.in_file-error.ensures in
    let lines : List ℕ → Error → List ℕ → List ℕ =
    λ name e source. nul_terminated (message_in_file name (print_message e.error) (chars source) (span_view e.span)) in
    subst (λ source. IfOk c.format.result (λ text. string_bytes text ≡ lines c.args.name.now c.args.error.now source))
    is.source
    (subst (λ e. IfOk c.format.result (λ text. string_bytes text ≡ lines c.args.name.now e shown.source.now))
    is.error
    (subst (λ name. IfOk c.format.result (λ text. string_bytes text ≡ lines name shown.error.now shown.source.now))
    is.name c.format.ensures.ok))
