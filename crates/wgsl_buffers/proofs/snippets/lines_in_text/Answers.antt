use Rattle.std.proofs.Common.{◌≡◌, ◌∙◌, ℕ, List, IfOk, ap, chars, codes, drop, string_bytes, subst}
use Rattle.wgsl_model.specs.Faults.Snippets.{snippet}
use Rattle.wgsl_span.specs.View.{span_view}
use Rattle.wgsl_error.specs.Printing.{print_error_with_source}
use Rattle.wgsl_buffers.proofs.Shown.{other_message}
use Rattle.wgsl_buffers.proofs.snippets.lines_in_text.Goals as goal

pub returns : goal.returns
returns c =
    let source = chars c.args.source.now in
    let span = span_view c.args.span in
    let lines = string_bytes c.in_ok-lines.lines in
    let place = c.range_from-place.result.now in
    let are : lines ≡ snippet (codes "invalid token") source span =
    c.in_ok-lines.ensures.ok ∙ ap print_error_with_source c.with_source.ensures in
    let rest : place ≡ drop 20 lines = c.range_from-place.ensures.value ∙ ap (λ (l : List ℕ). drop 20 l) c.deref.ensures in
    subst (λ (bytes : List ℕ). IfOk c.format.result (λ text. string_bytes text ≡ bytes))
    (other_message c.args.message.now source lines place span are rest) c.format.ensures.ok
