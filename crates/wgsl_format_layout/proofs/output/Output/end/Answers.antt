use Rattle.std.proofs.Common.{chars, ap, ap₂, sym, ◌∙◌, ◌++◌, append-nil}
use Rattle.std.specs.Prelude.{string_bytes}
use Rattle.wgsl_model_tidy.specs.Open.{LayoutState}
use Rattle.wgsl_model_tidy.specs.LaidOut.{Last, ending}
use Rattle.wgsl_theory_tidy.proofs.Written.{line_chars}
use Rattle.wgsl_format_layout.specs.declared.text.Text.{Text}
use Rattle.wgsl_format_layout.proofs.output.Output.end.Goals as goal
use Rattle.wgsl_format_layout.proofs.output.Output.end.Goals.{then-ends_line+in_ok-put, else-ends_line}

pub returns : goal.returns
returns c layout spot b =
    let old = chars (string_bytes c.args.self.text.string) in
    elim c.if-ends_line.branch [
      | then-ends_line+in_ok-put w ↦ ap (λ (t : Text). chars (string_bytes t.string)) w.text-is
          ∙ w.in_ok-put.ensures.written ∙ ap (λ xs. old ++ xs) (line_chars ∙ w.if-ends_line.ensures)
      | else-ends_line w ↦ ap (λ (t : Text). chars (string_bytes t.string)) w.text-is
          ∙ sym (append-nil old) ∙ ap (λ xs. old ++ xs) w.if-ends_line.ensures
    ]
    ∙ ap₂ (λ (l : Last) r. old ++ ending l r) b.last (ap (λ (s : LayoutState). s.last) b.state)
