use Rattle.std.proofs.Common.{sym, subst, string_bytes}
use Rattle.std.proofs.lemmas.Str.{IsUtf8-had, is_utf8-from_IsUtf8}
use Rattle.wgsl_format.proofs.Reports.{no_text}
use Rattle.wgsl_format.specs.RunOutput.{IsTidiedBy}
use Rattle.wgsl_format_layout.specs.Layouts.{layout_view}
use Rattle.wgsl_format_files.proofs.Refusals.{refused_undecoded, refused_named}
use Rattle.wgsl_format_files.proofs.formatter.TidyFormat.format.Goals as goal

pub returns-in_default-clause-err : goal.returns-in_default-clause-err
returns-in_default-clause-err c = refused_undecoded _ c.not_utf8.result
    (no_text _ c.in_default.ensures.cases.0) c.not_utf8.ensures

pub returns-in-Ok-tidy_within-clause-ok : goal.returns-in-Ok-tidy_within-clause-ok
returns-in-Ok-tidy_within-clause-ok c =
    let source = c.in-Ok.ensures.cases in
    let text = c.in-Ok-tidy_within.formatted in
    let layout = layout_view c.args.self.now.layout in
    let tidied : IsTidiedBy layout c.args.text.now (string_bytes text) = record {
      valid = is_utf8-from_IsUtf8 _ (IsUtf8-had _ text.ok);
      accepted = rw source.0 at c.in-Ok-tidy_within.ensures.accepted;
      formatted = rw source.0 at c.in-Ok-tidy_within.ensures.formatted;
      kept = rw source.0 at c.in-Ok-tidy_within.ensures.kept;
    } in
    subst (λ v. IsTidiedBy layout c.args.text.now v.items) (sym c.into_bytes.ensures.value) tidied

pub returns-in-Err-clause-err : goal.returns-in-Err-clause-err
returns-in-Err-clause-err c =
    let source = c.in-Ok.ensures.cases in
    refused_named _ c.in-Err.error c.refusal.result (is_utf8-from_IsUtf8 _ source.1)
    (rw source.0 at c.in-Err.ensures.refused) (rw source.0 at c.refusal.ensures)
