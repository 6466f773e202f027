use Rattle.std.proofs.Common.{chars, string_bytes, subst}
use Rattle.std.proofs.lemmas.Str.{IsUtf8-had, is_utf8-from_IsUtf8}
use Rattle.wgsl_model_tidy.specs.Kept.{IsFormatted, Keeps}
use Rattle.wgsl_model_tidy.specs.Layout.{Layout}
use Rattle.wgsl_buffers.proofs.tidied.tidied.Goals as goal

pub returns-clause-accepted : goal.returns-clause-accepted
returns-clause-accepted c =
    let source = chars c.args.source.now in
    let text = chars (string_bytes c.in_ok-text.text) in
    record {
      valid = is_utf8-from_IsUtf8 _ (IsUtf8-had _ c.in_ok-text.text.ok);
      accepted = c.in_ok-text.ensures.accepted;
      formatted = subst (λ (l : Layout). IsFormatted l source text) c.layout.ensures c.in_ok-text.ensures.formatted;
      kept = subst (λ (l : Layout). Keeps l source text) c.layout.ensures c.in_ok-text.ensures.kept;
    }
