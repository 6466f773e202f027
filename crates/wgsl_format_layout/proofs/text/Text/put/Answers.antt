use Rattle.std.proofs.Common.{chars, ap, ◌∙◌}
use Rattle.std.specs.Prelude.{string_bytes}
use Rattle.std.proofs.lemmas.Str.{chars-append, IsUtf8-string_bytes}
use Rattle.std.proofs.lemmas.Result.{IfOk-weaker}
use Rattle.wgsl_format_layout.proofs.text.Text.put.Goals as goal

pub returns : goal.returns
returns c =
    let old = c.args.self.now.string in
    let written = ap chars c.in_ok-push_str.ensures.bytes
    ∙ chars-append (string_bytes old) c.args.piece.now (IsUtf8-string_bytes old) in
    IfOk-weaker c.pass.result _ _ (λ _ p. record { written = written; line = p }) c.pass.ensures
