use Rattle.std.proofs.Common.{chars, length, refl, ap, ◌∙◌}
use Rattle.std.specs.Prelude.{string_bytes}
use Rattle.std.proofs.lemmas.Str.{chars-append, IsUtf8-string_bytes}
use Rattle.std.proofs.lemmas.Result.{IfOk-weaker}
use Rattle.wgsl_format_layout.proofs.Added.{printable_passed}
use Rattle.wgsl_format_layout.proofs.text.Text.put_printable.Goals as goal

pub returns : goal.returns
returns c =
    let old = c.args.self.now in
    let written = ap chars c.in_ok-push_str.ensures.bytes
    ∙ chars-append (string_bytes old.string) c.args.piece.now (IsUtf8-string_bytes old.string) in
    IfOk-weaker c.move_on.result _ _ (λ _ m. record {
      written = written;
      line = printable_passed old.line c.move_on.new.self c.args.piece.now
          (length c.args.piece.now) c.requires refl m;
    }) c.move_on.ensures
