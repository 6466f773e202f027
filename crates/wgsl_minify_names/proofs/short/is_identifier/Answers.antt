use Rattle.std.proofs.Common.{true≢false, sym}
use Rattle.wgsl_minify_names.proofs.Identifiers.{whole_not_empty}
use Rattle.wgsl_minify_names.proofs.short.is_identifier.Goals as goal

pub returns-in_default : goal.returns-in_default
returns-in_default c = (
  λ e. absurd (true≢false (sym e)),
  λ whole. absurd (c.in_default.ensures c.args.text.now whole.0 whole.1
      (whole_not_empty c.args.text.now whole) whole.2),
)
