use Rattle.std.proofs.Common.{rules, chars}
use Rattle.wgsl_format_files.proofs.Refusals.{error_refused}
use Rattle.wgsl_format_files.proofs.formatter.refusal.Goals as goal

pub returns-in-Ok : goal.returns-in-Ok
returns-in-Ok c = error_refused c.args.error c.with_expected-error.result (chars c.args.source.now) _
    c.with_expected-error.ensures (search rules) (search rules)
