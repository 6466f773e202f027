use Rattle.std.proofs.Common.{◌∙◌}
use Rattle.wgsl_format_layout.proofs.Contents.{comma_last}
use Rattle.wgsl_format_layout.proofs.ahead.ends_with_comma.Goals as goal

pub returns : goal.returns
returns c = λ before n t ts f o.
    c.is.ensures ∙ comma_last _ before c.args.opening c.saturating_sub-last.result c.args.tokens.now n t ts
    c.requires.opening f o c.saturating_sub-last.ensures
