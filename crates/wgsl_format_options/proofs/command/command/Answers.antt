use Rattle.std.proofs.Common.{◌∙◌, ap₂}
use Rattle.std.proofs.lemmas.Result.{IfOk-weaker}
use Rattle.clap.specs.Words.{with_rule}
use Rattle.wgsl_format_options.proofs.command.command.Goals as goal

pub returns : goal.returns
returns c =
    let one = c.in_ok-arg.ensures.shape c.paths.ensures.local ∙ ap₂ with_rule c.program.ensures c.paths.ensures.rule in
    let two = c.in_ok-arg-2.ensures.shape c.flag-check.ensures.local ∙ ap₂ with_rule one c.flag-check.ensures.rule in
    let three = c.in_ok-arg-3.ensures.shape c.flag-diff.ensures.local ∙ ap₂ with_rule two c.flag-diff.ensures.rule in
    let four = c.in_ok-arg-4.ensures.shape c.flag-quiet.ensures.local ∙ ap₂ with_rule three c.flag-quiet.ensures.rule in
    let five = c.in_ok-arg-5.ensures.shape c.setting-stdin_path.ensures.local
    ∙ ap₂ with_rule four c.setting-stdin_path.ensures.rule in
    let six = c.in_ok-arg-6.ensures.shape c.setting-width.ensures.local
    ∙ ap₂ with_rule five c.setting-width.ensures.rule in
    let seven = c.in_ok-arg-7.ensures.shape c.setting-indent.ensures.local
    ∙ ap₂ with_rule six c.setting-indent.ensures.rule in
    IfOk-weaker c.arg-8.result _ _ (λ command h. h.shape c.setting-newlines.ensures.local
    ∙ ap₂ with_rule seven c.setting-newlines.ensures.rule) c.arg-8.ensures
