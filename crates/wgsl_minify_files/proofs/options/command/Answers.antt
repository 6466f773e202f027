use Rattle.std.proofs.Common.{◌∙◌, ap, ap₂, Some}
use Rattle.std.proofs.lemmas.Result.{IfOk-weaker}
use Rattle.clap.specs.Words.{Rule, rule_of, with_rule}
use Rattle.clap.specs.declared.builder.action.ArgAction.TheVariants.{Append}
use Rattle.clap.specs.declared.builder.arg.Arg.{Arg}
use Rattle.wgsl_minify_files.proofs.options.command.Goals as goal

pub returns : goal.returns
returns c =
    let file_is = ap rule_of c.help-file.ensures ∙ c.new.ensures.rule in
    let output_is = ap rule_of c.short-output.ensures
    ∙ ap (λ (r : Rule). record r { short = Some 111 }) c.setting.ensures.rule in
    let keep_is = ap rule_of c.action-keep.ensures
    ∙ ap (λ (r : Rule). record r { action = Some Append }) c.setting-2.ensures.rule in
    let one = c.in_ok-arg.ensures.shape (ap (λ (a : Arg). a.global) c.help-file.ensures ∙ c.new.ensures.optional.1) ∙ ap₂ with_rule c.program.ensures file_is in
    let two = c.in_ok-arg-2.ensures.shape (ap (λ (a : Arg). a.global) c.short-output.ensures ∙ c.setting.ensures.local) ∙ ap₂ with_rule one output_is in
    let three = c.in_ok-arg-3.ensures.shape c.setting-names.ensures.local ∙ ap₂ with_rule two c.setting-names.ensures.rule in
    let four = c.in_ok-arg-4.ensures.shape (ap (λ (a : Arg). a.global) c.action-keep.ensures ∙ c.setting-2.ensures.local) ∙ ap₂ with_rule three keep_is in
    IfOk-weaker c.arg-5.result _ _
    (λ command h. h.shape c.setting-map.ensures.local ∙ ap₂ with_rule four c.setting-map.ensures.rule) c.arg-5.ensures
