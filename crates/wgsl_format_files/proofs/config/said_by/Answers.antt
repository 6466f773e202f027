use Rattle.std.proofs.Common.{sym, ap, ◌∙◌}
use Rattle.std.proofs.lemmas.Str.{is_utf8-from_IsUtf8}
use Rattle.wgsl_editorconfig.specs.Properties.{properties_of}
use Rattle.wgsl_format.proofs.Reports.{no_text}
use Rattle.wgsl_format_files.proofs.Configs.{said_utf8, said_other}
use Rattle.wgsl_format_files.proofs.config.said_by.Goals as goal

pub returns-in-Ok : goal.returns-in-Ok
returns-in-Ok c =
    let text = c.in-Ok.ensures.cases in
    c.properties.ensures ∙ ap properties_of text.0 ∙ sym (said_utf8 c.args.bytes.now (is_utf8-from_IsUtf8 _ text.1))

pub returns-in-Err : goal.returns-in-Err
returns-in-Err c = c.nothing_said.ensures ∙ sym (said_other c.args.bytes.now (no_text _ c.in-Err.ensures.cases.0))
