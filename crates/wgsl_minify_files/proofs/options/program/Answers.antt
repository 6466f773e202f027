use Rattle.std.proofs.Common.{◌∙◌, ap, true}
use Rattle.clap.specs.Words.{App}
use Rattle.clap.specs.Simple.{app_of_fields}
use Rattle.wgsl_minify_files.proofs.options.program.Goals as goal

abbrev without_name : App → App
without_name a = record a { top = record a.top { no_binary_name = true } }

abbrev with_version : App → App
with_version a = record a { top = record a.top { has_version = true } }

pub returns : goal.returns
returns c =
    ap app_of_fields c.after_help.ensures ∙ (ap app_of_fields c.about.ensures ∙ (ap app_of_fields c.version.ensures
    ∙ ap with_version (ap app_of_fields c.no_binary_name.ensures ∙ ap without_name c.new.ensures.app)))
