use Rattle.std.proofs.Common.{◌∙◌, ap}
use Rattle.wgsl_editorconfig.specs.Reading.{properties}
use Rattle.wgsl_editorconfig.proofs.AllLines.{properties_read}
use Rattle.wgsl_editorconfig.proofs.properties.Goals as goal

pub returns : goal.returns
returns c = c.properties.ensures ∙ ap properties c.read.ensures ∙ properties_read c.args.text.now
