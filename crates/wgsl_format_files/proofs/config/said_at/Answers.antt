use Rattle.std.proofs.Common.{ap, ◌∙◌, Some}
use Rattle.wgsl_format_files.specs.Configs.{said_by}
use Rattle.wgsl_format_files.proofs.config.said_at.Goals as goal

pub returns-in-Ok : goal.returns-in-Ok
returns-in-Ok g c =
    (Some c.in-Ok.bytes.items, c.in-Ok.ensures.bytes, c.said_by.ensures ∙ ap said_by c.as_slice.ensures.value)
