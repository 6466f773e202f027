-- What a report asks to be written.
use Rattle.std.specs.Prelude.{[], codes, string_bytes}
use Rattle.wgsl_model.specs.Program.{ProcessOutput, complaint, out_of_memory}
use Rattle.wgsl_format.specs.Ends.{nothing_read}
use Rattle.wgsl_format.specs.declared.report.Report.{Report}
use Rattle.wgsl_format.specs.declared.report.Report.TheVariants.{Written, Refused, NotUtf8, TooDeep, OutOfMemory, Unread}

-- the status of the report and its text, for the output or for the errors
abbrev pub outcome_of : Report → ProcessOutput
outcome_of (Written text) = record { status = 0; output = string_bytes text; errors = [] }
outcome_of (Refused line) = complaint 1 (string_bytes line)
outcome_of NotUtf8 = complaint 2 (codes "input is not UTF-8\n")
outcome_of (TooDeep line) = complaint 3 (string_bytes line)
outcome_of OutOfMemory = out_of_memory
outcome_of Unread = nothing_read
