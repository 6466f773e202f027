-- The statuses of a run over files.
use Rattle.std.specs.Prelude.{ℕ}
use Rattle.wgsl_files.specs.declared.status.Status.{Status}
use Rattle.wgsl_files.specs.declared.status.Status.TheVariants.{Success, WouldChange, Usage, Refused, Failed, OutOfMemory}

-- the number that a process ends with
abbrev pub code_of : Status → ℕ
code_of Success = 0
code_of WouldChange = 1
code_of Usage = 2
code_of Refused = 3
code_of Failed = 4
code_of OutOfMemory = 5
