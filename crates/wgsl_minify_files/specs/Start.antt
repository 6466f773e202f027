-- What the program does with its arguments.
use Rattle.std.specs.Prelude.{ℕ, List, Result, codes}
use Rattle.clap.specs.Words.{Kinds}
use Rattle.wgsl_program.specs.Start.{IsStartOf}
use Rattle.wgsl_program.specs.World.{World}
use Rattle.wgsl_minify_files.specs.Failures.{memory_text}
use Rattle.wgsl_minify_files.specs.Options.{Options}
use Rattle.wgsl_minify_files.specs.Runs.{IsRun}

-- what is reported where an argument is not UTF-8
abbrev pub argument_text : List ℕ
argument_text = codes "wgslmin: error: an argument is not UTF-8\n"

-- what the program does where its arguments mean this
abbrev pub IsStart : Result Options Kinds → World → World → ℕ → Type 0
IsStart meant old new status = IsStartOf IsRun memory_text meant old new status
