-- What the program does with its arguments.
use Rattle.std.specs.Prelude.{◌⊎◌, ℕ, List, Result, codes}
use Rattle.std.specs.Option.{unwrap_or}
use Rattle.clap.specs.Words.{Kinds}
use Rattle.wgsl_format_options.specs.Options.{Options, Source}
use Rattle.wgsl_format_files.specs.Configs.{BecomesBy}
use Rattle.wgsl_format_files.specs.Inputs.{AreInputsOf}
use Rattle.wgsl_format_files.specs.Runs.{state, Runs}
use Rattle.wgsl_format_files.specs.Tidy.{Refuses}
use Rattle.wgsl_program.specs.Start.{IsStartOf}
use Rattle.wgsl_program.specs.World.{World, Tells}

-- what is reported where an allocation failed
abbrev pub memory_text : List ℕ
memory_text = codes "wgsltidy: error: out of memory\n"

-- what is reported where an argument is not UTF-8
abbrev pub argument_text : List ℕ
argument_text = codes "wgsltidy: error: an argument is not UTF-8\n"

-- the name of the standard input in messages
abbrev pub name_of : Options → List ℕ
name_of options = unwrap_or options.stdin_path (codes "<stdin>")

-- the files for the sources are formatted in order, each by the layout that is chosen for it
pub record IsFilesRun (options : Options) (old new : World) (status : ℕ) : Type 0 where
  pub inputs : List Source
  pub named : AreInputsOf old.files options.sources inputs
  pub runs : Runs (BecomesBy options.choices options.stdin_path) Refuses options.mode options.quiet
      (name_of options) inputs (state old.files old.left) (state new.files new.left)
      old.output new.output old.errors new.errors status

-- what is done for options, unless an allocation failed
abbrev pub IsOptionsRun : Options → World → World → ℕ → Type 0
IsOptionsRun options old new status = IsFilesRun options old new status ⊎ Tells memory_text 5 old new status

-- what the program does where its arguments mean this
abbrev pub IsStart : Result Options Kinds → World → World → ℕ → Type 0
IsStart meant old new status = IsStartOf IsFilesRun memory_text meant old new status
