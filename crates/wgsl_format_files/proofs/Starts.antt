-- What the program does with its arguments.
use Rattle.std.proofs.Common.{◌≡◌, inl, inr, ℕ, List, Option, Result, Ok}
use Rattle.clap.specs.Words.{Kinds}
use Rattle.wgsl_files.specs.Files.{Files}
use Rattle.wgsl_format_options.specs.Options.{Options, Source}
use Rattle.wgsl_program.proofs.Starts.{memory_start, run_start}
use Rattle.wgsl_program.specs.World.{World, world}
use Rattle.wgsl_format_files.specs.Configs.{BecomesBy}
use Rattle.wgsl_format_files.specs.Inputs.{AreInputsOf}
use Rattle.wgsl_format_files.specs.Runs.{state, Runs}
use Rattle.wgsl_format_files.specs.Start.{memory_text, name_of, IsFilesRun, IsOptionsRun, IsStart}
use Rattle.wgsl_format_files.specs.Tidy.{Refuses}

-- the files for the sources are formatted
pub files_run : (options : Options) (files files_next : Files)
    (left left_next output output_next errors errors_next : Option (List ℕ)) (status : ℕ) (inputs : List Source)
    → AreInputsOf files options.sources inputs
    → Runs (BecomesBy options.choices options.stdin_path) Refuses options.mode options.quiet (name_of options) inputs
    (state files left) (state files_next left_next) output output_next errors errors_next status
    → IsOptionsRun options (world files left output errors) (world files_next left_next output_next errors_next) status
files_run options files files_next left left_next output output_next errors errors_next status inputs named runs =
    inl (record { inputs = inputs; named = named; runs = runs })

-- what is done for the options that are meant
pub options_start : (meant : Result Options Kinds) (options : Options) (old new : World) (status : ℕ)
    → meant ≡ Ok options → IsOptionsRun options old new status → IsStart meant old new status
options_start meant options old new status is (inl runs) =
    run_start IsFilesRun memory_text meant old new status options is runs
options_start meant options old new status is (inr told) =
    memory_start IsFilesRun memory_text meant old new status told
