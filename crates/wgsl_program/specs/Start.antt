-- What a program does with its arguments, which `clap` reads.
use Rattle.std.specs.Prelude.{◌≡◌, ◌⊎◌, ℕ, Bool, true, false, List, Result, Ok, Err}
use Rattle.clap.specs.Words.{Kinds, IsAmong}
use Rattle.clap.specs.declared.error.kind.ErrorKind.{ErrorKind}
use Rattle.clap.specs.declared.error.kind.ErrorKind.TheVariants.{DisplayHelp, DisplayVersion, OutOfMemory}
use Rattle.wgsl_program.specs.World.{World, Shows, Tells}

-- the kinds of `--help` and `--version`
abbrev pub is_display : ErrorKind → Bool
is_display DisplayHelp = true
is_display DisplayVersion = true
is_display kind = false

-- an allocation failed
abbrev pub is_memory : ErrorKind → Bool
is_memory OutOfMemory = true
is_memory kind = false

-- what is displayed is for the output, and has status 0; what is wrong with arguments is for the
-- errors, and has status 2
abbrev pub IsShown : Bool → List ℕ → World → World → ℕ → Type 0
IsShown true text old new status = Shows text 0 old new status
IsShown false text old new status = Tells text 2 old new status

-- the text of an error of arguments is shown, or an allocation failed, for which there is a message
abbrev pub IsTold : List ℕ → ErrorKind → World → World → ℕ → Type 0
IsTold memory kind old new status =
    ((is_memory kind ≡ false) × (text : List ℕ) × IsShown (is_display kind) text old new status)
    ⊎ Tells memory 5 old new status

-- What a program does where its arguments mean this: the run that they ask for, or a text of `clap`
-- is shown. Or an allocation failed, for which there is a message.
abbrev pub IsStartOf : {Options : Type 0} → (Options → World → World → ℕ → Type 0) → List ℕ
    → Result Options Kinds → World → World → ℕ → Type 0
IsStartOf IsRun memory (Ok options) old new status = IsRun options old new status ⊎ Tells memory 5 old new status
IsStartOf IsRun memory (Err kinds) old new status =
    ((kind : ErrorKind) × IsAmong kind kinds × (text : List ℕ) × IsShown (is_display kind) text old new status)
    ⊎ Tells memory 5 old new status
