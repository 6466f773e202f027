-- What a program does with its arguments.
use Rattle.std.proofs.Common.{◌≡◌, ◌⊎◌, ◌∙◌, inl, inr, sym, ap, subst, ℕ, Bool, false, List, Result, Ok, Err}
use Rattle.std.proofs.lemmas.Bool.{false≢true}
use Rattle.clap.specs.Words.{Kinds, IsAmong}
use Rattle.clap.specs.declared.error.kind.ErrorKind.{ErrorKind}
use Rattle.clap.specs.declared.error.kind.ErrorKind.TheVariants.{OutOfMemory}
use Rattle.wgsl_program.specs.World.{World, Tells}
use Rattle.wgsl_program.specs.Start.{IsShown, IsStartOf, IsTold, is_display, is_memory}

-- the text of an error is shown
pub told_text : (report : List ℕ) (kind found shown : ErrorKind) (memory display is : Bool)
    (text : List ℕ) (old new : World) (status : ℕ)
    → found ≡ kind → memory ≡ is_memory found → memory ≡ false → shown ≡ kind → display ≡ is_display shown
    → display ≡ is → IsShown is text old new status → IsTold report kind old new status
told_text report kind found shown memory display is text old new status found_is memory_is none
    shown_is display_is so shows = inl (
      ap is_memory (sym found_is) ∙ (sym memory_is ∙ none),
      text,
      subst (λ b. IsShown b text old new status) (sym so ∙ (display_is ∙ ap is_display shown_is)) shows,
    )

module _ {Options : Type 0} (IsRun : Options → World → World → ℕ → Type 0) (memory : List ℕ)
    (meant : Result Options Kinds) (old new : World) (status : ℕ) where
  -- an allocation may fail whatever the arguments mean
  pub memory_start : Tells memory 5 old new status → IsStartOf IsRun memory meant old new status
  memory_start told = go meant
    where
      go : (any : Result Options Kinds) → IsStartOf IsRun memory any old new status
      go (Ok options) = inr told
      go (Err kinds) = inr told

  -- a run that is asked for
  pub run_start : (options : Options) → meant ≡ Ok options → IsRun options old new status
      → IsStartOf IsRun memory meant old new status
  run_start options is runs = subst (λ m. IsStartOf IsRun memory m old new status) (sym is) (inl runs)

  -- an error of the arguments
  pub told_start : (kind : ErrorKind)
      → (kind ≡ OutOfMemory) ⊎ ((kinds : Kinds) × (meant ≡ Err kinds) × IsAmong kind kinds)
      → IsTold memory kind old new status → IsStartOf IsRun memory meant old new status
  told_start kind gives (inr told) = memory_start told
  told_start kind (inl is) (inl told) = absurd (false≢true (sym told.0 ∙ ap is_memory is))
  told_start kind (inr (kinds, is, among)) (inl told) =
      subst (λ m. IsStartOf IsRun memory m old new status) (sym is) (inl (kind, among, told.1, told.2))
