-- What holds of a run of a program.
use Rattle.std.specs.Prelude.{◌≡◌, ◌⊎◌, ◌≤◌, ◌<◌, ℕ, List, Option}
use Rattle.std.specs.Io.KnownBytes.{Appends, IsAtEnd}
use Rattle.wgsl_model.specs.Program.{ProcessOutput}
use Rattle.wgsl_format.specs.Ends.{IsInput, Ends}

-- How a program runs that writes `Writes` of the bytes that it reads, and with status 0 a text that
-- `IsMadeOf` them.
-- Of this input so much is left; the output and what the errors hold became what was written and
-- what was told; and the run has this status.
pub record Runs {Output : Type 0} (Writes : List ℕ → ProcessOutput → Type 0) (IsMadeOf : List ℕ → List ℕ → Type 0)
    (input left : Option (List ℕ)) (contents : Output → Option (List ℕ)) (output written : Output)
    (errors told : Option (List ℕ)) (status : ℕ) : Type 0 where
  pub within : status ≤ 4
  pub ends : (end : ProcessOutput) × Ends Writes input left end × (status ≡ end.status)
      × Appends (contents output) (contents written) end.output
      × Appends errors told end.errors
  pub all_read : status < 3 → IsAtEnd left
  -- before all was read, the output is not touched
  pub spared : IsAtEnd left ⊎ (written ≡ output)
  pub made : status ≡ 0 → (bytes : List ℕ) × (text : List ℕ)
      × IsInput input bytes × IsMadeOf bytes text
      × Appends (contents output) (contents written) text
