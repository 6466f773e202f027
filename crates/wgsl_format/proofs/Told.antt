-- What was sent to one writer is what went out, where the other writer is left alone.
use Rattle.std.proofs.Common.{◌≡◌, inl, inr, ℕ, zero, suc, List, [], take, Option, None, refl, subst}
use Rattle.std.proofs.KnownBytes.{Appends-nil}
use Rattle.std.specs.Io.KnownBytes.{Appends}
use Rattle.wgsl_model.specs.Program.{ProcessOutput, complaint, out_of_memory}
use Rattle.wgsl_format.specs.Ends.{GoesOut, cut}
use Rattle.wgsl_format.specs.Told.{IsTold}

-- nothing is the beginning of nothing
take-none : (n : ℕ) → take {A = ℕ} n [] ≡ []
take-none zero = refl
take-none (suc n) = refl

-- known bytes stay where a beginning of nothing is added
pub Appends-none : (known : Option (List ℕ)) (n : ℕ) → Appends known known (take n [])
Appends-none known n = rw (take-none n) (Appends-nil known)

-- a text for the errors
pub goes_to_errors : (text : List ℕ) (status : ℕ) (sent : List ℕ) (answer : ℕ) (output old new : Option (List ℕ))
    → IsTold text status sent answer → Appends old new sent
    → (end : ProcessOutput) × GoesOut (complaint status text) end × (answer ≡ end.status)
    × Appends output output end.output × Appends old new end.errors
goes_to_errors text status sent answer output old new (inl (whole, same)) added =
    (complaint status text, inl refl, same, Appends-nil output, subst (Appends old new) whole added)
goes_to_errors text status sent answer output old new (inr ((n, part), failed)) added =
    (cut n (complaint status text), inr (n, refl), failed, Appends-none output n, subst (Appends old new) part added)

-- a text for the output
pub goes_to_output : (text : List ℕ) (status : ℕ) (sent : List ℕ) (answer : ℕ) (errors old new : Option (List ℕ))
    → IsTold text status sent answer → Appends old new sent
    → (end : ProcessOutput) × GoesOut (record { status = status; output = text; errors = [] }) end
    × (answer ≡ end.status) × Appends old new end.output × Appends errors errors end.errors
goes_to_output text status sent answer errors old new (inl (whole, same)) added = (
  record { status = status; output = text; errors = [] },
  inl refl,
  same,
  subst (Appends old new) whole added,
  Appends-nil errors,
)
goes_to_output text status sent answer errors old new (inr ((n, part), failed)) added = (
  cut n (record { status = status; output = text; errors = [] }),
  inr (n, refl),
  failed,
  subst (Appends old new) part added,
  Appends-none errors n,
)

-- a text for the errors, where nothing is said of the output
pub told_to_errors : (text : List ℕ) (status : ℕ) (sent : List ℕ) (answer : ℕ) (old new : Option (List ℕ))
    → IsTold text status sent answer → Appends old new sent
    → (end : ProcessOutput) × GoesOut (complaint status text) end × (answer ≡ end.status) × Appends old new end.errors
told_to_errors text status sent answer old new told added =
    let whole = goes_to_errors text status sent answer None old new told added in
    (whole.0, whole.1, whole.2, whole.4)

-- the line that reports a failed allocation is for the errors alone
pub memory_told : (end : ProcessOutput) (known : Option (List ℕ)) → GoesOut out_of_memory end
    → Appends known known end.output
memory_told end known (inl whole) = rw whole (Appends-nil known)
memory_told end known (inr (n, part)) = rw part (Appends-none known n)
