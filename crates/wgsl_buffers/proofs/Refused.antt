-- What is reported of an error that is returned of a text.
use Rattle.std.proofs.Common.{◌≡◌, ◌⊎◌, inl, inr, ℕ, List, length, ap, subst}
use Rattle.std.specs.Str.{chars}
use Rattle.grammar.specs.Tokens.{Fault}
use Rattle.wgsl_error.specs.declared.Error.{Error}
use Rattle.wgsl_error.specs.declared.ErrorKind.TheVariants as kinds
use Rattle.wgsl_error.specs.View.{fault_view}
use Rattle.wgsl_read_cursor.specs.Answers.{IsOutOfMemory}
use Rattle.wgsl_read_cursor.specs.Places.{StandsWithin}
use Rattle.wgsl_buffers.specs.declared.answer.Answer.{Answer}
use Rattle.wgsl_buffers.specs.Answers.{nul_terminated, error_lines, TellsTexts, TellsError, Refuses, RefusesWithLines}

-- an error other than a failed allocation is one of the other kinds
other : {A : Type 0} (e : Error) → ¬ (e.error ≡ kinds.OutOfMemory) → IsOutOfMemory e ⊎ A → A
other e not (inl is) = absurd (not (ap (λ (x : Error). x.error) is))
other e not (inr a) = a

-- an error that is returned of a text is a fault of it
fault_of : (IsNamed : List ℕ → Fault → Type 0) (source text : List ℕ) (e : Error) → source ≡ text
    → IsOutOfMemory e ⊎ IsNamed (chars source) (fault_view e) → StandsWithin e.span (length source)
    → ¬ (e.error ≡ kinds.OutOfMemory) → IsNamed (chars text) (fault_view e) × StandsWithin e.span (length text)
fault_of IsNamed source text e same named placed not = (
  subst (λ s. IsNamed (chars s) (fault_view e)) same (other e not named),
  subst (λ s. StandsWithin e.span (length s)) same placed,
)

-- a text is refused where an error of it is reported
pub refused_by : (IsNamed : List ℕ → Fault → Type 0) (source text before buffer : List ℕ) (a : Answer) (e : Error)
    → source ≡ text → IsOutOfMemory e ⊎ IsNamed (chars source) (fault_view e)
    → StandsWithin e.span (length source)
    → ¬ (e.error ≡ kinds.OutOfMemory) → TellsError e before buffer a → Refuses IsNamed text before buffer a
refused_by IsNamed source text before buffer a e same named placed not told =
    let fault = fault_of IsNamed source text e same named placed not in (e, fault.0, fault.1, told)

-- so it is where the lines that show the error are told
pub refused_with_lines : (IsNamed : List ℕ → Fault → Type 0) (name source text before buffer : List ℕ)
    (a : Answer) (e : Error)
    → source ≡ text → IsOutOfMemory e ⊎ IsNamed (chars source) (fault_view e)
    → StandsWithin e.span (length source) → ¬ (e.error ≡ kinds.OutOfMemory)
    → TellsTexts (nul_terminated (error_lines name (chars source) e)) e before buffer a
    → RefusesWithLines IsNamed name text before buffer a
refused_with_lines IsNamed name source text before buffer a e same named placed not told =
    let fault = fault_of IsNamed source text e same named placed not in (
      e,
      fault.0,
      fault.1,
      subst (λ s. TellsTexts (nul_terminated (error_lines name (chars s) e)) e before buffer a) same told,
    )
