-- What is said of a source that is refused, or is no text.
use Rattle.std.proofs.Common.{◌≡◌, ◌⊎◌, inl, inr, ℕ, true, false, List, ◌++◌, chars, sym, subst, ap, arith}
use Rattle.std.specs.Prelude.{codes, Option, Some, Result, Ok, Err, IfOk}
use Rattle.std.specs.declared.alloc.AllocError.{AllocError}
use Rattle.std.specs.Str.{is_utf8, IsUtf8}
use Rattle.std.proofs.lemmas.Bool.{false_from_ne_true}
use Rattle.std.proofs.lemmas.Str.{IsUtf8-from_is_utf8}
use Rattle.grammar.specs.Tokens.{Fault}
use Rattle.wgsl_model.specs.Program.{ProcessOutput, complaint, shown_fault}
use Rattle.wgsl_error.specs.declared.Error.{Error}
use Rattle.wgsl_error.specs.declared.ErrorKind.TheVariants as kinds
use Rattle.wgsl_error.specs.declared.ParseError.TheVariants as parse
use Rattle.wgsl_error.specs.Kinds.{error_at}
use Rattle.wgsl_error.specs.View.{fault_view}
use Rattle.wgsl_format.specs.declared.report.Report.{Report}
use Rattle.wgsl_format.specs.Deeper.{FormatsWithin, IsTooDeep}
use Rattle.wgsl_format.specs.Report.{outcome_of}

-- the bytes are no text
pub no_text : (bytes : List ℕ) → (IsUtf8 bytes → ⊥) → is_utf8 bytes ≡ false
no_text bytes invalid = false_from_ne_true (is_utf8 bytes) (λ valid. invalid (IsUtf8-from_is_utf8 bytes valid))

-- an error that is no failed allocation is the fault that is named
is_fault : (IsFault : Fault → Type 0) (e : Error)
    → (e ≡ error_at parse.OutOfMemory 0 0) ⊎ IsFault (fault_view e)
    → ¬ (e.error ≡ kinds.OutOfMemory) → IsFault (fault_view e)
is_fault IsFault e (inl memory) other = absurd (other (ap (λ (x : Error). x.error) memory))
is_fault IsFault e (inr fault) other = fault

-- A report of an error is what a program writes of bytes for which this fault is named.
pub refused_writes : (Writes : List ℕ → ProcessOutput → Type 0)
    (IsFault : Fault → Type 0) (bytes : List ℕ) (e : Error) (made : Result Report AllocError)
    → ((x : Fault) → IsFault x → Writes bytes (complaint 1 (shown_fault x ++ codes "\n")))
    → (e ≡ error_at parse.OutOfMemory 0 0) ⊎ IsFault (fault_view e)
    → IfOk made (λ report. outcome_of report ≡ complaint 1 (shown_fault (fault_view e) ++ codes "\n"))
    → IfOk made (λ _. ¬ (e.error ≡ kinds.OutOfMemory))
    → IfOk made (λ report. Writes bytes (outcome_of report))
refused_writes Writes IsFault bytes e (Ok report) writes named told other = subst (Writes bytes)
    (sym told) (writes (fault_view e) (is_fault IsFault e named other))
refused_writes Writes IsFault bytes e (Err memory) writes named told other = told

-- So is one of bytes that nest deeper than a limit.
pub deeper_writes : (limit : Option ℕ) (depth : ℕ) (bytes : List ℕ) (made : Result Report AllocError)
    → limit ≡ Some depth → is_utf8 bytes ≡ true
    → IfOk made (λ report. IsTooDeep depth (chars bytes) (outcome_of report))
    → IfOk made (λ report. FormatsWithin limit bytes (outcome_of report))
deeper_writes limit depth bytes (Ok report) some valid deep =
    subst (λ l. FormatsWithin l bytes (outcome_of report)) (sym some) (inr (valid, deep))
deeper_writes limit depth bytes (Err memory) some valid deep = deep

-- and no text is made of these bytes
pub refused_makes : (IsMade : List ℕ → Type 0) (line : List ℕ) (made : Result Report AllocError)
    → IfOk made (λ report. outcome_of report ≡ complaint 1 line)
    → IfOk made (λ report. (outcome_of report).status ≡ 0 → IsMade (outcome_of report).output)
refused_makes IsMade line (Ok report) named =
    λ zero. absurd (omega (arith, zero, ap (λ (o : ProcessOutput). o.status) named))
refused_makes IsMade line (Err memory) named = named
