-- Failures of files and of sources.
use Rattle.std.proofs.Common.{◌≡◌, ◌⊎◌, inl, inr, refl, sym, ap, subst, ℕ, true, false, List, ◌++◌, chars, codes, string_bytes}
use Rattle.std.specs.Str.{is_utf8}
use Rattle.wgsl_error.specs.declared.Error.{Error}
use Rattle.wgsl_error.specs.declared.ParseError.TheVariants as parse
use Rattle.wgsl_error.specs.Kinds.{error_at}
use Rattle.wgsl_error.specs.declared.ErrorKind.TheVariants as kinds
use Rattle.wgsl_error.specs.Places.{message_in_file}
use Rattle.wgsl_error.specs.Printing.{print_message}
use Rattle.wgsl_error.specs.View.{fault_view}
use Rattle.wgsl_span.specs.View.{span_view}
use Rattle.wgsl_format.specs.Deeper.{IsDeeperInFile}
use Rattle.wgsl_files.specs.Reading.{IsErrorFor}
use Rattle.wgsl_files.specs.declared.status.Status.TheVariants as status
use Rattle.wgsl_files.specs.declared.store.StoreError.{StoreError}
use Rattle.wgsl_files.specs.declared.store.StoreError.TheVariants as store
use Rattle.wgsl_model.specs.Program.{IsFaultOf}
use Rattle.wgsl_minify_files.specs.Failures.{IsFailed, IsFailedFor, IsNotUtf8, IsRefusal, IsRefusedFor, LacksName, Refuses, Refuses.lacking, Refuses.named, Refuses.undecoded, Refuses.too_deep, IsTooDeep, IsToldDeeper, levels}
use Rattle.wgsl_minify_files.specs.declared.failure.Failure.{Failure}
use Rattle.wgsl_minify_files.specs.declared.failure.Failure.TheVariants.{Refused, Failed, OutOfMemory}

-- a file that is not read or written for the reason of an error
pub failed_for : (reason : Type 0) (path : List ℕ) (e : StoreError) (failure : Failure) → IsErrorFor reason e
    → (e ≡ store.OutOfMemory → failure ≡ OutOfMemory) → IsFailed path failure → IsFailedFor reason path failure
failed_for reason path store.OutOfMemory failure why memory failed =
    subst (IsFailedFor reason path) (sym (memory refl)) tt
failed_for reason path (store.Failed e) (Refused refusal) why memory failed = failed
failed_for reason path (store.Failed e) (Failed message) why memory failed = (why, failed)
failed_for reason path (store.Failed e) OutOfMemory why memory failed = tt

-- a source that nests too deep is refused for an error, too
pub deep_refused : (name source : List ℕ) (e : Error) (failure : Failure)
    → IsRefusal (IsTooDeep name source) failure → IsRefusal (IsRefusedFor name source e) failure
deep_refused name source e OutOfMemory told = told
deep_refused name source e (Failed message) told = told
deep_refused name source e (Refused refusal) told = inl told

-- so is one that has an error
pub error_refused : (name source : List ℕ) (e : Error) (message : List ℕ)
    → message ≡ message_in_file name (print_message e.error) source (span_view e.span) ++ codes "\n"
    → ¬ (e.error ≡ kinds.OutOfMemory) → IsRefusedFor name source e status.Refused message
error_refused name source e message told other = inr (refl, told, other)

-- its message ends with a line break
pub deep_told : (name source told message : List ℕ) → IsDeeperInFile levels name source told
    → message ≡ told ++ codes "\n" → IsToldDeeper name source message
deep_told name source told message deep ends = (told, deep, ends)

-- bytes that are no text are refused
pub refused_undecoded : (name : List ℕ) (keep : List (List ℕ)) (bytes : List ℕ) (failure : Failure) → is_utf8 bytes ≡ false
    → IsRefusal (IsNotUtf8 name) failure → IsRefusal (Refuses name keep bytes) failure
refused_undecoded name keep bytes OutOfMemory invalid told = told
refused_undecoded name keep bytes (Failed message) invalid told = told
refused_undecoded name keep bytes (Refused refusal) invalid (code, told) =
    subst (λ s. Refuses name keep bytes s (string_bytes refusal.message)) (sym code)
    (subst (Refuses name keep bytes status.Refused) (sym told) (undecoded invalid))

-- a source is refused for the error that is named of it, or since it nests too deep
pub refused_named : (name : List ℕ) (keep : List (List ℕ)) (bytes : List ℕ) (e : Error) (failure : Failure) → is_utf8 bytes ≡ true
    → (e ≡ error_at parse.OutOfMemory 0 0) ⊎ IsFaultOf (chars bytes) (fault_view e)
    → IsRefusal (IsRefusedFor name (chars bytes) e) failure → IsRefusal (Refuses name keep bytes) failure
refused_named name keep bytes e OutOfMemory valid fault told = told
refused_named name keep bytes e (Failed message) valid fault told = told
refused_named name keep bytes e (Refused refusal) valid fault (inl (code, told)) =
    subst (λ s. Refuses name keep bytes s (string_bytes refusal.message)) (sym code) (too_deep _ valid told)
refused_named name keep bytes e (Refused refusal) valid (inl memory) (inr (code, told, other)) =
    absurd (other (ap (λ (x : Error). x.error) memory))
refused_named name keep bytes e (Refused refusal) valid (inr fault) (inr (code, told, other)) =
    subst (λ s. Refuses name keep bytes s (string_bytes refusal.message)) (sym code)
    (subst (Refuses name keep bytes status.Refused) (sym told) (named (fault_view e) valid fault))

-- a source that lacks a name to keep is refused
pub refused_lacking : (name : List ℕ) (keep : List (List ℕ)) (bytes : List ℕ) (failure : Failure) → is_utf8 bytes ≡ true
    → IsRefusal (LacksName name keep (chars bytes)) failure → IsRefusal (Refuses name keep bytes) failure
refused_lacking name keep bytes OutOfMemory valid told = told
refused_lacking name keep bytes (Failed message) valid told = told
refused_lacking name keep bytes (Refused refusal) valid told = lacking refusal.status _ valid told
