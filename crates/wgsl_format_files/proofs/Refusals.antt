-- What the formatter of files makes of bytes.
use Rattle.std.proofs.Common.{◌≡◌, ◌⊎◌, ◌∙◌, inl, inr, refl, sym, ap, subst, ℕ, true, false, List, [], chars, string_bytes}
use Rattle.std.specs.Str.{is_utf8}
use Rattle.grammar.specs.Tokens.{Fault}
use Rattle.wgsl_error.specs.declared.Error.{Error}
use Rattle.wgsl_error.specs.declared.ErrorKind.TheVariants as kinds
use Rattle.wgsl_error.specs.View.{expected_texts, fault_view, kind_number, kind_texts}
use Rattle.wgsl_report.specs.Faults.{reported_fault}
use Rattle.wgsl_report.specs.Undecoded.{undecoded_message}
use Rattle.wgsl_span.specs.View.{span_view}
use Rattle.wgsl_format.specs.Deeper.{IsDeeperInFile}
use Rattle.wgsl_files.specs.declared.status.Status.TheVariants as status
use Rattle.wgsl_files.specs.declared.format.FormatError.{FormatError}
use Rattle.wgsl_files.specs.declared.format.FormatError.TheVariants as format
use Rattle.wgsl_files.specs.Rewriting.{IsRefusal}
use Rattle.wgsl_model_tidy.specs.Formatted.{unmarked}
use Rattle.wgsl_model_tidy.specs.Syntax.{IsFaultAfterMark}
use Rattle.wgsl_error.specs.declared.ParseError.TheVariants as parse
use Rattle.wgsl_error.specs.Kinds.{error_at}
use Rattle.wgsl_format_files.specs.Tidy.{Refuses, Refuses.named, Refuses.undecoded, Refuses.too_deep, IsRefusedFor, IsNotUtf8, IsTooDeep, levels}

-- a source that nests too deep is refused for an error, too
pub deep_refused : (e : Error) (source : List ℕ) (made : FormatError) → IsRefusal (IsTooDeep source) made
    → IsRefusal (IsRefusedFor e source) made
deep_refused e source format.OutOfMemory told = told
deep_refused e source (format.Refused refusal) told = inl told

-- so is one that has an error
pub error_refused : (e made : Error) (source message : List ℕ) → fault_view made ≡ fault_view e
    → message ≡ reported_fault [] (kind_number made.error) (kind_texts made.error) (expected_texts made.error)
    source (span_view made.span)
    → ¬ (e.error ≡ kinds.OutOfMemory) → IsRefusedFor e source status.Refused message
error_refused e made source message same told other =
    let expected = expected_texts made.error in
    inr (refl, (expected, told ∙ ap (λ (x : Fault). reported_fault [] x.kind x.texts expected source x.span) same), other)

-- it nests too deep after its byte order mark
pub deep_told : (source text message : List ℕ) → text ≡ unmarked source
    → IsDeeperInFile levels [] text message → IsTooDeep source status.OutOfMemory message
deep_told source text message same told = (refl, subst (λ t. IsDeeperInFile levels [] t message) same told)

-- what is reported of bytes that are no text
pub undecoded_told : (bytes message : List ℕ) → message ≡ undecoded_message [] bytes
    → IsNotUtf8 bytes status.Refused message
undecoded_told bytes message told = (refl, told)

-- bytes that are no text are refused
pub refused_undecoded : (bytes : List ℕ) (made : FormatError) → is_utf8 bytes ≡ false
    → IsRefusal (IsNotUtf8 bytes) made → IsRefusal (Refuses bytes) made
refused_undecoded bytes format.OutOfMemory invalid told = told
refused_undecoded bytes (format.Refused refusal) invalid (code, told) =
    subst (λ s. Refuses bytes s (string_bytes refusal.message)) (sym code)
    (subst (Refuses bytes status.Refused) (sym told) (undecoded invalid))

-- a text is refused for the error that is named of it, or since it nests too deep
pub refused_named : (bytes : List ℕ) (e : Error) (made : FormatError) → is_utf8 bytes ≡ true
    → (e ≡ error_at parse.OutOfMemory 0 0) ⊎ IsFaultAfterMark (chars bytes) (fault_view e)
    → IsRefusal (IsRefusedFor e (chars bytes)) made → IsRefusal (Refuses bytes) made
refused_named bytes e format.OutOfMemory valid fault told = told
refused_named bytes e (format.Refused refusal) valid fault (inl (code, told)) =
    subst (λ s. Refuses bytes s (string_bytes refusal.message)) (sym code) (too_deep _ valid told)
refused_named bytes e (format.Refused refusal) valid (inl memory) (inr (code, told, other)) =
    absurd (other (ap (λ (x : Error). x.error) memory))
refused_named bytes e (format.Refused refusal) valid (inr fault) (inr (code, (expected, told), other)) =
    subst (λ s. Refuses bytes s (string_bytes refusal.message)) (sym code)
    (subst (Refuses bytes status.Refused) (sym told) (named (fault_view e) expected valid fault))
