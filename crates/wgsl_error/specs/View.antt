-- Errors as plain data.
use Rattle.std.specs.Prelude.{ℕ, List, [], ◌∷◌, map, string_bytes}
use Rattle.grammar.specs.Tokens as plain
use Rattle.wgsl_model.specs.Faults.Kinds.{invalid_token_kind, reserved_word_kind, unexpected_token_kind, unexpected_end_kind, extra_token_kind, diagnostic_severity_kind, attribute_kind, var_template_kind, out_of_memory_kind}
use Rattle.wgsl_span.specs.View.{span_view}
use Rattle.wgsl_error.specs.declared.Error.{Error}
use Rattle.wgsl_error.specs.declared.ErrorKind.{ErrorKind}
use Rattle.wgsl_error.specs.declared.ErrorKind.TheVariants as error
use Rattle.wgsl_error.specs.declared.ParseError.{ParseError}
use Rattle.wgsl_error.specs.Kinds.{error_kind_of}

-- the number of a kind
abbrev pub kind_number : ErrorKind → ℕ
kind_number error.InvalidToken = invalid_token_kind
kind_number (error.ReservedWord word) = reserved_word_kind
kind_number (error.UnexpectedToken token expected) = unexpected_token_kind
kind_number (error.UnexpectedEof expected) = unexpected_end_kind
kind_number (error.ExtraToken token) = extra_token_kind
kind_number error.DiagnosticSeverity = diagnostic_severity_kind
kind_number (error.Attribute name problem) = attribute_kind
kind_number (error.VarTemplate problem) = var_template_kind
kind_number error.OutOfMemory = out_of_memory_kind

-- the texts that say what is wrong
abbrev pub kind_texts : ErrorKind → List (List ℕ)
kind_texts error.InvalidToken = []
kind_texts (error.ReservedWord word) = string_bytes word ∷ []
kind_texts (error.UnexpectedToken token expected) = string_bytes token ∷ []
kind_texts (error.UnexpectedEof expected) = []
kind_texts (error.ExtraToken token) = string_bytes token ∷ []
kind_texts error.DiagnosticSeverity = []
kind_texts (error.Attribute name problem) = name.now ∷ (problem.now ∷ [])
kind_texts (error.VarTemplate problem) = problem.now ∷ []
kind_texts error.OutOfMemory = []

-- the texts that say what was expected
abbrev pub expected_texts : ErrorKind → List (List ℕ)
expected_texts (error.UnexpectedToken token expected) = map string_bytes expected.items
expected_texts (error.UnexpectedEof expected) = map string_bytes expected.items
expected_texts _ = []

-- a kind at a place
abbrev pub fault_at : ErrorKind → plain.Span → plain.Fault
fault_at kind span = record { kind = kind_number kind; texts = kind_texts kind; span = span }

-- an error, what was expected left out
abbrev pub fault_view : Error → plain.Fault
fault_view e = fault_at e.error (span_view e.span)

-- a fault of a token list at a place
abbrev pub parse_error_fault : ParseError → plain.Span → plain.Fault
parse_error_fault e span = fault_at (error_kind_of e) span
