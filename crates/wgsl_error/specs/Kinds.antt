-- Which error each fault of a token list is.
use Rattle.std.specs.Prelude.{ℕ}
use Rattle.wgsl_error.specs.declared.Error.{Error}
use Rattle.wgsl_error.specs.declared.ErrorKind.{ErrorKind}
use Rattle.wgsl_error.specs.declared.ErrorKind.TheVariants as error
use Rattle.wgsl_error.specs.declared.ParseError.{ParseError}
use Rattle.wgsl_error.specs.declared.ParseError.TheVariants as parse

-- text that begins no token is an invalid token, each other fault the kind of its name
abbrev pub error_kind_of : ParseError → ErrorKind
error_kind_of parse.LexerError = error.InvalidToken
error_kind_of (parse.ReservedWord word) = error.ReservedWord word
error_kind_of parse.DiagnosticSeverity = error.DiagnosticSeverity
error_kind_of (parse.Attribute name problem) = error.Attribute name problem
error_kind_of (parse.VarTemplate problem) = error.VarTemplate problem
error_kind_of parse.OutOfMemory = error.OutOfMemory

-- that kind, from a place up to another
abbrev pub error_at : ParseError → ℕ → ℕ → Error
error_at e start end = record { error = error_kind_of e; span = record { start = start; end = end } }
