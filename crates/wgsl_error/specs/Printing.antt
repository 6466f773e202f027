-- The printed text of each error.
use Rattle.std.specs.Prelude.{ℕ, List, ◌++◌, codes}
use Rattle.std.specs.Fmt.{decimal}
use Rattle.std.specs.Str.{chars}
use Rattle.std.specs.Cow.{cow_str_bytes}
use Rattle.wgsl_model.specs.Faults.Kinds.{message, quoted}
use Rattle.wgsl_model.specs.Printed.Joining.{joined}
use Rattle.wgsl_model.specs.Faults.Snippets.{snippet}
use Rattle.wgsl_span.specs.View.{span_view}
use Rattle.wgsl_error.specs.declared.Error.{Error}
use Rattle.wgsl_error.specs.declared.ErrorKind.{ErrorKind}
use Rattle.wgsl_error.specs.declared.display.WithoutExpected.{WithoutExpected}
use Rattle.wgsl_error.specs.declared.in_file.ErrorInFile.{ErrorInFile}
use Rattle.wgsl_error.specs.declared.in_file.MessageInFile.{MessageInFile}
use Rattle.wgsl_error.specs.declared.snippet.ErrorWithSource.{ErrorWithSource}
use Rattle.wgsl_error.specs.declared.ErrorKind.TheVariants as error
use Rattle.wgsl_error.specs.View.{kind_number, kind_texts, expected_texts}
use Rattle.wgsl_error.specs.Places.{message_in_file}

-- the message of a kind, without what was expected
abbrev pub print_message : ErrorKind → List ℕ
print_message kind = message (kind_number kind) (kind_texts kind)

-- what was expected, with commas between
abbrev pub print_expected : List (List ℕ) → List ℕ
print_expected texts = codes ", expected " ++ quoted (joined (codes ", ") texts)

-- the message of a kind, and for an unexpected token or end what was expected
abbrev pub print_error_kind : ErrorKind → List ℕ
print_error_kind (error.UnexpectedToken token expected) =
    print_message (error.UnexpectedToken token expected)
    ++ print_expected (expected_texts (error.UnexpectedToken token expected))
print_error_kind (error.UnexpectedEof expected) = print_message (error.UnexpectedEof expected)
    ++ print_expected (expected_texts (error.UnexpectedEof expected))
print_error_kind kind = print_message kind

-- the place, then the kind
abbrev pub print_error : Error → List ℕ
print_error e = codes "chars " ++ decimal e.span.start ++ codes ".." ++ decimal e.span.end
    ++ codes ": " ++ print_error_kind e.error

-- the error that is shown without what was expected
abbrev pub shown_error : WithoutExpected → Error
shown_error shown = shown.error.now

-- the error with its source: the snippet of its message at its span
abbrev pub print_error_with_source : ErrorWithSource → List ℕ
print_error_with_source e = snippet (print_error_kind e.error.error)
    (chars (cow_str_bytes e.source)) (span_view e.error.span)

-- the error in a named file: its message without what was expected
abbrev pub print_error_in_file : ErrorInFile → List ℕ
print_error_in_file e = message_in_file e.name.now (print_message e.error.now.error)
    (chars e.source.now) (span_view e.error.now.span)

-- the message in a named file
abbrev pub print_message_in_file : MessageInFile → List ℕ
print_message_in_file it = message_in_file it.name.now it.message.now (chars it.source.now) (span_view it.span)
