-- The place and the line of a span, as errors in files print them.
use Rattle.std.specs.Prelude.{ℕ, ◌+◌, List, ◌++◌, length, codes}
use Rattle.std.specs.Str.{encode_utf8_all}
use Rattle.std.specs.Fmt.{decimal}
use Rattle.grammar.specs.Tokens.{Span}
use Rattle.wgsl_model.specs.Faults.Snippets.{line_number, line_front, line_text, marker_line}

-- the column in which a span starts; the first column is 1
abbrev pub column_number : List ℕ → Span → ℕ
column_number source span = 1 + length (line_front source span)

-- the line in which a span starts, and the marker line below it
abbrev pub marked_line : List ℕ → Span → List ℕ
marked_line source span = encode_utf8_all (line_text source span) ++ codes "\n" ++ marker_line source span

-- a message at the start of a span in a named file: `NAME:LINE:COLUMN: error: MESSAGE`, and below
-- it the marked line
abbrev pub message_in_file : List ℕ → List ℕ → List ℕ → Span → List ℕ
message_in_file name message source span =
    name ++ codes ":" ++ decimal (line_number source span) ++ codes ":"
    ++ decimal (column_number source span) ++ codes ": error: " ++ message
    ++ codes "\n" ++ marked_line source span
