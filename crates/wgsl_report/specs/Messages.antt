-- A message at a span of a file, as programs report it.
use Rattle.std.specs.Prelude.{ℕ, List, ◌++◌, codes}
use Rattle.std.specs.Fmt.{decimal}
use Rattle.grammar.specs.Tokens.{Span}
use Rattle.wgsl_model.specs.Faults.Snippets.{line_number}
use Rattle.wgsl_error.specs.Places.{column_number}
use Rattle.wgsl_report.specs.Lines.{line_shown}

-- `NAME:LINE:COLUMN: error: MESSAGE`, and below it what is shown of the line
abbrev pub reported : List ℕ → List ℕ → List ℕ → Span → List ℕ
reported name message source span = name ++ (codes ":" ++ (decimal (line_number source span) ++ (codes ":"
    ++ (decimal (column_number source span) ++ (codes ": error: " ++ (message ++ (codes "\n"
    ++ line_shown source span)))))))
