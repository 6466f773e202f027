use Rattle.std.proofs.Common.{rules, ℕ, ◌≡◌, ◌∙◌, ap, List, ◌++◌, codes, append_assoc}
use Rattle.std.proofs.Output.{has_written_append, has_written_of_eq}
use Rattle.std.specs.Fmt.{decimal}
use Rattle.std.specs.Str.{chars}
use Rattle.grammar.specs.Tokens.{Span}
use Rattle.wgsl_model.specs.Faults.Snippets.{line_number}
use Rattle.wgsl_span.specs.View.{span_view}
use Rattle.wgsl_error.specs.Places.{column_number, marked_line, message_in_file}
use Rattle.wgsl_error.specs.Printing.{print_message_in_file}
use Rattle.wgsl_error.proofs.in_file.MessageInFileDisplay.fmt.Goals as goal

-- the parts in the groups of the definition
regrouped : (a s l c e m n k : List ℕ)
    → (a ++ (s ++ (l ++ (s ++ (c ++ (e ++ (m ++ n))))))) ++ k ≡ a ++ s ++ l ++ s ++ c ++ e ++ m ++ n ++ k
regrouped a s l c e m n k = simp append_assoc

-- a name, a place and a message
abbrev heading : List ℕ → ℕ → ℕ → List ℕ → List ℕ
heading name line column message = name ++ (codes ":" ++ (decimal line ++ (codes ":" ++ (decimal column
    ++ (codes ": error: " ++ (message ++ codes "\n"))))))

-- what the writes give is the message in its file, if they are given its parts
written : (name message source : List ℕ) (span : Span) (line column : ℕ)
    → line ≡ line_number source span → column ≡ column_number source span
    → heading name line column message ++ marked_line source span ≡ message_in_file name message source span
written name message source span line column line_is column_is =
    ap (λ n. heading name n column message ++ marked_line source span) line_is
    ∙ ap (λ n. heading name (line_number source span) n message ++ marked_line source span) column_is
    ∙ regrouped name (codes ":") (decimal (line_number source span)) (decimal (column_number source span))
    (codes ": error: ") message (codes "\n") (marked_line source span)

pub returns-clause-writes : goal.returns-clause-writes
returns-clause-writes g c = λ plain ok.
    let it = c.args.self.now in
    let span = span_view it.span in
    let place = c.line_and_column-line in
    let one = c.writeln.ensures.writes plain (search rules) in
    let whole = has_written_append _ _ _ _ _ _ one (c.write_marked_line.ensures one.plain ok) in
    has_written_of_eq g.W.Write.write_str_gives c.args.f.now _ (print_message_in_file it) c.write_marked_line.new.f
    (written it.name.now it.message.now
    (chars it.source.now) span place.result.0 place.result.1 place.ensures.line place.ensures.column)
    whole
