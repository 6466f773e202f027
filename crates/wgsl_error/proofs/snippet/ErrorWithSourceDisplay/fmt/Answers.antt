use Rattle.std.proofs.Common.{rules, ℕ, ◌≡◌, ◌∙◌, ap, List, ◌++◌, codes, append_assoc}
use Rattle.std.proofs.Output.{has_written_append, has_written_of_eq}
use Rattle.std.specs.Fmt.{decimal}
use Rattle.std.specs.Str.{chars, encode_utf8_all}
use Rattle.grammar.specs.Tokens.{Span}
use Rattle.wgsl_model.specs.Faults.Snippets.{line_number, line_text, marker_line, snippet}
use Rattle.wgsl_span.specs.View.{span_view}
use Rattle.wgsl_error.specs.Places.{column_number, marked_line}
use Rattle.wgsl_error.specs.Printing.{print_error_kind, print_error_with_source}
use Rattle.wgsl_error.proofs.snippet.ErrorWithSourceDisplay.fmt.Goals as goal

-- the parts in the groups of the definition
regrouped : (e m p l q c n t k : List ℕ) → (e ++ (m ++ (p ++ (l ++ (q ++ (c ++ n)))))) ++ (t ++ n ++ k)
    ≡ e ++ m ++ p ++ l ++ q ++ c ++ n ++ t ++ n ++ k
regrouped e m p l q c n t k = simp append_assoc

-- the message and a place
abbrev heading : List ℕ → ℕ → ℕ → List ℕ
heading message line column = codes "error: "
    ++ (message ++ (codes "\n --> line " ++ (decimal line ++ (codes ", column " ++ (decimal column ++ codes "\n")))))

-- what the writes give is the snippet, if they are given its parts
written : (message source : List ℕ) (span : Span) (line column : ℕ) → line ≡ line_number source span
    → column ≡ column_number source span
    → heading message line column ++ marked_line source span ≡ snippet message source span
written message source span line column line_is column_is =
    ap (λ n. heading message n column ++ marked_line source span) line_is
    ∙ ap (λ n. heading message (line_number source span) n ++ marked_line source span) column_is
    ∙ regrouped (codes "error: ") message (codes "\n --> line ") (decimal (line_number source span))
    (codes ", column ") (decimal (column_number source span)) (codes "\n")
    (encode_utf8_all (line_text source span)) (marker_line source span)

pub returns-clause-writes : goal.returns-clause-writes
returns-clause-writes g c = λ plain ok.
    let e = c.args.self.now in
    let message = print_error_kind e.error.error in
    let span = span_view e.error.span in
    let place = c.line_and_column-line in
    let one = c.writeln.ensures.writes plain (search rules) in
    let whole = has_written_append _ _ _ _ _ _ one (c.write_marked_line.ensures one.plain ok) in
    has_written_of_eq g.W.Write.write_str_gives c.args.f.now _ (print_error_with_source e) c.write_marked_line.new.f
    (written message (chars c.as_str-source.result.now) span place.result.0 place.result.1
    place.ensures.line place.ensures.column
    ∙ ap (λ bs. snippet message (chars bs) span) c.as_str-source.ensures.value)
    whole
