-- The lines of a message are those of another one with its own text.
use Rattle.std.proofs.Common.{◌≡◌, ◌∙◌, ◌+◌, ◌++◌, ℕ, List, length, drop, sym, ap, append_assoc, codes}
use Rattle.std.specs.Fmt.{decimal}
use Rattle.std.specs.Str.{encode_utf8_all}
use Rattle.std.proofs.Math.Seq.{drop-append_seam}
use Rattle.grammar.specs.Tokens.{Span}
use Rattle.wgsl_model.specs.Faults.Snippets.{snippet, line_number, line_front, line_text, marker_line}
use Rattle.wgsl_buffers.specs.Answers.{nul_terminated}

-- what follows the message
abbrev after : List ℕ → Span → List ℕ
after source span = codes "\n --> line " ++ (decimal (line_number source span) ++ (codes ", column "
    ++ (decimal (1 + length (line_front source span)) ++ (codes "\n" ++ (encode_utf8_all (line_text source span)
    ++ (codes "\n" ++ marker_line source span))))))

-- the parts in other groups
regrouped : (a m b c d e f g h i : List ℕ)
    → a ++ m ++ b ++ c ++ d ++ e ++ f ++ g ++ h ++ i ≡ a ++ (m ++ (b ++ (c ++ (d ++ (e ++ (f ++ (g ++ (h ++ i))))))))
regrouped a m b c d e f g h i = simp append_assoc

-- the lines of a message are its text and what follows it
lines_are : (message source : List ℕ) (span : Span)
    → snippet message source span ≡ codes "error: " ++ (message ++ after source span)
lines_are message source span = regrouped (codes "error: ") message (codes "\n --> line ")
    (decimal (line_number source span)) (codes ", column ") (decimal (1 + length (line_front source span)))
    (codes "\n") (encode_utf8_all (line_text source span)) (codes "\n") (marker_line source span)

-- the text of an invalid token has 20 bytes
follows : (source lines : List ℕ) (span : Span) → lines ≡ snippet (codes "invalid token") source span
    → drop 20 lines ≡ after source span
follows source lines span are =
    ap (drop 20) (are ∙ lines_are (codes "invalid token") source span
    ∙ sym (append_assoc (codes "error: ") (codes "invalid token") (after source span)))
    ∙ drop-append_seam (codes "error: " ++ codes "invalid token") (after source span)

-- what follows it also follows another message
pub other_message : (message source lines place : List ℕ) (span : Span)
    → lines ≡ snippet (codes "invalid token") source span → place ≡ drop 20 lines
    → codes "error: " ++ (message ++ (place ++ codes "\0")) ≡ nul_terminated (snippet message source span)
other_message message source lines place span are rest =
    ap (λ (p : List ℕ). codes "error: " ++ (message ++ (p ++ codes "\0"))) (rest ∙ follows source lines span are)
    ∙ regrouped_end (codes "error: ") message (after source span) (codes "\0")
    ∙ ap (λ (s : List ℕ). s ++ codes "\0") (sym (lines_are message source span))
  where
    regrouped_end : (a m r z : List ℕ) → a ++ (m ++ (r ++ z)) ≡ (a ++ (m ++ r)) ++ z
    regrouped_end a m r z = simp append_assoc
