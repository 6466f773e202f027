use Rattle.std.proofs.Common.{sym, ◌∙◌, ap, slice_get, chars}
use Rattle.wgsl_lex_scanner.specs.Trivia.{after_line}
use Rattle.wgsl_lex_scanner.proofs.Bytes.{first_ascii, no_first}
use Rattle.wgsl_lex_scanner.proofs.Pieces.{line_byte_bound, line_byte, line_ends, no_line}
use Rattle.wgsl_lex_scanner.proofs.trivia.after_line_character.Goals as goal

pub returns-in_err-first-clause-value : goal.returns-in_err-first-clause-value
returns-in_err-first-clause-value c =
    let empty = no_first c.args.text.now
    (c.in_err-first.ensures.value ∙ ap (λ bs. slice_get bs 0) c.as_bytes.ensures.value) in
    rw (c.from_residual.ensures, empty) no_line

pub range_from-requires : goal.range_from-requires
range_from-requires c =
    let line = sym c.is_line_byte.ensures ∙ c.if-is_line_byte.true in
    let first = c.in_ok-first.ensures.value ∙ ap (λ bs. slice_get bs 0) c.as_bytes.ensures.value in
    λ _. (first_ascii c.args.text.now c.in_ok-first.field-0.now first
    (line_byte_bound c.in_ok-first.field-0.now line) c.utf8.text).0

pub returns-then-is_line_byte-clause-value : goal.returns-then-is_line_byte-clause-value
returns-then-is_line_byte-clause-value c =
    let line = sym c.is_line_byte.ensures ∙ c.if-is_line_byte.true in
    let first = c.in_ok-first.ensures.value ∙ ap (λ bs. slice_get bs 0) c.as_bytes.ensures.value in
    let parts = (first_ascii c.args.text.now c.in_ok-first.field-0.now first
    (line_byte_bound c.in_ok-first.field-0.now line) c.utf8.text).1 in
    (c.in_ok-first.field-0.now, rw c.range_from.ensures.value parts, line_byte c.in_ok-first.field-0.now line)

pub returns-then-is_line_break-clause-value : goal.returns-then-is_line_break-clause-value
returns-then-is_line_break-clause-value c =
    let parts = c.in_ok-c.ensures.parts in
    ap after_line parts ∙ line_ends c.in_ok-c.c (chars c.in_ok-c.after.now)
    (sym c.is_line_break.ensures ∙ c.if-is_line_break.true) ∙ sym parts
