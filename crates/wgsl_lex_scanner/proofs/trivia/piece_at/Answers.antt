use Rattle.std.proofs.Common.{sym, ◌∙◌, ap, subst, drop, slice_get, chars}
use Rattle.wgsl_lex_scanner.specs.Trivia.{BeginsWithNone}
use Rattle.wgsl_lex_scanner.proofs.Bytes.{first_ascii, no_first}
use Rattle.wgsl_lex_scanner.proofs.Pieces.{blank_byte_bound, blank_byte_is, no_comment_bound, no_piece}
use Rattle.wgsl_lex_scanner.proofs.trivia.piece_at.Goals as goal

pub returns-in_err-first-clause-value : goal.returns-in_err-first-clause-value
returns-in_err-first-clause-value c =
    let empty = no_first c.args.text.now
    (c.in_err-first.ensures.value ∙ ap (λ bs. slice_get bs 0) c.as_bytes.ensures.value) in
    rw c.from_residual.ensures (subst BeginsWithNone (sym empty) tt)

pub range_from-requires : goal.range_from-requires
range_from-requires c =
    let blank = sym c.is_blank_byte.ensures ∙ c.if-is_blank_byte.true in
    let first = c.in_ok-first.ensures.value ∙ ap (λ bs. slice_get bs 0) c.as_bytes.ensures.value in
    λ _. (first_ascii c.args.text.now c.in_ok-first.field-0.now first
    (blank_byte_bound c.in_ok-first.field-0.now blank) c.utf8.text).0

pub returns-then-is_blank_byte-clause-value : goal.returns-then-is_blank_byte-clause-value
returns-then-is_blank_byte-clause-value c =
    let blank = sym c.is_blank_byte.ensures ∙ c.if-is_blank_byte.true in
    let first = c.in_ok-first.ensures.value ∙ ap (λ bs. slice_get bs 0) c.as_bytes.ensures.value in
    let parts = (first_ascii c.args.text.now c.in_ok-first.field-0.now first
    (blank_byte_bound c.in_ok-first.field-0.now blank) c.utf8.text).1 in
    (c.in_ok-first.field-0.now, rw c.range_from.ensures.value parts, blank_byte_is c.in_ok-first.field-0.now blank)

pub returns-then-begins_no_comment-clause-value : goal.returns-then-begins_no_comment-clause-value
returns-then-begins_no_comment-clause-value c =
    let other = sym c.is_blank_byte.ensures ∙ c.if-is_blank_byte.false in
    let ends = sym c.begins_no_comment.ensures ∙ c.if-begins_no_comment.true in
    let first = c.in_ok-first.ensures.value ∙ ap (λ bs. slice_get bs 0) c.as_bytes.ensures.value in
    let parts = (first_ascii c.args.text.now c.in_ok-first.field-0.now first
    (no_comment_bound c.in_ok-first.field-0.now ends) c.utf8.text).1 in
    subst BeginsWithNone (sym parts)
    (no_piece c.in_ok-first.field-0.now (chars (drop 1 c.args.text.now)) other ends)
