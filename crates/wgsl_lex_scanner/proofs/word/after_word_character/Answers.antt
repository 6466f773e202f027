use Rattle.std.proofs.Common.{◌<◌, sym, ◌∙◌, ap, slice_get, chars, arith}
use Rattle.std.proofs.lemmas.Grind.{common_steps}
use Rattle.wgsl_lex_scanner.specs.Scanning.{after_word}
use Rattle.wgsl_lex_scanner.proofs.Bytes.{first_ascii, no_first}
use Rattle.wgsl_lex_scanner.proofs.CharacterClasses.{word_byte_bound, word_goes_on, word_ends_at, word_of_nothing}
use Rattle.wgsl_lex_scanner.proofs.word.after_word_character.Goals as goal

pub returns-in_err-first-clause-step : goal.returns-in_err-first-clause-step
returns-in_err-first-clause-step c =
    let empty = no_first c.args.text.now
    (c.in_err-first.ensures.value ∙ ap (λ bs. slice_get bs 0) c.as_bytes.ensures.value) in
    rw (c.from_residual.ensures, empty) word_of_nothing

pub range_from-requires : goal.range_from-requires
range_from-requires c =
    let word = sym c.is_word_byte.ensures ∙ c.if-is_word_byte.true in
    let first = c.in_ok-first.ensures.value ∙ ap (λ bs. slice_get bs 0) c.as_bytes.ensures.value in
    λ _. (first_ascii c.args.text.now c.in_ok-first.field-0.now first
    (word_byte_bound c.in_ok-first.field-0.now word) c.utf8.text).0

pub returns-then-is_word_byte-clause-step : goal.returns-then-is_word_byte-clause-step
returns-then-is_word_byte-clause-step c =
    let word = sym c.is_word_byte.ensures ∙ c.if-is_word_byte.true in
    let first = c.in_ok-first.ensures.value ∙ ap (λ bs. slice_get bs 0) c.as_bytes.ensures.value in
    let parts = (first_ascii c.args.text.now c.in_ok-first.field-0.now first
    (word_byte_bound c.in_ok-first.field-0.now word) c.utf8.text).1 in
    ap after_word parts ∙ word_goes_on c.in_ok-first.field-0.now _ word
    ∙ ap (λ bs. after_word (chars bs)) (sym c.range_from.ensures.value)

pub returns-then-is_ascii-clause-step : goal.returns-then-is_ascii-clause-step
returns-then-is_ascii-clause-step c =
    let other = sym c.is_word_byte.ensures ∙ c.if-is_word_byte.false in
    let low : c.in_ok-first.field-0.now < 128 = grind (arith, common_steps) in
    let first = c.in_ok-first.ensures.value ∙ ap (λ bs. slice_get bs 0) c.as_bytes.ensures.value in
    let parts = (first_ascii c.args.text.now c.in_ok-first.field-0.now first low c.utf8.text).1 in
    ap after_word parts ∙ word_ends_at c.in_ok-first.field-0.now _ low other ∙ sym parts
