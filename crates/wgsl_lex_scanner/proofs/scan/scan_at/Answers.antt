use Rattle.std.proofs.Common.{chars, sym, ◌∙◌}
use Rattle.wgsl_lex_scanner.proofs.Bytes.{bytes_of}
use Rattle.wgsl_lex_scanner.specs.Parts.{number_view}
use Rattle.wgsl_lex_scanner.proofs.Front.{scan_at-word}
use Rattle.wgsl_lex_scanner.proofs.Numbers.{number-read}
use Rattle.wgsl_lex_scanner.proofs.Words.{word-cut}
use Rattle.wgsl_lex_scanner.proofs.scan.scan_at.Goals as goal

pub before-requires : goal.before-requires
before-requires c = rw (c.in-Some.ensures.parts, c.after_word-after.ensures.rest)
    (word-cut c.in-Some.c (chars c.in-Some.rest.now))

pub before-requires-in-Some-number : goal.before-requires-in-Some-number
before-requires-in-Some-number c =
    let found = c.in-Some-number in
    rw c.in-Some.ensures.parts (number-read c.in-Some.c (chars c.in-Some.rest.now)
    (number_view found.number, chars found.after.now) (sym found.ensures.value)).1

pub returns-then-starts_word-clause-value : goal.returns-then-starts_word-clause-value
returns-then-starts_word-clause-value c =
    let starts = sym c.starts_word.ensures ∙ c.if-starts_word.true in
    let bytes = bytes_of c.before-then-starts_word.result.now _ c.before-then-starts_word.utf8
    c.before-then-starts_word.ensures.value in
    rw (c.word.ensures, bytes, c.in-Some.ensures.parts, c.after_word-after.ensures.rest)
    (scan_at-word c.in-Some.c (chars c.in-Some.rest.now) starts)
