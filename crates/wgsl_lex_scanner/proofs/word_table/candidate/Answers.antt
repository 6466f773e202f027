use Rattle.std.proofs.Common.{◌<◌, ap, ◌∙◌, length, arith}
use Rattle.wgsl_lex_scanner.specs.WordTable.{slot_of}
use Rattle.wgsl_lex_scanner.proofs.Table.{right_at, only_at}
use Rattle.wgsl_lex_scanner.proofs.word_table.candidate.Goals as goal

pub returns-clause-right : goal.returns-clause-right
returns-clause-right c =
    let low : c.place.result < length c.args.table.now = omega (arith, c.place.ensures.bound, c.requires.size) in
    right_at c.args.table.now c.place.result _ c.requires.right low

pub returns-clause-only : goal.returns-clause-only
returns-clause-only c = only_at c.args.table.now c.place.result _ c.args.word.now c.requires.whole
    (c.place.ensures.value ∙ ap slot_of c.as_bytes-bytes.ensures.value)
