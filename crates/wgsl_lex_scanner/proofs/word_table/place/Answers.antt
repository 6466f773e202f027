-- The table of places is held against the number of words at each entry, by computing.
use Rattle.std.proofs.Common.{◌+◌, ◌*◌, ◌%◌, ap, slice_index, refl, arith}
use Rattle.wgsl_lex_scanner.specs.declared.word_table.TheConstants.{PLACES, WORD_COUNT}
use Rattle.wgsl_lex_scanner.specs.WordTable.{slot_by}
use Rattle.wgsl_lex_scanner.proofs.Table.{low_at}
use Rattle.wgsl_lex_scanner.proofs.word_table.place.Goals as goal

pub returns-clause-value : goal.returns-clause-value
unfolding slot_by
returns-clause-value c =
    ap (λ m. slice_index PLACES ((((m + c.args.size) + 2 * c.args.middle) + 8 * c.args.last) % 256))
    c.moved-moved.ensures

pub returns-clause-bound : goal.returns-clause-bound
returns-clause-bound c = low_at WORD_COUNT PLACES
    ((((c.moved-moved.result + c.args.size) + 2 * c.args.middle) + 8 * c.args.last) % 256) refl
    (omega arith)
