-- The table of words is held against the keywords and the reserved words, by computing.
use Rattle.std.proofs.Common.{◌∙◌, sym, refl}
use Rattle.wgsl_lex_scanner.specs.WordTable.{EntriesHold, HoldsAllWords, moved, slot_by}
use Rattle.wgsl_lex_scanner.proofs.Table.{empty_name, same_name}
use Rattle.wgsl_lex_scanner.proofs.word_table.listed.Goals as goal

pub returns-then-is_empty : goal.returns-then-is_empty
returns-then-is_empty c = empty_name c.args.word.now (sym c.is_empty.ensures ∙ c.if-is_empty.true)

pub candidate-meaning-requires-clause-right : goal.candidate-meaning-requires-clause-right
unfolding EntriesHold
candidate-meaning-requires-clause-right c = refl

pub candidate-meaning-requires-clause-whole : goal.candidate-meaning-requires-clause-whole
unfolding HoldsAllWords moved slot_by
candidate-meaning-requires-clause-whole c = λ d. refl

pub returns-then-eq : goal.returns-then-eq
returns-then-eq c =
    let found = c.candidate-meaning in
    same_name found.result.1 found.result.0.now c.args.word.now (sym c.eq.ensures ∙ c.if-eq.true) found.ensures.right

pub returns : goal.returns
returns c = c.candidate-meaning.ensures.only (sym c.eq.ensures ∙ c.if-eq.false)
