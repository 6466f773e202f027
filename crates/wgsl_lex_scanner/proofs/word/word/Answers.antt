use Rattle.std.proofs.Common.{◌∙◌, sym}
use Rattle.wgsl_lex_scanner.specs.declared.word_table.Meaning.TheVariants as meaning
use Rattle.wgsl_lex_scanner.proofs.Table.{word_of-name, word_of-meant}
use Rattle.wgsl_lex_scanner.proofs.word.word.Goals as goal

pub returns-in-Some-Keyword : goal.returns-in-Some-Keyword
returns-in-Some-Keyword c =
    let found = c.in-Some-Keyword in
    word_of-meant found.field-0 (meaning.Keyword found.kind) c.args.text.now found.field-0-is
    found.ensures (sym c.eq.ensures ∙ c.if-eq.false)

pub returns-in-Some-Reserved : goal.returns-in-Some-Reserved
returns-in-Some-Reserved c =
    let found = c.in-Some-Reserved in
    word_of-meant found.field-0 (meaning.Reserved) c.args.text.now found.field-0-is found.ensures
    (sym c.eq.ensures ∙ c.if-eq.false)

pub returns-in-None : goal.returns-in-None
returns-in-None c = c.in-None.ensures ∙ word_of-name c.args.text.now (sym c.eq.ensures ∙ c.if-eq.false)
