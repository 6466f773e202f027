use Rattle.std.proofs.Common.{chars, sym, ◌∙◌}
use Rattle.wgsl_lex_scanner.proofs.CharacterClasses.{no_number}
use Rattle.wgsl_lex_scanner.proofs.number.number.Goals as goal

pub returns-clause-value : goal.returns-clause-value
returns-clause-value c =
    sym (no_number c.args.c (chars c.args.text.now) (sym c.begins_number.ensures ∙ c.if-begins_number.false))
