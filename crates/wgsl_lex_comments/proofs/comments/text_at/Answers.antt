use Rattle.std.proofs.Common.{chars, ap, ◌∙◌}
use Rattle.wgsl_lex_comments.proofs.Commented.{text_cut}
use Rattle.wgsl_lex_comments.proofs.comments.text_at.Goals as goal

pub range_from-requires : goal.range_from-requires
range_from-requires c = λ _. (text_cut c.args.source.now c.args.place c.requires.0 c.utf8.source c.requires.1).0

pub returns : goal.returns
returns c text at = ap chars c.range_from.ensures.value
    ∙ (text_cut c.args.source.now c.args.place text c.utf8.source at).1
