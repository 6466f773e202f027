-- Kinds are compared by their classes.
use Rattle.std.proofs.Common.{◌∙◌}
use Rattle.wgsl_lex_templates.proofs.Among.{among}
use Rattle.wgsl_lex_templates.proofs.next.is_among.Goals as goal

pub returns : goal.returns
returns c = c.contains.ensures.value ∙ among c.args.kind c.args.kinds.now
