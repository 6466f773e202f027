use Rattle.wgsl_lex_comments.proofs.Commented.{text_begins}
use Rattle.wgsl_lex_comments.proofs.comments.place.Goals as goal

pub overflow_sub-result : goal.overflow_sub-result
overflow_sub-result c = (text_begins c.args.source.now c.args.text.now c.utf8.source c.utf8.text c.requires).0

pub returns : goal.returns
returns c = (text_begins c.args.source.now c.args.text.now c.utf8.source c.utf8.text c.requires).1
