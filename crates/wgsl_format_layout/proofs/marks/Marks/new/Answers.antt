use Rattle.wgsl_lexer.specs.TextTokens.{tokens_left, ending_left}
use Rattle.wgsl_format_layout.proofs.TokensCut.{all_left}
use Rattle.wgsl_format_layout.proofs.marks.Marks.new.Goals as goal

pub returns-clause-left : goal.returns-clause-left
returns-clause-left c = all_left c.args.source.now (tokens_left c.args.left) (ending_left c.args.left) c.requires
