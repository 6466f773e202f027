use Rattle.wgsl_lexer.proofs.After.{found_after}
use Rattle.wgsl_lexer.proofs.text_tokens.TextTokens.go_on.Goals as goal

pub returns-in-Found-clause-left : goal.returns-in-Found-clause-left
returns-in-Found-clause-left c = (found_after c.args.self.now c.found-self.new.self
    c.found-self.result c.found-self.ensures.value c.found-self.ensures.some).0

pub returns-in-Found-clause-ending : goal.returns-in-Found-clause-ending
returns-in-Found-clause-ending c = (found_after c.args.self.now c.found-self.new.self
    c.found-self.result c.found-self.ensures.value c.found-self.ensures.some).1
