use Rattle.wgsl_lexer.proofs.Endings.{found_after, always_after}
use Rattle.wgsl_lexer.proofs.ending.invalid_after.Goals as goal

pub returns-in-Some : goal.returns-in-Some
returns-in-Some c = found_after c.args.source.now c.args.place c.in-Some.text c.invalid_at.result
    c.utf8.source c.in-Some.ensures.cases c.invalid_at.ensures

pub returns-in-None : goal.returns-in-None
returns-in-None c = always_after c.args.source.now c.args.place c.utf8.source c.in-None.ensures.cases
