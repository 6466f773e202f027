use Rattle.std.proofs.Common.{rules}
use Rattle.wgsl_choices.proofs.Parsed.{read_some, read_none}
use Rattle.wgsl_choices.proofs.numbers.number_in.Goals as goal

pub returns-in-Ok-clause-number : goal.returns-in-Ok-clause-number
returns-in-Ok-clause-number c =
    read_some c.args.least c.args.most c.in-Ok.number c.args.text.now c.parse.result
    c.parse.ensures.value.0 (search rules)
    c.in-Ok.is c.if-least-number.true c.if-number-most.true

pub returns-in_default-3-clause-number : goal.returns-in_default-3-clause-number
returns-in_default-3-clause-number c =
    read_none c.args.least c.args.most c.in_default.field-0 c.args.text.now c.parse.result
    c.parse.ensures.value.0 (search rules)
    c.in_default.is (search (rules, c.ranges.most.fits))
