use Rattle.wgsl_format_short.proofs.Marks.{with_mark, without_mark}
use Rattle.wgsl_format_short.proofs.source.split_mark.Goals as goal

pub returns-in-Some-clause-text : goal.returns-in-Some-clause-text
returns-in-Some-clause-text c =
    let m = with_mark c.args.source.now c.in-Some.text.now c.utf8.source c.in-Some.ensures.cases in m.rest

pub returns-in-Some-clause-width : goal.returns-in-Some-clause-width
returns-in-Some-clause-width c =
    let m = with_mark c.args.source.now c.in-Some.text.now c.utf8.source c.in-Some.ensures.cases in m.bytes

pub returns-in-None-clause-text : goal.returns-in-None-clause-text
returns-in-None-clause-text c = let m = without_mark c.args.source.now c.utf8.source c.in-None.ensures.cases in m.rest

pub returns-in-None-clause-width : goal.returns-in-None-clause-width
returns-in-None-clause-width c = let m = without_mark c.args.source.now c.utf8.source c.in-None.ensures.cases in m.bytes
