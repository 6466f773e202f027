use Rattle.wgsl_format.proofs.Sources.{has_mark, has_no_mark}
use Rattle.wgsl_format.proofs.source.split_mark.Goals as goal

pub returns-in-Some-clause-mark : goal.returns-in-Some-clause-mark
returns-in-Some-clause-mark c =
    let m = has_mark c.args.source.now c.in-Some.text.now c.utf8.source c.in-Some.ensures.cases in m.mark

pub returns-in-Some-clause-text : goal.returns-in-Some-clause-text
returns-in-Some-clause-text c =
    let m = has_mark c.args.source.now c.in-Some.text.now c.utf8.source c.in-Some.ensures.cases in m.rest

pub returns-in-Some-clause-width : goal.returns-in-Some-clause-width
returns-in-Some-clause-width c =
    let m = has_mark c.args.source.now c.in-Some.text.now c.utf8.source c.in-Some.ensures.cases in m.bytes

pub returns-in-None-clause-mark : goal.returns-in-None-clause-mark
returns-in-None-clause-mark c = let m = has_no_mark c.args.source.now c.utf8.source c.in-None.ensures.cases in m.mark

pub returns-in-None-clause-text : goal.returns-in-None-clause-text
returns-in-None-clause-text c = let m = has_no_mark c.args.source.now c.utf8.source c.in-None.ensures.cases in m.rest

pub returns-in-None-clause-width : goal.returns-in-None-clause-width
returns-in-None-clause-width c = let m = has_no_mark c.args.source.now c.utf8.source c.in-None.ensures.cases in m.bytes
