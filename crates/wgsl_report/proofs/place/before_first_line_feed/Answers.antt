use Rattle.wgsl_error.proofs.Lines.{line_back_none, line_back_at}
use Rattle.wgsl_report.proofs.place.before_first_line_feed.Goals as goal

pub returns-in-Some : goal.returns-in-Some
returns-in-Some c = line_back_at c.args.text.now c.in-Some.line.now c.in-Some.field-0-1.now
    c.utf8.text c.in-Some.ensures.cases

pub returns-in-None : goal.returns-in-None
returns-in-None c = line_back_none c.args.text.now c.utf8.text c.in-None.ensures.cases
