use Rattle.wgsl_format.proofs.Sources.{no_line, line_ends_so}
use Rattle.wgsl_format.proofs.source.begins_crlf.Goals as goal

pub returns-in-Some : goal.returns-in-Some
returns-in-Some c = line_ends_so c.args.text.now c.in-Some.line.now c.in-Some.field-0-1.now
    c.ends_with.result c.utf8.text c.in-Some.ensures.cases c.ends_with.ensures.cases

pub returns-in-None : goal.returns-in-None
returns-in-None c = no_line c.args.text.now c.utf8.text c.in-None.ensures.cases
