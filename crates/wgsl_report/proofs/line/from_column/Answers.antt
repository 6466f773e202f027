use Rattle.std.proofs.Common.{rules}
use Rattle.std.proofs.lemmas.Iterator.{YieldsList-from_chars, text_from_collect}
use Rattle.std.proofs.lemmas.Iterator.Adapters.{YieldsList-from_skip}
use Rattle.wgsl_report.proofs.line.from_column.Goals as goal

pub returns : goal.returns
returns c = text_from_collect _ c.collect.ensures.ran
    (YieldsList-from_skip _ (YieldsList-from_chars c.args.text.now (search rules) cc) c.skip.ensures.count)
