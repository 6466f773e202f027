use Rattle.std.proofs.Common.{rules, lit<, None}
use borrow.Author.Tests.{tests}
use Rattle.std.specs.Option.{option_or}
use Rattle.std.proofs.lemmas.Iterator.Consumers.{fold_from_yields_List}
use Rattle.std.proofs.lemmas.Iterator.Splits.{YieldsList-from_str_split}
use Rattle.wgsl_server_protocol.specs.Heads.{length_of}
use Rattle.wgsl_server_protocol.proofs.head.length_in.Goals as goal

pub returns : goal.returns
returns c =
    fold_from_yields_List _ (λ so_far field. option_or so_far (length_of field)) None
    c.fold.result c.fold.ensures.ran
    (YieldsList-from_str_split 10 c.args.head.now
    (lit< tt) c.split.ensures.text c.split.ensures.has_more c.split.ensures.pattern)
    (λ a x b q k. search (rules, tests))
