use Rattle.std.proofs.Common.{◌∙◌, ap, rules, lit<}
use borrow.Author.Tests.{tests}
use Rattle.std.specs.List.{fold, slice_split}
use Rattle.std.specs.Str.{trim}
use Rattle.std.proofs.lemmas.Iterator.Consumers.{fold_from_yields_List}
use Rattle.std.proofs.lemmas.Iterator.Splits.{YieldsList-from_str_split}
use Rattle.wgsl_editorconfig.specs.Lines.{line_of, is_newline}
use Rattle.wgsl_editorconfig.specs.Reading.{nothing, after}
use Rattle.wgsl_editorconfig.proofs.read.Goals as goal

pub returns : goal.returns
returns c =
    fold_from_yields_List _ (λ so_far line. after so_far (line_of (trim line))) c.nothing.result
    c.fold.result c.fold.ensures.ran
    (YieldsList-from_str_split 10 c.without_mark.result.now
    (lit< tt) c.split.ensures.text c.split.ensures.has_more c.split.ensures.pattern)
    (λ a x b q k. search (rules, tests))
    ∙ ap (λ init. fold (λ so_far line. after so_far (line_of (trim line))) init
    (slice_split is_newline c.without_mark.result.now)) c.nothing.ensures
    ∙ ap (λ text. fold (λ so_far line. after so_far (line_of (trim line))) nothing
    (slice_split is_newline text)) c.without_mark.ensures
