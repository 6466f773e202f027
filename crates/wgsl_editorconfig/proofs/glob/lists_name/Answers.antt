use Rattle.std.proofs.Common.{sym, ◌∙◌, ap, rules, lit<}
use borrow.Author.Tests.{tests}
use Rattle.std.specs.Option.{option_copied}
use Rattle.std.proofs.lemmas.Iterator.Search.{any_from_yields_List}
use Rattle.std.proofs.lemmas.Iterator.Splits.{YieldsList-from_str_split}
use Rattle.wgsl_editorconfig.specs.Globs.{is_name, lists}
use Rattle.wgsl_editorconfig.proofs.glob.lists_name.Goals as goal

pub returns-in-Some : goal.returns-in-Some
returns-in-Some c =
    any_from_yields_List is_name _ _ c.any.result c.any.ensures.ran
    (YieldsList-from_str_split 44 c.in-Some.list.now
    (lit< tt) c.split.ensures.text c.split.ensures.has_more c.split.ensures.pattern)
    (λ x b q k. search (rules, tests))
    ∙ ap (lists is_name) (ap option_copied (sym c.in-Some.is) ∙ c.list_in.ensures)
