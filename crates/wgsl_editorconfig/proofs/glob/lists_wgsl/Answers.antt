use Rattle.std.proofs.Common.{sym, ◌∙◌, ap, rules, lit<, ℕ, List, Bool, codes}
use borrow.Author.Tests.{tests}
use Rattle.std.specs.Option.{option_copied}
use Rattle.std.specs.Str.{bytes_eq}
use Rattle.std.proofs.lemmas.Iterator.Search.{any_from_yields_List}
use Rattle.std.proofs.lemmas.Iterator.Splits.{YieldsList-from_str_split}
use Rattle.wgsl_editorconfig.specs.Globs.{lists}
use Rattle.wgsl_editorconfig.proofs.glob.lists_wgsl.Goals as goal

pub returns-in-Some : goal.returns-in-Some
returns-in-Some c =
    let test : List ℕ → Bool = λ part. bytes_eq part (codes "wgsl") in
    any_from_yields_List test _ _ c.any.result c.any.ensures.ran
    (YieldsList-from_str_split 44 c.in-Some.list.now
    (lit< tt) c.split.ensures.text c.split.ensures.has_more c.split.ensures.pattern)
    (λ x b q k. search (rules, tests))
    ∙ ap (lists test) (ap option_copied (sym c.in-Some.is) ∙ c.list_in.ensures)
