use Rattle.std.proofs.Common.{rules, ◌∙◌, ap, ◌++◌, codes, string_bytes}
use Rattle.std.specs.List.{join_by}
use Rattle.wgsl_report.specs.Faults.{listed}
use Rattle.wgsl_report.proofs.Columns.{if_ok}
use Rattle.wgsl_report.proofs.Words.{few_items, joined_items}
use Rattle.wgsl_report.proofs.expected.expected_words.Goals as goal

pub returns-then-len-le-MOST : goal.returns-then-len-le-MOST
returns-then-len-le-MOST c =
    let words = c.in_ok-words.words.items in
    if_ok c.format.result _ _ (λ text same. same
    ∙ ap (λ t. codes ", expected " ++ t) (c.in_ok-all.ensures.ok
    ∙ ap (join_by string_bytes (codes ", ")) c.deref.ensures.value
    ∙ joined_items string_bytes (codes ", ") words)
    ∙ few_items string_bytes words (search rules) (search rules)
    ∙ ap listed c.in_ok-words.ensures) c.format.ensures.ok
