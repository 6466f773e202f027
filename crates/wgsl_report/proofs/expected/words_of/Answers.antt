use Rattle.std.proofs.Common.{◌∙◌, ap, ◌++◌, map, string_bytes}
use Rattle.std.specs.List.{filter}
use Rattle.wgsl_model.specs.Faults.Kinds.{quoted}
use Rattle.wgsl_report.specs.Faults.{is_literal, is_other_class, is_spelling, literal_if}
use Rattle.wgsl_report.proofs.Words.{any_items}
use Rattle.wgsl_report.proofs.expected.words_of.Goals as goal

pub returns : goal.returns
returns c =
    let texts = map string_bytes c.args.expected.now in
    c.in_ok-push_spellings.ensures
    ∙ ap (λ ws. ws ++ map quoted (filter is_spelling texts)) (c.in_ok-push_classes.ensures
    ∙ ap (λ ws. ws ++ filter is_other_class texts) (c.in_ok-words.ensures
    ∙ ap literal_if (any_items is_literal string_bytes c.args.expected.now)))
