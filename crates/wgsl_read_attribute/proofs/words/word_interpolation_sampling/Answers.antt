use Rattle.std.proofs.Common.{rules, ap, ◌∙◌, option_map}
use Rattle.wgsl_tree_words.specs.View.{interpolation_sampling_view}
use Rattle.wgsl_tree_expression.specs.View.{expression_node_view}
use Rattle.wgsl_read_attribute.proofs.UntemplatedNames.{interpolation_sampling_named}
use Rattle.wgsl_read_attribute.proofs.words.word_interpolation_sampling.Goals as goal

pub returns : goal.returns
returns c = ap (option_map interpolation_sampling_view) c.ok.ensures.value
    ∙ interpolation_sampling_named (expression_node_view c.args.expression) c.in_ok-name_alone.field-0
    (search rules) c.from_str.result (search rules)
