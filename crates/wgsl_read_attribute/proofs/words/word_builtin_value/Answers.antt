use Rattle.std.proofs.Common.{rules, ap, ◌∙◌, option_map}
use Rattle.wgsl_tree_words.specs.View.{builtin_value_view}
use Rattle.wgsl_tree_expression.specs.View.{expression_node_view}
use Rattle.wgsl_read_attribute.proofs.UntemplatedNames.{builtin_value_named}
use Rattle.wgsl_read_attribute.proofs.words.word_builtin_value.Goals as goal

pub returns : goal.returns
returns c = ap (option_map builtin_value_view) c.ok.ensures.value
    ∙ builtin_value_named (expression_node_view c.args.expression) c.in_ok-name_alone.field-0
    (search rules) c.from_str.result (search rules)
