-- An operator of the sum is next, or a comparison, or another relation.
use Rattle.std.proofs.Common.{◌∙◌}
use Rattle.wgsl_lex_token.specs.View.{classes}
use Rattle.wgsl_lex_templates.proofs.Advancing.Operators.{in_relation, past_relation, relation_begins}
use Rattle.wgsl_lex_templates.proofs.operators.next_in_relations.Goals as goal

pub returns-in-Some-next_comparison-clause-value : goal.returns-in-Some-next_comparison-clause-value
returns-in-Some-next_comparison-clause-value c = in_relation c.args.chain c.args.is_compared c.args.sum
    (classes c.args.kinds.now) (classes c.in-Some-next_comparison.left.now)
    c.in_default.ensures.value c.in-Some-next_comparison.ensures.value

pub returns-clause-value : goal.returns-clause-value
returns-clause-value c = past_relation c.args.chain c.args.is_compared c.args.sum (classes c.args.kinds.now)
    c.in_default.ensures.value c.in_default-next_comparison.ensures.value ∙ c.in_ok-operator.ensures.value
    ∙ relation_begins c.in_ok-operator.operator (classes c.in_ok-operator.left.now)
