-- Where no expression is at the front there is no list; each item takes a token.
use Rattle.std.proofs.Common.{rules, arith}
use Rattle.wgsl_lex_token.specs.View.{classes}
use Rattle.wgsl_lex_templates.proofs.Advancing.Rules.{whole_list_at}
use Rattle.wgsl_lex_templates.proofs.Advancing.Operands.{expression_shortens, some_left, whole_list_is}
use Rattle.wgsl_lex_templates.proofs.Advancing.Decided.{refused}
use Rattle.wgsl_lex_templates.proofs.expression_list.is_expression_list.Goals as goal

pub returns-in_default : goal.returns-in_default
unfolding whole_list_at
returns-in_default c = λ ts e. refused (classes c.args.kinds.now) ts e
    (let whole = whole_list_is (classes c.args.kinds.now) in search rules)

pub items-smaller : goal.items-smaller
items-smaller c =
    let next = classes c.in-Some-take.next.now in
    let left = some_left c.in_ok-item.item c.in-Some-item.following _ c.in-Some-item.is c.in_ok-item.ensures in
    omega (arith, expression_shortens next (classes c.in-Some-item.following.now) left, c.in-Some-take.ensures.shorter)
