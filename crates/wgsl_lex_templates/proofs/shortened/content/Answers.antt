-- One expression, and a list that is not one.
use Rattle.std.proofs.Common.{map}
use Rattle.grammar.proofs.Reading.Sets.{clash}
use Rattle.wgsl_lex_token.specs.View.{classes}
use Rattle.wgsl_lex_templates.specs.Advancing.{token_of_class}
use Rattle.wgsl_lex_templates.proofs.Advancing.Advances.{bare_classes}
use Rattle.wgsl_lex_templates.proofs.Readings.Replaced.{one_replaced, list_replaced}
use Rattle.wgsl_lex_templates.proofs.shortened.content.Goals as goal

pub returns-then-is_one : goal.returns-then-is_one
returns-then-is_one c =
    let cs = classes c.args.kinds.now in
    one_replaced cs ((c.in_ok-is_one.ensures (map token_of_class cs) (bare_classes cs)).0 c.if-is_one.true)

pub returns-then-is_list : goal.returns-then-is_list
returns-then-is_list c =
    let cs = classes c.args.kinds.now in
    let ts = map token_of_class cs in
    list_replaced cs ((c.in_ok-is_list.ensures ts (bare_classes cs)).0 c.if-is_list.true)
    (λ o. clash _ ((c.in_ok-is_one.ensures ts (bare_classes cs)).1 o) c.if-is_one.false)
