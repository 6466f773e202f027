-- What is left after an expression decides.
use Rattle.std.proofs.Common.{◌∙◌, false, sym, ap}
use Rattle.wgsl_lex_token.specs.View.{classes}
use Rattle.wgsl_lex_templates.proofs.Advancing.Rules.{is_whole}
use Rattle.wgsl_lex_templates.proofs.Advancing.Operands.{no_kinds, none_left, some_left}
use Rattle.wgsl_lex_templates.proofs.Advancing.Decided.{one_by}
use Rattle.wgsl_lex_templates.proofs.expression_list.is_expression.Goals as goal

pub returns-in-Some : goal.returns-in-Some
returns-in-Some c ts e =
    let left = some_left c.in_ok-first.first c.in-Some.left _ c.in-Some.is c.in_ok-first.ensures in
    one_by (classes c.args.kinds.now) ts c.is_empty.result e
    (ap is_whole left ∙ (no_kinds c.in-Some.left.now ∙ sym c.is_empty.ensures))

pub returns-in-None : goal.returns-in-None
returns-in-None c ts e = one_by (classes c.args.kinds.now) ts false e
    (ap is_whole (none_left c.in_ok-first.first _ c.in-None.is c.in_ok-first.ensures))
