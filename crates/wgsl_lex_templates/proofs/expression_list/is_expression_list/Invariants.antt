-- What holds before each turn: the rest is whole where the list is.
use Rattle.std.proofs.Common.{◌≡◌, length}
use Rattle.wgsl_lex_token.specs.View.{classes}
use Rattle.wgsl_lex_templates.proofs.Advancing.Rules.{whole_list, whole_rest}
use Rattle.wgsl_lex_templates.proofs.expression_list.is_expression_list.Given as goal

abbrev pub invariant-items : goal.invariant-items
invariant-items l =
    record {
      whole : whole_rest (classes l.left) ≡ whole_list (classes l.fn.kinds);
    }

abbrev pub decreases-items : goal.decreases-items
decreases-items l = length (classes l.left)
