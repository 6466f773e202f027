-- What holds before each turn: the rest leaves what the whole leaves.
use Rattle.std.proofs.Common.{◌≡◌, length}
use Rattle.wgsl_model.specs.Grammar.Symbols.{Symbol.expression}
use Rattle.wgsl_theory_grammar.specs.Factored.{FactoredSymbol.of}
use Rattle.wgsl_lex_token.specs.View.{classes}
use Rattle.wgsl_lex_templates.specs.Advancing.{advances}
use Rattle.wgsl_lex_templates.specs.Expressions.{after_all, after_position}
use Rattle.wgsl_lex_templates.proofs.expression.expression.Given as goal

abbrev pub invariant-steps : goal.invariant-steps
invariant-steps l =
    record {
      whole : after_all l.opened (after_position l.position l.operators (classes l.left))
          ≡ advances (of expression) (classes l.fn.kinds);
    }

abbrev pub decreases-steps : goal.decreases-steps
decreases-steps l = length (classes l.left)
