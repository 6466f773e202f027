-- The next token is of none of the kinds before.
use Rattle.std.proofs.Common.{◌≡◌, drop}
use Rattle.grammar.specs.States.{take_any}
use Rattle.wgsl_lex_token.specs.View.{classes}
use Rattle.wgsl_read_cursor.specs.Reading.{state}
use Rattle.wgsl_read_dialect.proofs.accept.take_any.Given as goal

abbrev pub invariant-loop-kind : goal.invariant-loop-kind
invariant-loop-kind l =
    record {
      same : state l.tokens ≡ state l.fn.tokens;
      left : take_any (classes (drop l.kind-index l.kinds)) (state l.fn.tokens)
          ≡ take_any (classes l.kinds) (state l.fn.tokens);
    }
