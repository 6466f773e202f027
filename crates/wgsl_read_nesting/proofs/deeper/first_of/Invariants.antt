-- What holds before each turn: the first is in what is left.
use Rattle.std.proofs.Common.{◌≡◌, [], false, length}
use Rattle.wgsl_lexer.specs.TextTokens.{tokens_left}
use Rattle.wgsl_read_nesting.specs.Deeper.{first_deeper}
use Rattle.wgsl_read_nesting.proofs.deeper.first_of.Given as goal

abbrev pub invariant-tokens : goal.invariant-tokens
invariant-tokens l = first_deeper l.depth l.after_operand l.opened (tokens_left l.tokens)
    ≡ first_deeper l.depth false [] (tokens_left l.fn.tokens)

abbrev pub decreases-tokens : goal.decreases-tokens
decreases-tokens l = length (tokens_left l.tokens)
