use Rattle.std.proofs.Common.{◌≡◌, length}
use Rattle.wgsl_lexer.specs.TextTokens.{tokens_left, ending_left}
use Rattle.wgsl_buffers.proofs.Written.{Written}
use Rattle.wgsl_buffers.proofs.tokens.fill.Given as goal

abbrev pub invariant-tokens : goal.invariant-tokens
invariant-tokens l = record {
  ending : ending_left l.left ≡ ending_left l.fn.left;
  written : Written (tokens_left l.fn.left) (tokens_left l.left) l.buffer l.count;
}

abbrev pub decreases-tokens : goal.decreases-tokens
decreases-tokens l = length (tokens_left l.left)
