use Rattle.std.proofs.Common.{◌≡◌, chars, length}
use Rattle.wgsl_lexer.specs.TextTokens.{tokens_left, ending_left}
use Rattle.wgsl_format_layout.specs.Left.{AreLeftFrom}
use Rattle.wgsl_buffers.proofs.Commented.{Listed}
use Rattle.wgsl_buffers.proofs.comments.fill.Given as goal

abbrev pub invariant-tokens : goal.invariant-tokens
invariant-tokens l = record {
  left : AreLeftFrom l.source l.at (tokens_left l.left);
  ending : ending_left l.left ≡ ending_left l.fn.left;
  size : length l.buffer ≡ length l.fn.buffer;
  listed : Listed (chars l.source) l.at (tokens_left l.fn.left) (tokens_left l.left) l.buffer l.count;
}

abbrev pub decreases-tokens : goal.decreases-tokens
decreases-tokens l = length (tokens_left l.left)
