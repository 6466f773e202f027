use Rattle.std.proofs.Common.{◌≡◌, chars, length}
use denote.Text.{Utf8}
use denote.Shadow.{shadow}
use Rattle.wgsl_buffers.proofs.Commented.{Commented}
use Rattle.wgsl_buffers.proofs.comments.put_comments.Given as goal

abbrev pub invariant-pieces : goal.invariant-pieces
invariant-pieces l = record {
  text : shadow (Utf8 l.rest);
  size : length l.buffer ≡ length l.fn.buffer;
  passed : Commented l.total (chars l.text) (chars l.rest) l.fn.buffer l.buffer l.fn.count l.count;
}

abbrev pub decreases-pieces : goal.decreases-pieces
decreases-pieces l = length l.rest
