use Rattle.std.proofs.Common.{false, chars, length}
use denote.Text.{Utf8}
use denote.Shadow.{shadow}
use Rattle.wgsl_model_tidy.specs.Shown.{without_returns, with_front}
use Rattle.wgsl_format_layout.proofs.BlockLines.{Written, front_at}
use Rattle.wgsl_format_layout.proofs.text.Text.put_moved_lines.Given as goal

abbrev pub invariant-lines : goal.invariant-lines
invariant-lines l = record {
  text : shadow (Utf8 l.rest);
  written : Written l.fn.self
      (with_front (front_at l.fn.self l.depth) false (without_returns (chars l.text)))
      (with_front (front_at l.fn.self l.depth) false (without_returns (chars l.rest))) l.self;
}

abbrev pub decreases-lines : goal.decreases-lines
decreases-lines l = length l.rest
