use Rattle.std.proofs.Common.{◌≤◌, chars, length}
use denote.Text.{Utf8}
use denote.Shadow.{shadow}
use Rattle.wgsl_format_layout.proofs.BlockLines.{InFront}
use Rattle.wgsl_format_layout.proofs.block.after_spaces.Given as goal

abbrev pub invariant-characters : goal.invariant-characters
invariant-characters l = record {
  text : shadow (Utf8 l.rest);
  front : InFront (chars l.text) (chars l.rest);
  within : length l.rest ≤ length l.text;
}

abbrev pub decreases-characters : goal.decreases-characters
decreases-characters l = length l.rest
