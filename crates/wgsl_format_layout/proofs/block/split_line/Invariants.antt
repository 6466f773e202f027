use Rattle.std.proofs.Common.{◌≤◌, chars, length}
use denote.Text.{Utf8}
use denote.Shadow.{shadow}
use Rattle.wgsl_format_layout.proofs.BlockLines.{InLine}
use Rattle.wgsl_format_layout.proofs.block.split_line.Given as goal

abbrev pub invariant-characters : goal.invariant-characters
invariant-characters l = record {
  end : shadow (Utf8 l.end);
  text : shadow (Utf8 l.rest);
  line : InLine (chars l.text) (chars l.end) (chars l.rest);
  within : length l.rest ≤ length l.text;
}

abbrev pub decreases-characters : goal.decreases-characters
decreases-characters l = length l.rest
