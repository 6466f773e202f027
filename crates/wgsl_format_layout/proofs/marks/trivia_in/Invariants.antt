use Rattle.std.proofs.Common.{◌+◌, ◌≤◌, chars, length}
use denote.Text.{Utf8}
use denote.Shadow.{shadow}
use Rattle.wgsl_format_layout.specs.Layouts.{layout_view}
use Rattle.wgsl_format_layout.proofs.TriviaScanned.{Scanned}
use Rattle.wgsl_format_layout.proofs.marks.trivia_in.Given as goal

abbrev pub invariant-pieces : goal.invariant-pieces
invariant-pieces l = record {
  text : shadow (Utf8 l.rest);
  scanned : Scanned (layout_view l.layout) (chars l.fn.text) (chars l.rest) l.trivia;
  within : l.trivia.line_ends + length l.rest ≤ length l.fn.text;
}

abbrev pub decreases-pieces : goal.decreases-pieces
decreases-pieces l = length l.rest
