use Rattle.std.proofs.Common.{◌≡◌, ◌≤◌, chars, length}
use denote.Text.{Utf8}
use denote.Shadow.{shadow}
use Rattle.wgsl_lex_scanner.specs.Trivia.{after_line}
use Rattle.wgsl_lex_scanner.proofs.trivia.after_line.Given as goal

abbrev pub invariant-loop-after : goal.invariant-loop-after
invariant-loop-after l = record {
  text : shadow (Utf8 l.rest);
  rest : after_line (chars l.rest) ≡ after_line (chars l.text);
  within : length l.rest ≤ length l.text;
}

abbrev pub decreases-loop-after : goal.decreases-loop-after
decreases-loop-after l = length l.rest
