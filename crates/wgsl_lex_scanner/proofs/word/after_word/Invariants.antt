use Rattle.std.proofs.Common.{◌≡◌, ◌≤◌, chars, length}
use denote.Text.{Utf8}
use denote.Shadow.{shadow}
use Rattle.wgsl_lex_scanner.specs.Scanning.{after_word}
use Rattle.wgsl_lex_scanner.proofs.word.after_word.Given as goal

abbrev pub invariant-loop-after : goal.invariant-loop-after
invariant-loop-after l = record {
  text : shadow (Utf8 l.rest);
  rest : after_word (chars l.rest) ≡ after_word (chars l.text);
  within : length l.rest ≤ length l.text;
}

abbrev pub decreases-loop-after : goal.decreases-loop-after
decreases-loop-after l = length l.rest
