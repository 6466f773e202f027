use Rattle.std.proofs.Common.{◌≡◌, ◌≤◌, chars, length}
use denote.Text.{Utf8}
use denote.Shadow.{shadow}
use Rattle.wgsl_lex_scanner.specs.Digits.{skip_digits}
use Rattle.wgsl_lex_scanner.proofs.digits.skip_digits.Given as goal

abbrev pub invariant-loop-c : goal.invariant-loop-c
invariant-loop-c l = record {
  text : shadow (Utf8 l.rest);
  rest : skip_digits l.radix (chars l.rest) ≡ skip_digits l.radix (chars l.text);
  within : length l.rest ≤ length l.text;
}

abbrev pub decreases-loop-c : goal.decreases-loop-c
decreases-loop-c l = length l.rest
