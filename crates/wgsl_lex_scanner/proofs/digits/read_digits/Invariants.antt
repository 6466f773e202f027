use Rattle.std.proofs.Common.{◌≡◌, ◌≤◌, ℕ, chars, length}
use denote.Text.{Utf8}
use denote.Shadow.{shadow}
use Rattle.wgsl_lex_scanner.specs.Digits.{Fits, read_digits, skip_digits}
use Rattle.wgsl_lex_scanner.proofs.digits.read_digits.Given as goal

abbrev pub invariant-loop-c : goal.invariant-loop-c
invariant-loop-c l = record {
  text : shadow (Utf8 l.rest);
  rest : skip_digits l.radix (chars l.rest) ≡ skip_digits l.radix (chars l.text);
  value : (n : ℕ) × Fits l.value n
      × (read_digits l.radix n (chars l.rest) ≡ read_digits l.radix l.first (chars l.text));
  within : length l.rest ≤ length l.text;
}

abbrev pub decreases-loop-c : goal.decreases-loop-c
decreases-loop-c l = length l.rest
