use Rattle.std.proofs.Common.{◌≡◌, ◌≤◌, ◌+◌, chars, length}
use denote.Text.{Utf8}
use denote.Shadow.{shadow}
use Rattle.wgsl_lex_scanner.specs.Trivia.{after_block}
use Rattle.wgsl_lex_scanner.proofs.trivia.after_block.Given as goal

abbrev pub invariant-steps : goal.invariant-steps
invariant-steps l = record {
  text : shadow (Utf8 l.rest);
  rest : after_block l.depth (chars l.rest) ≡ after_block 0 (chars l.text);
  within : l.depth + length l.rest ≤ length l.text;
}

abbrev pub decreases-steps : goal.decreases-steps
decreases-steps l = length l.rest
