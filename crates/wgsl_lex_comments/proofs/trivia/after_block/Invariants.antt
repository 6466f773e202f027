use Rattle.std.proofs.Common.{◌≡◌, ◌≤◌, ◌+◌, ℕ, chars, length}
use denote.Text.{Utf8}
use denote.Shadow.{shadow}
use Rattle.wgsl_model.specs.Tokens.Trivia.{after_trivia, in_block}
use Rattle.wgsl_theory_grammar.proofs.Tokens.Cuts.{EndsWith}
use Rattle.wgsl_lex_comments.proofs.trivia.after_block.Given as goal

abbrev pub invariant-steps : goal.invariant-steps
invariant-steps l = record {
  text : shadow (Utf8 l.rest);
  rest : (n : ℕ) → after_trivia (in_block (n + l.depth)) (chars l.rest) ≡ after_trivia (in_block n) (chars l.text);
  end : EndsWith (chars l.source) (chars l.rest);
  within : l.depth + length l.rest ≤ length l.text;
}

abbrev pub decreases-steps : goal.decreases-steps
decreases-steps l = length l.rest
