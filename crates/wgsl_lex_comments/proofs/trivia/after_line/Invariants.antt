use Rattle.std.proofs.Common.{◌≡◌, ◌≤◌, chars, length}
use denote.Text.{Utf8}
use denote.Shadow.{shadow}
use Rattle.wgsl_model.specs.Tokens.Trivia.{after_trivia, in_line}
use Rattle.wgsl_theory_grammar.proofs.Tokens.Cuts.{EndsWith}
use Rattle.wgsl_lex_comments.proofs.trivia.after_line.Given as goal

abbrev pub invariant-loop-after : goal.invariant-loop-after
invariant-loop-after l = record {
  text : shadow (Utf8 l.rest);
  rest : after_trivia in_line (chars l.rest) ≡ after_trivia in_line (chars l.text);
  end : EndsWith (chars l.source) (chars l.rest);
  within : length l.rest ≤ length l.text;
}

abbrev pub decreases-loop-after : goal.decreases-loop-after
decreases-loop-after l = length l.rest
