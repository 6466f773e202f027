use Rattle.std.proofs.Common.{◌≡◌, chars}
use denote.Text.{Utf8}
use denote.Shadow.{shadow}
use Rattle.wgsl_model.specs.Tokens.Places.{width}
use Rattle.wgsl_model.specs.Tokens.Trivia.{after_trivia, outside}
use Rattle.wgsl_theory_grammar.proofs.Tokens.Cuts.{EndsWith}
use Rattle.wgsl_lex_comments.specs.Comments.{AreLeft}
use Rattle.wgsl_lex_comments.proofs.comments.walk.Given as goal

abbrev pub invariant-pieces : goal.invariant-pieces
invariant-pieces l = record {
  text : shadow (Utf8 l.rest);
  rest : after_trivia outside (chars l.rest) ≡ after_trivia outside (chars l.text);
  end : EndsWith (chars l.source) (chars l.rest);
  run : AreLeft (chars l.source) (after_trivia outside (chars l.text)) l.run.items;
}

abbrev pub decreases-pieces : goal.decreases-pieces
decreases-pieces l = width (chars l.rest)
