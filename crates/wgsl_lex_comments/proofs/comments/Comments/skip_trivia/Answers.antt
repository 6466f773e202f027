use Rattle.std.proofs.Common.{chars, sym, subst}
use Rattle.wgsl_model.specs.Tokens.Trivia.{after_trivia, outside}
use Rattle.wgsl_theory_grammar.proofs.Tokens.Cuts.{EndsWith, trivia-ends}
use Rattle.wgsl_lex_comments.proofs.Commented.{no_longer}
use Rattle.wgsl_lex_comments.proofs.comments.Comments.skip_trivia.Goals as goal

pub returns : goal.returns
returns c =
    let text = chars c.args.text.now in
    let rest = c.text_at.ensures (after_trivia outside text) c.in_ok-following.ensures.following in
    record {
      known = c.in_ok-keep.ensures (chars c.args.source.now) (after_trivia outside text)
          c.in_ok-following.ensures.following c.requires.known c.in_ok-following.ensures.run;
      rest = rest;
      within = no_longer c.args.text.now c.text_at.result.now c.utf8.text c.text_at.utf8
          (subst (EndsWith text) (sym rest) (trivia-ends outside text));
    }
