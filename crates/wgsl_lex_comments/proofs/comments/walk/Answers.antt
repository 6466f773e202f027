use Rattle.std.proofs.Common.{rules, [], chars, sym, subst, ◌∙◌}
use Rattle.wgsl_theory_grammar.proofs.Tokens.Widths.{past}
use Rattle.wgsl_lex_scanner.specs.Trivia.{BeginsWith}
use Rattle.wgsl_lex_scanner.proofs.Pieces.{over_blank, over_none}
use Rattle.wgsl_lex_comments.specs.Comments.{BeginsAt}
use Rattle.wgsl_lex_comments.proofs.CommentSteps.{after_one}
use Rattle.wgsl_lex_comments.proofs.comments.walk.Goals as goal

pub pieces-smaller-in-Blank : goal.pieces-smaller-in-Blank
pieces-smaller-in-Blank c =
    let rest = chars c.pieces.rest.now in
    let blank = subst (BeginsWith rest) c.in-Blank.is c.in-Some.ensures.value in
    past rest (chars c.in-Blank.after.now) (blank.0, [], blank.1)

pub pieces-preserved-in-Blank : goal.pieces-preserved-in-Blank
pieces-preserved-in-Blank c =
    let rest = chars c.pieces.rest.now in
    let after = chars c.in-Blank.after.now in
    let blank = subst (BeginsWith rest) c.in-Blank.is c.in-Some.ensures.value in
    record {
      text = search rules;
      rest = sym (over_blank blank.0 rest after blank.1 blank.2) ∙ c.pieces.invariant.rest;
      end = after_one (chars c.args.source.now) rest after blank.0 c.pieces.invariant.end blank.1;
      run = c.pieces.invariant.run;
    }

pub returns-clause-following : goal.returns-clause-following
returns-clause-following c =
    subst (BeginsAt (chars c.args.source.now) c.place.result)
    (sym (over_none (chars c.pieces.rest.now) c.in_default.ensures.value) ∙ c.pieces.invariant.rest)
    c.place.ensures
