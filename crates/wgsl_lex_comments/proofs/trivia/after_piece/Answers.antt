use Rattle.std.proofs.Common.{rules, [], ◌∷◌, chars, subst}
use Rattle.wgsl_theory_grammar.proofs.Tokens.Widths.{past}
use Rattle.wgsl_lex_scanner.specs.Trivia.{BeginsWith}
use Rattle.wgsl_lex_comments.proofs.Commented.{leaves_blank, leaves_line, leaves_block, narrower}
use Rattle.wgsl_lex_comments.proofs.trivia.after_piece.Goals as goal

pub returns-in-Blank-clause-leaves : goal.returns-in-Blank-clause-leaves
returns-in-Blank-clause-leaves c text begins =
    let blank = subst (BeginsWith text) c.in-Blank.is begins in
    leaves_blank blank.0 text (chars c.in-Blank.after.now) blank.1 blank.2

pub returns-in-Blank-clause-shorter : goal.returns-in-Blank-clause-shorter
returns-in-Blank-clause-shorter c text begins =
    let blank = subst (BeginsWith text) c.in-Blank.is begins in
    past text (chars c.in-Blank.after.now) (blank.0, [], blank.1)

pub returns-in-LineComment-clause-leaves : goal.returns-in-LineComment-clause-leaves
returns-in-LineComment-clause-leaves c text begins =
    leaves_line text (chars c.in-LineComment.body.now) (chars c.after_line.result.now)
    (subst (BeginsWith text) c.in-LineComment.is begins) c.after_line.ensures.rest

pub returns-in-LineComment-clause-shorter : goal.returns-in-LineComment-clause-shorter
returns-in-LineComment-clause-shorter c text begins =
    narrower text c.in-LineComment.body.now c.after_line.result.now (search rules) c.after_line.utf8
    (47, 47 ∷ [], subst (BeginsWith text) c.in-LineComment.is begins) c.after_line.ensures.within

pub returns-in-BlockComment-clause-leaves : goal.returns-in-BlockComment-clause-leaves
returns-in-BlockComment-clause-leaves c text begins =
    leaves_block text (chars c.in-BlockComment.body.now) (chars c.after_block.result.now)
    (subst (BeginsWith text) c.in-BlockComment.is begins) c.after_block.ensures.rest

pub returns-in-BlockComment-clause-shorter : goal.returns-in-BlockComment-clause-shorter
returns-in-BlockComment-clause-shorter c text begins =
    narrower text c.in-BlockComment.body.now c.after_block.result.now (search rules) c.after_block.utf8
    (47, 42 ∷ [], subst (BeginsWith text) c.in-BlockComment.is begins) c.after_block.ensures.within
