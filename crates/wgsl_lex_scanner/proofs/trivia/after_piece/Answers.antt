use Rattle.std.proofs.Common.{chars, sym, ap, subst, ◌∙◌}
use Rattle.std.proofs.lemmas.Str.{chars-nil}
use Rattle.wgsl_model.specs.Tokens.Trivia.{after_trivia, outside}
use Rattle.wgsl_lex_scanner.specs.Trivia.{BeginsWith}
use Rattle.wgsl_lex_scanner.proofs.Pieces.{over_none, over_blank, over_line, over_block}
use Rattle.wgsl_lex_scanner.proofs.trivia.after_piece.Goals as goal

pub returns-in_err-after-clause-step : goal.returns-in_err-after-clause-step
returns-in_err-after-clause-step c = rw c.from_residual.ensures
    (over_none (chars c.args.text.now) c.in_err-after.ensures.value)

pub returns-in-Blank-clause-step : goal.returns-in-Blank-clause-step
returns-in-Blank-clause-step c =
    let text = chars c.args.text.now in
    let blank = subst (BeginsWith text) c.in-Blank.is c.in_ok-after.ensures.value in
    over_blank blank.0 text (chars c.in-Blank.after.now) blank.1 blank.2

pub returns-in-LineComment-clause-step : goal.returns-in-LineComment-clause-step
returns-in-LineComment-clause-step c =
    let text = chars c.args.text.now in
    let sign = subst (BeginsWith text) c.in-LineComment.is c.in_ok-after.ensures.value in
    over_line text (chars c.in-LineComment.body.now) sign ∙ ap (after_trivia outside) (sym c.after_line.ensures.rest)

pub returns-in-BlockComment-clause-step : goal.returns-in-BlockComment-clause-step
returns-in-BlockComment-clause-step c =
    let text = chars c.args.text.now in
    let sign = subst (BeginsWith text) c.in-BlockComment.is c.in_ok-after.ensures.value in
    over_block text (chars c.in-BlockComment.body.now) c.after_block.result _ sign c.after_block.ensures.value chars-nil
    ∙ ap (λ rest. after_trivia outside (chars rest.now)) (sym c.unwrap_or.ensures)
