use Rattle.std.proofs.Common.{◌||◌, refl, sym, ap, ◌∙◌}
use Rattle.wgsl_model_tidy.specs.Ahead.{fits, never, at_front}
use Rattle.wgsl_format_layout.specs.Layouts.{layout_view}
use Rattle.wgsl_format_layout.proofs.LineEnds.{not_false}
use Rattle.wgsl_format_layout.proofs.Rows.{row_line}
use Rattle.wgsl_format_layout.proofs.ahead.row_fits.Goals as goal

pub returns : goal.returns
returns c = λ before n us vs f e.
    let line = row_line _ before c.start-start.result c.args.row.first c.args.end c.args.tokens.now n us vs f e
    (c.requires.first (not_false c.args.row.has_several _ refl c.if-not-row.false)) c.requires.end
    c.start-start.ensures.column c.start-start.ensures.breaks in
    c.fits.ensures ∙ (sym (line.fits (layout_view c.args.layout) c.args.column)
    ∙ sym (ap (λ b. b || fits (layout_view c.args.layout) never c.args.column (at_front us)) c.if-not-row.false))
