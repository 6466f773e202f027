use Rattle.std.proofs.Common.{◌≡◌, ◌++◌, chars, refl, sym, ap, ap₂, ◌∙◌}
use Rattle.std.specs.Prelude.{codes, string_bytes}
use Rattle.std.proofs.lemmas.Bool.{true≢false}
use Rattle.wgsl_model_tidy.specs.Shown.{shown as shown_piece}
use Rattle.wgsl_model_tidy.specs.Layout.{column_after}
use Rattle.wgsl_model_tidy.specs.Open.{LayoutState}
use Rattle.wgsl_model_tidy.specs.LaidOut.{Last, gap_text, indentation, leads, comment_last, depth_after, is_at_front, is_token}
use Rattle.wgsl_theory_tidy.proofs.Comments.{piece}
use Rattle.wgsl_theory_tidy.proofs.Laid.{after_comment_at, comment_written}
use Rattle.wgsl_format_layout.specs.View.{role_view}
use Rattle.wgsl_format_layout.specs.Gaps.{gap_view, last_view, comment_class}
use Rattle.wgsl_format_layout.specs.Layouts.{layout_view}
use Rattle.wgsl_format_layout.specs.States.{state_view}
use Rattle.wgsl_format_layout.specs.declared.layout.Layout.{Layout}
use Rattle.wgsl_format_layout.proofs.BlockLines.{comment_added}
use Rattle.wgsl_format_layout.proofs.CommentKinds.{classed}
use Rattle.wgsl_format_layout.proofs.CommentsWritten.{comment_is_no_token}
use Rattle.wgsl_format_layout.proofs.Forgotten.{counted_at}
use Rattle.wgsl_format_layout.proofs.output.Output.write_comment.Goals as goal

pub returns : goal.returns
returns c spot ps b e i =
    let old = c.args.self.now in
    let layout = layout_view old.text.line.layout in
    let new = c.put_comment.new.self in
    let right = role_view c.args.right in
    let gap = gap_view c.in_ok-gap.gap in
    let class = comment_class c.args.comment.kind in
    let source = chars c.args.comment.text.now in
    let depth = c.depth_after-depth.result in
    let front = c.is_at_front-at_front.result in
    let text = shown_piece (indentation layout depth ++ codes " ") front (piece class source 0) in
    let last = last_view c.comment_last-self.result in
    let line : (state_view old.state).line ≡ spot.state.line = ap (λ (s : LayoutState). s.line) b.state in
    let left : (state_view old.state).last ≡ spot.state.last = ap (λ (s : LayoutState). s.last) b.state in
    let depth_is : depth ≡ depth_after gap spot.state.line = c.depth_after-depth.ensures ∙ ap (depth_after gap) line in
    let front_is : front ≡ is_at_front gap spot.last spot.state.last = c.is_at_front-at_front.ensures
    ∙ ap₂ (λ (l : Last) r. is_at_front gap l r) b.last left in
    let last_is : last ≡ comment_last class (leads gap spot.last spot.state.last) = c.comment_last-self.ensures
    ∙ ap₂ (λ (l : Last) r. comment_last class (leads gap l r)) b.last left in
    let more = comment_added old.text c.put_gap.new.self new gap depth front class source
    c.in_ok-put_gap.ensures c.in_ok-put_comment.ensures in
    let gap_is = c.in_ok-gap.ensures spot c.args.line_ends b (counted_at (state_view old.state) spot right
    c.breaks_before-line_ends.result c.args.line_ends b.state c.breaks_before-line_ends.ensures) in
    let column : new.line.column ≡ column_after layout spot.column (gap_text layout gap ++ text) = more.line.column
    ∙ ap (λ n. column_after layout n (gap_text layout gap ++ text)) b.column in (
      after_comment_at spot depth last new.line.column,
      record {
        is_before = record {
          state = ap (λ (s : LayoutState). record s { line = depth }) b.state;
          last = refl;
          column = refl;
        };
        state = refl;
        ahead = refl;
        none = λ h. absurd (true≢false (sym h ∙ ap is_token last_is
            ∙ comment_is_no_token class (leads gap spot.last spot.state.last)));
        layout = more.line.layout;
        laid = comment_written layout class (classed c.args.comment.kind) spot right c.args.owned
            (chars (string_bytes old.text.string)) source text _ _ c.args.line_ends depth new.line.column gap last ps
            e i gap_is
            (ap₂ (λ d b. shown_piece (indentation layout d ++ codes " ") b (piece class source 0)) depth_is front_is)
            c.in_ok-put_gap.ensures.written (c.in_ok-put_comment.ensures.written
            ∙ ap (λ (l : Layout). chars (string_bytes c.put_gap.new.self.string)
            ++ shown_piece (indentation (layout_view l) depth ++ codes " ") front (piece class source 0))
            c.in_ok-put_gap.ensures.line.layout) depth_is last_is column;
      },
    )
