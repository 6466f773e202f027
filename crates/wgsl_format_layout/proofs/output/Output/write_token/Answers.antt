use Rattle.std.proofs.Common.{chars, ap, subst, refl, ◌∙◌, ◌++◌}
use Rattle.wgsl_model_tidy.specs.LaidOut.{Gap, gap_text, depth_after}
use Rattle.wgsl_format_layout.specs.View.{role_view}
use Rattle.wgsl_format_layout.specs.States.{state_view}
use Rattle.wgsl_format_layout.specs.Lines.{Adds}
use Rattle.wgsl_format_layout.specs.Outputs.{layout_of}
use Rattle.wgsl_format_layout.proofs.Added.{adds_both}
use Rattle.wgsl_format_layout.proofs.Forgotten.{counted_at}
use Rattle.wgsl_format_layout.proofs.output.Output.write_token.Goals as goal

pub returns : goal.returns
returns c spot b j =
    let old = c.args.self.now in
    let right = role_view c.args.token.role in
    let gap_is = c.in_ok-gap.ensures (layout_of old) spot c.args.line_ends b
    (counted_at (state_view old.state) spot right c.breaks_before-line_ends.result c.args.line_ends b.state
    c.breaks_before-line_ends.ensures) j in
    record {
      adds = subst (λ (g : Gap). Adds old.text
          (gap_text (layout_of old) g ++ chars c.args.text.now) c.put_token.new.self)
          gap_is (adds_both old.text c.put_gap.new.self c.put_token.new.self _ _
          c.in_ok-put_gap.ensures c.in_ok-put_token.ensures);
      state = ap (λ n. record (state_view old.state) { line = n }) (c.depth_after-self.ensures
          ∙ ap (λ (g : Gap). depth_after g (state_view old.state).line) gap_is);
      last = refl;
    }
