use Rattle.std.proofs.Common.{◌≡◌, ℕ, List, Bor, chars, sym, ap, ◌∙◌}
use Rattle.std.specs.Prelude.{codes}
use Rattle.std.proofs.lemmas.Result.{IfOk-weaker}
use Rattle.wgsl_model_tidy.specs.LaidOut.{gap_text, broken}
use Rattle.wgsl_theory_tidy.proofs.Written.{space_chars, line_chars, empty_line_chars}
use Rattle.wgsl_format_layout.specs.Gaps.{gap_view}
use Rattle.wgsl_format_layout.specs.Layouts.{layout_view}
use Rattle.wgsl_format_layout.proofs.Added.{adds_none, adds_as, break_added}
use Rattle.wgsl_format_layout.proofs.text.Text.put_gap.Goals as goal
use Rattle.wgsl_format_layout.proofs.text.Text.put_gap.Goals.{then-empty, else-empty}

pub returns-in-Closed : goal.returns-in-Closed
returns-in-Closed c = adds_as c.args.self.now c.args.self.now _ _
    (ap (λ g. gap_text (layout_view c.args.self.now.line.layout) (gap_view g)) (sym c.in-Closed.is))
    (adds_none c.args.self.now)

pub returns-in-Blank : goal.returns-in-Blank
returns-in-Blank c =
    IfOk-weaker c.put.result _ _ (λ _ p.
    adds_as c.args.self.now c.put.new.self _ _ (space_chars
    ∙ ap (λ g. gap_text (layout_view c.args.self.now.line.layout) (gap_view g)) (sym c.in-Blank.is)) p)
    c.put.ensures

pub returns-in_ok-put-in-Broken : goal.returns-in_ok-put-in-Broken
returns-in_ok-put-in-Broken c =
    let layout = layout_view c.args.self.now.line.layout in
    let depth = c.in-Broken.depth in
    let middle = c.put-in-Broken.new.self in
    let whole : gap_text layout (broken c.in-Broken.empty depth) ≡ gap_text layout
    (gap_view c.args.gap) = ap (λ g. gap_text layout (gap_view g)) (sym c.in-Broken.is) in
    IfOk-weaker c.indent.result _ _ (λ _ p.
    elim c.if-empty.branch [
      | then-empty w ↦ adds_as c.args.self.now c.indent.new.self _ _
          (ap (λ e. gap_text layout (broken e depth)) (sym w.if-empty.true) ∙ whole)
          (break_added c.args.self.now middle c.indent.new.self (codes "\n\n") depth
          (adds_as c.args.self.now middle _ _ (ap (λ (b : Bor (List ℕ)). chars b.now) w.put-is
          ∙ empty_line_chars) c.in_ok-put-in-Broken.ensures) p)
      | else-empty w ↦ adds_as c.args.self.now c.indent.new.self _ _
          (ap (λ e. gap_text layout (broken e depth)) (sym w.if-empty.false) ∙ whole)
          (break_added c.args.self.now middle c.indent.new.self (codes "\n") depth
          (adds_as c.args.self.now middle _ _ (ap (λ (b : Bor (List ℕ)). chars b.now) w.put-is
          ∙ line_chars) c.in_ok-put-in-Broken.ensures) p)
    ]) c.indent.ensures
