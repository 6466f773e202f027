use Rattle.std.proofs.Common.{◌+◌, ◌*◌, ◌/◌, sym, ap, ◌∙◌, arith}
use Rattle.std.proofs.lemmas.Result.{IfOk-weaker}
use Rattle.wgsl_theory_tidy.proofs.Written.{space_chars, tab_level}
use Rattle.wgsl_format_layout.specs.Layouts.{layout_view, has_tabs}
use Rattle.wgsl_format_layout.proofs.Added.{adds_none, adds_as, spaces_more, four_chars, tab_chars}
use Rattle.wgsl_format_layout.proofs.text.Text.put_level.Goals as goal

pub fours-init : goal.fours-init
fours-init c = adds_none c.args.self.now

pub fours-preserved : goal.fours-preserved
fours-preserved c =
    spaces_more c.args.self.now c.fours.self c.put-in-fours.new.self (4 * c.fours.counter) 4
    (4 * (c.fours.counter + 1)) c.fours.invariant
    (adds_as c.fours.self c.put-in-fours.new.self _ _ four_chars c.in_ok-put-in-Spaces.ensures)
    (omega arith)

pub ones-preserved : goal.ones-preserved
ones-preserved c =
    spaces_more c.args.self.now c.ones.self c.put-in-ones.new.self
    (4 * (c.in-Spaces.count / 4) + c.ones.counter) 1
    (4 * (c.in-Spaces.count / 4) + (c.ones.counter + 1)) c.ones.invariant
    (adds_as c.ones.self c.put-in-ones.new.self _ _ space_chars c.in_ok-put-in-Spaces-2.ensures)
    (omega arith)

pub returns-in-Tab : goal.returns-in-Tab
returns-in-Tab c =
    let layout = layout_view c.args.self.now.line.layout in
    IfOk-weaker c.put.result _ _ (λ _ p. adds_as c.args.self.now c.put.new.self _ _
    (tab_chars ∙ sym (tab_level layout (ap has_tabs c.in-Tab.is))) p) c.put.ensures
