use Rattle.std.proofs.Common.{cond, Bool, sym, ap, ◌∙◌}
use Rattle.wgsl_model_tidy.specs.Open.{together, as_written, filled, item_by_item, parted_at}
use Rattle.wgsl_model_tidy.specs.LaidOut.{line_column}
use Rattle.wgsl_format_layout.specs.Outputs.{layout_of}
use Rattle.wgsl_format_layout.proofs.Broken.{bracket_opens, style_chosen, style_filled}
use Rattle.wgsl_format_layout.proofs.output.Output.style_of.Goals as goal

pub returns-then-is_filled : goal.returns-then-is_filled
returns-then-is_filled c n t ts p h =
    let old = c.args.self.now in
    style_filled (layout_of old) n (parted_at old.state.operands) c.args.depth old.text.line.column ts
    c.is_broken-is_broken.result (c.is_broken-is_broken.ensures n t ts p h)
    (sym c.if-is_filled.true ∙ c.is_filled.ensures p.before n t ts p.here (bracket_opens t.role h))

pub returns-then-keeps_rows : goal.returns-then-keeps_rows
returns-then-keeps_rows c n t ts p h =
    let old = c.args.self.now in
    let opens = bracket_opens t.role h in
    sym (style_chosen (layout_of old) n (parted_at old.state.operands) c.args.depth old.text.line.column
    c.in_ok-column.column ts c.is_broken-is_broken.result c.is_filled.result c.keeps_rows.result
    (c.is_broken-is_broken.ensures n t ts p h) (c.is_filled.ensures p.before n t ts p.here opens)
    (c.in_ok-column.ensures ∙ ap (line_column (layout_of old)) c.in_ok-deeper.ensures)
    (c.keeps_rows.ensures p.before n t ts p.here opens)
    ∙ ap (λ (b : Bool). cond b filled (cond c.keeps_rows.result as_written
    (cond c.is_broken-is_broken.result item_by_item together))) c.if-is_filled.false
    ∙ ap (λ (b : Bool). cond b as_written (cond c.is_broken-is_broken.result item_by_item together))
    c.if-keeps_rows.true)

pub returns-then-is_broken : goal.returns-then-is_broken
returns-then-is_broken c n t ts p h =
    let old = c.args.self.now in
    let opens = bracket_opens t.role h in
    sym (style_chosen (layout_of old) n (parted_at old.state.operands) c.args.depth old.text.line.column
    c.in_ok-column.column ts c.is_broken-is_broken.result c.is_filled.result c.keeps_rows.result
    (c.is_broken-is_broken.ensures n t ts p h) (c.is_filled.ensures p.before n t ts p.here opens)
    (c.in_ok-column.ensures ∙ ap (line_column (layout_of old)) c.in_ok-deeper.ensures)
    (c.keeps_rows.ensures p.before n t ts p.here opens)
    ∙ ap (λ (b : Bool). cond b filled (cond c.keeps_rows.result as_written
    (cond c.is_broken-is_broken.result item_by_item together))) c.if-is_filled.false
    ∙ ap (λ (b : Bool). cond b as_written (cond c.is_broken-is_broken.result item_by_item together))
    c.if-keeps_rows.false
    ∙ ap (λ (b : Bool). cond b item_by_item together) c.if-is_broken.true)

pub returns-else-is_broken : goal.returns-else-is_broken
returns-else-is_broken c n t ts p h =
    let old = c.args.self.now in
    let opens = bracket_opens t.role h in
    sym (style_chosen (layout_of old) n (parted_at old.state.operands) c.args.depth old.text.line.column
    c.in_ok-column.column ts c.is_broken-is_broken.result c.is_filled.result c.keeps_rows.result
    (c.is_broken-is_broken.ensures n t ts p h) (c.is_filled.ensures p.before n t ts p.here opens)
    (c.in_ok-column.ensures ∙ ap (line_column (layout_of old)) c.in_ok-deeper.ensures)
    (c.keeps_rows.ensures p.before n t ts p.here opens)
    ∙ ap (λ (b : Bool). cond b filled (cond c.keeps_rows.result as_written
    (cond c.is_broken-is_broken.result item_by_item together))) c.if-is_filled.false
    ∙ ap (λ (b : Bool). cond b as_written (cond c.is_broken-is_broken.result item_by_item together))
    c.if-keeps_rows.false
    ∙ ap (λ (b : Bool). cond b item_by_item together) c.if-is_broken.false)
