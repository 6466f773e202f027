use Rattle.std.proofs.Common.{suc, ◌+◌, ◌&&◌, false, cond, nat_lt, refl, sym, ap, ◌∙◌, arith}
use Rattle.std.proofs.lemmas.Bool.{false≢true}
use Rattle.wgsl_model_tidy.specs.Ahead.{keeps_rows}
use Rattle.wgsl_format_layout.specs.Layouts.{layout_view}
use Rattle.wgsl_format_layout.proofs.Following.{below_close, close_within}
use Rattle.wgsl_format_layout.proofs.RowWalks.{rows_first, rows_same, rows_begin, rows_fail, rows_go_on, rows_end, one_most, row_before}
use Rattle.wgsl_format_layout.proofs.ahead.keeps_rows.Goals as goal
use Rattle.wgsl_format_layout.proofs.ahead.keeps_rows.Goals.{then-begins_line+else-not-row_fits, else-begins_line}

pub tokens-init : goal.tokens-init
tokens-init c = (
  omega arith,
  λ e. absurd (false≢true (sym c.new-row.ensures.several ∙ e)),
  λ before n t ts f o.
      let place = c.args.opening + 1 in
      rows_same (layout_view c.args.layout)
      (suc n) c.args.column _ c.args.tokens.now _ 0 place false place 0 c.new-row.result.first
      c.new-row.result.has_several refl c.new-row.ensures.first c.new-row.ensures.several
      (rows_first _ (layout_view c.args.layout) c.args.column before c.args.opening place c.args.tokens.now n t ts
      c.requires.opening f o (omega arith)),
)

pub returns-then-not-row_fits : goal.returns-then-not-row_fits
returns-then-not-row_fits c = λ before n t ts f o.
    let r = c.tokens.invariant.2 before n t ts f o in
    rows_fail _ (layout_view c.args.layout) (suc n) c.args.column _ c.args.tokens.now _ c.tokens.rows c.tokens.row.first
    c.tokens.row.has_several c.tokens.place
    (below_close _ _ _ c.tokens-test.true
    (close_within _ c.args.tokens.now c.args.opening c.requires.closed c.requires.opening))
    c.tokens-test.true (sym c.begins_line.ensures ∙ c.if-begins_line.true) r
    (sym (c.row_fits.ensures r.start r.level r.row r.next r.row_follow r.stands) ∙ c.if-not-row_fits.true)

pub tokens-preserved : goal.tokens-preserved
tokens-preserved c = (
  elim c.if-begins_line.branch [
    | then-begins_line+else-not-row_fits w ↦
        omega (arith, c.tokens.invariant.0, w.rows-is, w.count-rows.ensures, one_most c.tokens.row.has_several)
    | else-begins_line w ↦ omega (arith, c.tokens.invariant.0, w.rows-is)
  ],
  elim c.if-begins_line.branch [
    | then-begins_line+else-not-row_fits w ↦
        λ e. absurd (false≢true
        (sym (ap (λ q. q.has_several) w.row-is ∙ w.new-row-then-begins_line.ensures.several) ∙ e))
    | else-begins_line w ↦
        row_before c.tokens.row.has_several _ c.if-begins_line.row.has_several c.tokens.row.first
        c.if-begins_line.row.first
        c.tokens.place _ c.after-place.result (ap (λ q. q.first) w.row-is ∙ w.with-row.ensures.first)
        (ap (λ q. q.has_several) w.row-is ∙ w.with-row.ensures.several) c.tokens.invariant.1
        c.tokens-test.true
        c.after-place.ensures.later
  ],
  λ before n t ts f o.
      let r = c.tokens.invariant.2 before n t ts f o in
      let h = below_close _ _ _ c.tokens-test.true
      (close_within _ c.args.tokens.now c.args.opening c.requires.closed c.requires.opening) in
      let layout = layout_view c.args.layout in
      elim c.if-begins_line.branch [
        | then-begins_line+else-not-row_fits w ↦
            rows_same layout (suc n) c.args.column _ c.args.tokens.now _
            (c.tokens.rows + w.count-rows.result) c.tokens.place false
            c.after-place.result c.if-begins_line.rows c.if-begins_line.row.first
            c.if-begins_line.row.has_several
            w.rows-is (ap (λ q. q.first) w.row-is ∙ w.new-row-then-begins_line.ensures.first)
            (ap (λ q. q.has_several) w.row-is ∙ w.new-row-then-begins_line.ensures.several)
            (rows_begin _ layout (suc n) c.args.column _ c.args.tokens.now _ c.tokens.rows
            c.tokens.row.first w.count-rows.result
            c.tokens.row.has_several c.tokens.place c.after-place.result h c.tokens-test.true
            (sym c.begins_line.ensures ∙ w.if-begins_line.true) w.count-rows.ensures c.after-place.ensures.next r
            (sym (w.row_fits.ensures r.start r.level r.row r.next r.row_follow r.stands) ∙ w.if-not-row_fits.false))
        | else-begins_line w ↦
            rows_same layout (suc n) c.args.column _ c.args.tokens.now _ c.tokens.rows
            c.tokens.row.first w.with-row.result.has_several
            c.after-place.result c.if-begins_line.rows c.if-begins_line.row.first
            c.if-begins_line.row.has_several
            w.rows-is (ap (λ q. q.first) w.row-is ∙ w.with-row.ensures.first)
            (ap (λ q. q.has_several) w.row-is)
            (rows_same layout (suc n) c.args.column _ c.args.tokens.now _ c.tokens.rows c.tokens.row.first _
            c.after-place.result c.tokens.rows c.tokens.row.first w.with-row.result.has_several refl
            refl w.with-row.ensures.several
            (rows_go_on _ layout (suc n) c.args.column _ c.args.tokens.now _ c.tokens.rows c.tokens.row.first
            c.tokens.row.has_several c.tokens.place c.after-place.result h c.tokens-test.true
            (sym c.begins_line.ensures ∙ w.if-begins_line.false) c.after-place.ensures.next r))
      ],
)

pub returns-then-row_fits : goal.returns-then-row_fits
returns-then-row_fits c = λ before n t ts f o.
    let r = c.tokens.invariant.2 before n t ts f o in
    let layout = layout_view c.args.layout in
    let e = rows_end layout (suc n) c.args.column _ c.args.tokens.now
    (keeps_rows layout (suc n) c.args.column ts) c.tokens.rows
    c.tokens.row.first c.count.result c.tokens.row.has_several c.tokens.place c.tokens-test.false c.count.ensures r in
    sym (ap (λ b. b && nat_lt 1 (c.tokens.rows + c.count.result))
    (sym (c.row_fits-2.ensures r.start r.level r.row r.next r.row_follow e.stands) ∙ c.if-row_fits.true)) ∙ e.value

pub returns-else-row_fits : goal.returns-else-row_fits
returns-else-row_fits c = λ before n t ts f o.
    let r = c.tokens.invariant.2 before n t ts f o in
    let layout = layout_view c.args.layout in
    let count = cond c.tokens.row.has_several 1 0 in
    let e = rows_end layout (suc n) c.args.column _ c.args.tokens.now
    (keeps_rows layout (suc n) c.args.column ts) c.tokens.rows
    c.tokens.row.first count c.tokens.row.has_several c.tokens.place c.tokens-test.false refl r in
    c.if-row_fits.false ∙ (sym (ap (λ b. b && nat_lt 1 (c.tokens.rows + count))
    (sym (c.row_fits-2.ensures r.start r.level r.row r.next r.row_follow e.stands) ∙ c.if-row_fits.false)) ∙ e.value)
