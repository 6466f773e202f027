use Rattle.std.proofs.Common.{◌≡◌, ℕ, suc, ◌-◌, ◌<◌, sym, ◌∙◌, subst, take, drop, arith}
use Rattle.wgsl_model_tidy.specs.Ahead.{ends_chain, fits, at_front}
use Rattle.wgsl_format_layout.specs.Layouts.{layout_view}
use Rattle.wgsl_format_layout.proofs.LastOperands.{head_at, head_line, tail_at, opens_not_several, opens_not_fits, opens_unless}
use Rattle.wgsl_format_layout.proofs.ahead.Chain.opens_last.Goals as goal

pub returns-then-not-is_several : goal.returns-then-not-is_several
returns-then-not-is_several c = λ k n limit first depth ts f chain some at.
    let s = c.args.self in let tokens = c.args.tokens.now in
    let places = chain.places some in
    let low : first < s.last = omega arith in
    let head = head_at c.args.before first s.last k tokens ts f low c.requires.last in
    opens_not_several (layout_view c.args.layout) n limit s.weakest depth c.args.column ts
    (take (s.last - first) ts) (chain.last some)
    (head.several ∙ (sym (c.is_several.ensures head.from.before head.from.level head.token head.after head.from.follow)
    ∙ c.if-not-is_several.true))

pub returns-then-not-fits : goal.returns-then-not-fits
returns-then-not-fits c = λ k n limit first depth ts f chain some at.
    let s = c.args.self in let tokens = c.args.tokens.now in
    let places = chain.places some in
    let low : first < s.last = omega arith in
    let line_up = head_line _ c.args.before first s.last k tokens ts f low c.requires.last in
    opens_not_fits (layout_view c.args.layout) n limit s.weakest depth c.args.column ts
    (take (s.last - first) ts) (chain.last some)
    (line_up.fits (layout_view c.args.layout) c.args.column ∙ (sym c.fits.ensures ∙ c.if-not-fits.true))

pub returns : goal.returns
returns c = λ k n limit first depth ts f chain some at.
    let s = c.args.self in let tokens = c.args.tokens.now in let layout = layout_view c.args.layout in
    let places = chain.places some in
    let low : first < s.last = omega arith in
    let before_end : s.operator < s.end = omega arith in
    let head = head_at c.args.before first s.last k tokens ts f low c.requires.last in
    let line_up = head_line _ c.args.before first s.last k tokens ts f low c.requires.last in
    let tail = tail_at _ c.args.before n limit first s.operator s.end k tokens ts f places.0
    c.requires.operator chain.end before_end in
    let line = tail.line c.start.result c.line_end-end.result c.start.ensures.column c.start.ensures.breaks
    (c.line_end-end.ensures (ends_chain n limit) tail.level tail.after tail.follow tail.stands) in
    opens_unless layout n limit s.weakest depth c.args.column ts (take (s.last - first) ts)
    (drop (s.operator - suc first) ts)
    c.fits-2.result (chain.last some) (chain.operator some)
    (head.several ∙ (sym (c.is_several.ensures head.from.before head.from.level head.token head.after head.from.follow)
    ∙ c.if-not-is_several.false))
    (line_up.fits layout c.args.column ∙ (sym c.fits.ensures ∙ c.if-not-fits.false))
    (subst (λ (k : ℕ). fits layout (ends_chain n limit) k
    (at_front (drop (s.operator - suc first) ts)) ≡ c.fits-2.result)
    (sym at) (line.fits layout c.args.inner ∙ sym c.fits-2.ensures))
