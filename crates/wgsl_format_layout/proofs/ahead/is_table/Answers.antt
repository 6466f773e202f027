use Rattle.std.proofs.Common.{◌≡◌, ℕ, suc, ◌+◌, ◌-◌, ◌≤◌, cond, drop, sym, ap, ap₂, ◌∙◌, arith}
use Rattle.wgsl_model_tidy.specs.Ahead.{content}
use Rattle.wgsl_format_layout.proofs.Contents.{is_table_from, next_at, none_left, table_fails, table_goes_on, table_ends}
use Rattle.wgsl_format_layout.proofs.ahead.is_table.Goals as goal
use Rattle.wgsl_format_layout.proofs.ahead.is_table.Goals.{then-is, else-is}

pub returns-then-not-is_plain : goal.returns-then-not-is_plain
returns-then-not-is_plain c = λ before n t ts f o.
    let at = c.tokens.place - suc c.args.opening in
    let low : suc c.args.opening ≤ c.tokens.place = omega (arith, c.tokens.invariant.0) in
    let next = next_at _ before c.args.opening c.tokens.place c.args.tokens.now n t ts
    c.requires.opening f o low c.tokens-test.true in
    sym (table_fails _ at c.tokens.commas (content (suc n) ts) next (sym c.is_plain.ensures ∙ c.if-not-is_plain.true))
    ∙ c.tokens.invariant.1 before n t ts f o

pub tokens-preserved : goal.tokens-preserved
tokens-preserved c = (
  elim c.if-is.branch [
    | then-is w ↦ omega (arith, c.tokens.invariant.0, w.commas-is)
    | else-is w ↦ omega (arith, c.tokens.invariant.0, w.commas-is)
  ],
  λ before n t ts f o.
      let at = c.tokens.place - suc c.args.opening in
      let us = content (suc n) ts in
      let low : suc c.args.opening ≤ c.tokens.place = omega (arith, c.tokens.invariant.0) in
      let later : suc at ≡ c.tokens.place + 1 - suc c.args.opening = omega arith in
      let next = next_at _ before c.args.opening c.tokens.place c.args.tokens.now n t ts
      c.requires.opening f o low c.tokens-test.true in
      let goes = table_goes_on _ at c.tokens.commas us next (sym c.is_plain.ensures ∙ c.if-not-is_plain.false) in
      let more : c.if-is.commas ≡ cond c.is.result (c.tokens.commas + 1) c.tokens.commas = elim c.if-is.branch [
        | then-is w ↦ w.commas-is
            ∙ ap (λ b. cond b (c.tokens.commas + 1) c.tokens.commas) (sym w.if-is.true)
        | else-is w ↦ w.commas-is
            ∙ ap (λ b. cond b (c.tokens.commas + 1) c.tokens.commas) (sym w.if-is.false)
      ] in
      ap₂ (λ (k j : ℕ). is_table_from k (drop j us))
      (more ∙ ap (λ b. cond b (c.tokens.commas + 1) c.tokens.commas) c.is.ensures) (sym later)
      ∙ (sym goes ∙ c.tokens.invariant.1 before n t ts f o),
)

pub returns : goal.returns
returns c = λ before n t ts f o.
    let at = c.tokens.place - suc c.args.opening in
    sym (table_ends at c.tokens.commas (content (suc n) ts)
    (none_left _ before c.args.opening c.tokens.place c.args.tokens.now n t ts c.requires.opening f
    o c.tokens-test.false))
    ∙ c.tokens.invariant.1 before n t ts f o
