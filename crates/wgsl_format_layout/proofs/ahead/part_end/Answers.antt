use Rattle.std.proofs.Common.{◌≡◌, ◌+◌, true, false, sym, ◌∙◌, arith}
use Rattle.wgsl_model_tidy.specs.Ahead.{ends_part}
use Rattle.wgsl_format_layout.proofs.Reaching.{found_at, found_here, found_later, reaches_end, reaches_here, reaches_past, part_asks, part_closes}
use Rattle.wgsl_format_layout.proofs.ahead.part_end.Goals as goal

pub tokens-preserved : goal.tokens-preserved
tokens-preserved c = (
  λ h. c.after-place.ensures.within,
  λ before n ts start.
      let test = ends_part n c.args.limit in
      reaches_past (found_at test) (found_at test) (found_at test c.args.from ts) c.tokens.place c.after-place.result
      c.args.tokens.now n c.tokens-test.true
      (λ before t us f. let fails : test t ≡ false = sym (c.ends_part.ensures before n t us f)
      ∙ c.if-not-ends_part.true in
      found_later test c.tokens.place n t (part_asks n c.args.limit)
      (part_closes n c.args.limit t f.order.0 fails) fails)
      c.after-place.ensures.next (c.tokens.invariant.1 before n ts start),
)

pub returns-else-not-ends_part-clause-end : goal.returns-else-not-ends_part-clause-end
returns-else-not-ends_part-clause-end c = λ before n ts start.
    let test = ends_part n c.args.limit in
    reaches_here (found_at test) c.tokens.place (found_at test c.args.from ts) c.tokens.place c.args.tokens.now n
    c.tokens-test.true (λ before t us f. let passes : test t ≡ true =
    sym (c.ends_part.ensures before n t us f) ∙ c.if-not-ends_part.false in
    found_here test c.tokens.place t us passes) (c.tokens.invariant.1 before n ts start)

pub returns-after-tokens-clause-end : goal.returns-after-tokens-clause-end
returns-after-tokens-clause-end c = λ before n ts start.
    let test = ends_part n c.args.limit in
    let end : c.tokens.place ≡ c.tokens.place + 0 = omega arith in
    end ∙ reaches_end (found_at test)
    (found_at test c.args.from ts) c.tokens.place c.args.tokens.now n c.tokens-test.false
    (c.tokens.invariant.1 before n ts start)
