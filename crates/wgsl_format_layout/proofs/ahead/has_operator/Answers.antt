use Rattle.std.proofs.Common.{◌||◌, true, false, sym, ap, ◌∙◌}
use Rattle.wgsl_model_tidy.specs.Ahead.{ends_chain}
use Rattle.wgsl_format_layout.proofs.Deeper.{any_before, any_before_end, any_before_more}
use Rattle.wgsl_format_layout.proofs.Reaching.{found_before, before_later, reaches_end, reaches_here, reaches_past, chain_asks, chain_closes, chain_tells, is_operator, operator_asks, operator_yes, operator_no}
use Rattle.wgsl_format_layout.proofs.ahead.has_operator.Goals as goal

pub tokens-preserved : goal.tokens-preserved
tokens-preserved c = λ before n ts start.
    let ends = ends_chain n 0 in let test = is_operator n in let place = c.tokens.place in
    let tokens = c.args.tokens.now in
    reaches_past (found_before ends test) (found_before ends test) (any_before ends test ts) place c.after-place.result
    tokens n c.tokens-test.true
    (λ before t us f. let goes = chain_tells _ false 0 place tokens n c.tokens-test.true
    (sym c.ends_chain.ensures ∙ c.if-not-ends_chain.true) before t us f in
    before_later ends test place n t (chain_asks n 0) (operator_asks n) (chain_closes n 0 t f.order.0 goes) goes
    (operator_no _ place tokens n c.tokens-test.true c.if-tokens-place-ne0.false before t us f))
    c.after-place.ensures.next (c.tokens.invariant before n ts start)

pub returns-then-tokens-place-ne0 : goal.returns-then-tokens-place-ne0
returns-then-tokens-place-ne0 c = λ before n ts start.
    let ends = ends_chain n 0 in let test = is_operator n in let place = c.tokens.place in
    let tokens = c.args.tokens.now in
    reaches_here (found_before ends test) true (any_before ends test ts) place tokens n c.tokens-test.true
    (λ before t us f. any_before_more ends test t us (chain_tells _ false 0 place tokens n c.tokens-test.true
    (sym c.ends_chain.ensures ∙ c.if-not-ends_chain.true) before t us f)
    ∙ ap (λ b. b || any_before ends test us)
    (operator_yes _ place tokens n c.tokens-test.true c.if-tokens-place-ne0.true before t us f))
    (c.tokens.invariant before n ts start)

pub returns-else-not-ends_chain : goal.returns-else-not-ends_chain
returns-else-not-ends_chain c = λ before n ts start.
    let ends = ends_chain n 0 in let test = is_operator n in let place = c.tokens.place in
    let tokens = c.args.tokens.now in
    reaches_here (found_before ends test) false (any_before ends test ts) place tokens n c.tokens-test.true
    (λ before t us f. any_before_end ends test t us (chain_tells _ true 0 place tokens n c.tokens-test.true
    (sym c.ends_chain.ensures ∙ c.if-not-ends_chain.false) before t us f))
    (c.tokens.invariant before n ts start)

pub returns-after-tokens : goal.returns-after-tokens
returns-after-tokens c = λ before n ts start.
    let ends = ends_chain n 0 in let test = is_operator n in
    reaches_end (found_before ends test)
    (any_before ends test ts) c.tokens.place c.args.tokens.now n c.tokens-test.false
    (c.tokens.invariant before n ts start)
