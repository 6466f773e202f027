-- Step by step.
use Rattle.std.proofs.Common.{rules, ◌≡◌, ◌<◌, ◌≤◌, suc, length, true, sym, ◌∙◌, arith}
use Rattle.grammar.specs.States.{is_any}
use Rattle.wgsl_lex_token.specs.View.{classes}
use Rattle.wgsl_read_cursor.specs.Reading.{state}
use Rattle.wgsl_read_dialect.specs.Dialects.{dialect_view}
use Rattle.wgsl_read_dialect.specs.Work.{work}
use Rattle.wgsl_read_dialect.specs.View.{steps_view}
use Rattle.wgsl_read_dialect.proofs.AnyKind.{any_is}
use Rattle.wgsl_read_dialect.proofs.Arms.{is_zero, inside_rule, inside_choice, on_token, fails_token, on_items, fails_items, asks_items, on_inner, fails_inner, asks_inner, on_last, items_turn, items_stop, items_fail, items_work}
use Rattle.wgsl_read_dialect.proofs.accept.+accept.Goals as goal

pub accept-steps-preserved-in-Token : goal.accept-steps-preserved-in-Token
accept-steps-preserved-in-Token t c =
    (on_token c.steps.left.now c.in-Some.rest.now c.in-Some.step.now c.in-Token.kinds
    (state c.steps.tokens) (state c.take_any.new.tokens) _ _ _
    c.in-Some.ensures.cases.0 c.in-Token.is c.steps.invariant c.in_ok-take_any-in-Token.ensures).0

pub accept-steps-smaller-in-Token : goal.accept-steps-smaller-in-Token
accept-steps-smaller-in-Token t c =
    (on_token c.steps.left.now c.in-Some.rest.now c.in-Some.step.now c.in-Token.kinds
    (state c.steps.tokens) (state c.take_any.new.tokens) _ _ _
    c.in-Some.ensures.cases.0 c.in-Token.is c.steps.invariant c.in_ok-take_any-in-Token.ensures).1

pub accept-returns-in_err-take_any-in-Token : goal.accept-returns-in_err-take_any-in-Token
accept-returns-in_err-take_any-in-Token t c =
    let failed = fails_token c.steps.left.now c.in-Some.rest.now c.in-Some.step.now c.in-Token.kinds
    (state c.steps.tokens) _ _ _
    c.in-Some.ensures.cases.0 c.in-Token.is c.steps.invariant c.in_err-take_any-in-Token.ensures in
    search rules

pub accept-steps-preserved-in-Repeat : goal.accept-steps-preserved-in-Repeat
accept-steps-preserved-in-Repeat t c =
    (on_items c.steps.left.now c.in-Some.rest.now c.in-Some.step.now c.in-Repeat.kinds
    c.in-Repeat.each (state c.steps.tokens) (state c.accept_each.new.tokens) _ _ _
    c.in-Some.ensures.cases.0 c.in-Repeat.is c.steps.invariant c.in_ok-accept_each-in-Repeat.ensures).0

pub accept-steps-smaller-in-Repeat : goal.accept-steps-smaller-in-Repeat
accept-steps-smaller-in-Repeat t c =
    (on_items c.steps.left.now c.in-Some.rest.now c.in-Some.step.now c.in-Repeat.kinds
    c.in-Repeat.each (state c.steps.tokens) (state c.accept_each.new.tokens) _ _ _
    c.in-Some.ensures.cases.0 c.in-Repeat.is c.steps.invariant c.in_ok-accept_each-in-Repeat.ensures).1

pub accept-returns-in_err-accept_each-in-Repeat : goal.accept-returns-in_err-accept_each-in-Repeat
accept-returns-in_err-accept_each-in-Repeat t c =
    let failed = fails_items c.steps.left.now c.in-Some.rest.now c.in-Some.step.now
    c.in-Repeat.kinds c.in-Repeat.each (state c.steps.tokens) _ _ _
    c.in-Some.ensures.cases.0 c.in-Repeat.is c.steps.invariant c.in_err-accept_each-in-Repeat.ensures in
    search rules

pub accept-accept_each-requires : goal.accept-accept_each-requires
accept-accept_each-requires t c =
    let asked = asks_items c.steps.left.now c.in-Some.rest.now c.in-Some.step.now c.in-Repeat.kinds
    c.in-Repeat.each (state c.steps.tokens) _ _
    c.in-Some.ensures.cases.0 c.in-Repeat.is c.steps.invariant in
    let less = asked.0 in let taking = asked.1 in let settled = asked.2 in search rules

pub accept-steps-preserved-then-is_empty : goal.accept-steps-preserved-then-is_empty
accept-steps-preserved-then-is_empty t c =
    let inside = inside_rule c.steps.left.now c.in-Some.rest.now c.in-Some.step.now c.in-Rule.symbol
    c.right_side-inner.result.now (state c.steps.tokens) _ _
    c.in-Some.ensures.cases.0 c.in-Rule.is c.right_side-inner.ensures c.steps.invariant in
    (on_last c.steps.left.now c.in-Some.rest.now c.right_side-inner.result.now
    (state c.steps.tokens) _ _ (is_zero _ c.if-is_empty.ensures) inside c.steps.invariant).0

pub accept-steps-smaller-then-is_empty : goal.accept-steps-smaller-then-is_empty
accept-steps-smaller-then-is_empty t c =
    let inside = inside_rule c.steps.left.now c.in-Some.rest.now c.in-Some.step.now c.in-Rule.symbol
    c.right_side-inner.result.now (state c.steps.tokens) _ _
    c.in-Some.ensures.cases.0 c.in-Rule.is c.right_side-inner.ensures c.steps.invariant in
    (on_last c.steps.left.now c.in-Some.rest.now c.right_side-inner.result.now
    (state c.steps.tokens) _ _ (is_zero _ c.if-is_empty.ensures) inside c.steps.invariant).1

pub accept-accept-requires : goal.accept-accept-requires
accept-accept-requires t c =
    let inside = inside_rule c.steps.left.now c.in-Some.rest.now c.in-Some.step.now c.in-Rule.symbol
    c.right_side-inner.result.now (state c.steps.tokens) _ _
    c.in-Some.ensures.cases.0 c.in-Rule.is c.right_side-inner.ensures c.steps.invariant in
    let asked = asks_inner c.steps.left.now c.in-Some.rest.now c.right_side-inner.result.now
    (state c.steps.tokens) _ _ inside c.steps.invariant in
    let less = asked.0 in let settled = asked.1 in search rules

pub accept-steps-preserved-in-Rule : goal.accept-steps-preserved-in-Rule
accept-steps-preserved-in-Rule t c =
    let inside = inside_rule c.steps.left.now c.in-Some.rest.now c.in-Some.step.now c.in-Rule.symbol
    c.right_side-inner.result.now (state c.steps.tokens) _ _
    c.in-Some.ensures.cases.0 c.in-Rule.is c.right_side-inner.ensures c.steps.invariant in
    (on_inner c.steps.left.now c.in-Some.rest.now c.right_side-inner.result.now (state c.steps.tokens)
    (state c.accept.new.tokens) _ _ _ inside c.steps.invariant c.in_ok-accept-in-Rule.ensures).0

pub accept-steps-smaller-in-Rule : goal.accept-steps-smaller-in-Rule
accept-steps-smaller-in-Rule t c =
    let inside = inside_rule c.steps.left.now c.in-Some.rest.now c.in-Some.step.now c.in-Rule.symbol
    c.right_side-inner.result.now (state c.steps.tokens) _ _
    c.in-Some.ensures.cases.0 c.in-Rule.is c.right_side-inner.ensures c.steps.invariant in
    (on_inner c.steps.left.now c.in-Some.rest.now c.right_side-inner.result.now (state c.steps.tokens)
    (state c.accept.new.tokens) _ _ _ inside c.steps.invariant c.in_ok-accept-in-Rule.ensures).1

pub accept-returns-in_err-accept-in-Rule : goal.accept-returns-in_err-accept-in-Rule
accept-returns-in_err-accept-in-Rule t c =
    let inside = inside_rule c.steps.left.now c.in-Some.rest.now c.in-Some.step.now c.in-Rule.symbol
    c.right_side-inner.result.now (state c.steps.tokens) _ _
    c.in-Some.ensures.cases.0 c.in-Rule.is c.right_side-inner.ensures c.steps.invariant in
    let failed = fails_inner c.steps.left.now c.in-Some.rest.now c.right_side-inner.result.now
    (state c.steps.tokens) _ _ _ inside c.steps.invariant c.in_err-accept-in-Rule.ensures in
    search rules

pub accept-steps-preserved-then-is_empty-2 : goal.accept-steps-preserved-then-is_empty-2
accept-steps-preserved-then-is_empty-2 t c =
    let inside = inside_choice c.steps.left.now c.in-Some.rest.now c.in-Some.step.now c.in-Choice.kinds
    c.in-Choice.first c.in-Choice.second c.choose-chosen.result.now (state c.steps.tokens) _ _
    c.in-Some.ensures.cases.0 c.in-Choice.is c.choose-chosen.ensures c.steps.invariant in
    (on_last c.steps.left.now c.in-Some.rest.now c.choose-chosen.result.now
    (state c.steps.tokens) _ _ (is_zero _ c.if-is_empty-2.ensures) inside c.steps.invariant).0

pub accept-steps-smaller-then-is_empty-2 : goal.accept-steps-smaller-then-is_empty-2
accept-steps-smaller-then-is_empty-2 t c =
    let inside = inside_choice c.steps.left.now c.in-Some.rest.now c.in-Some.step.now c.in-Choice.kinds
    c.in-Choice.first c.in-Choice.second c.choose-chosen.result.now (state c.steps.tokens) _ _
    c.in-Some.ensures.cases.0 c.in-Choice.is c.choose-chosen.ensures c.steps.invariant in
    (on_last c.steps.left.now c.in-Some.rest.now c.choose-chosen.result.now
    (state c.steps.tokens) _ _ (is_zero _ c.if-is_empty-2.ensures) inside c.steps.invariant).1

pub accept-accept-requires-in-Choice : goal.accept-accept-requires-in-Choice
accept-accept-requires-in-Choice t c =
    let inside = inside_choice c.steps.left.now c.in-Some.rest.now c.in-Some.step.now c.in-Choice.kinds
    c.in-Choice.first c.in-Choice.second c.choose-chosen.result.now (state c.steps.tokens) _ _
    c.in-Some.ensures.cases.0 c.in-Choice.is c.choose-chosen.ensures c.steps.invariant in
    let asked = asks_inner c.steps.left.now c.in-Some.rest.now c.choose-chosen.result.now
    (state c.steps.tokens) _ _ inside c.steps.invariant in
    let less = asked.0 in let settled = asked.1 in search rules

pub accept-steps-preserved : goal.accept-steps-preserved
accept-steps-preserved t c =
    let inside = inside_choice c.steps.left.now c.in-Some.rest.now c.in-Some.step.now c.in-Choice.kinds
    c.in-Choice.first c.in-Choice.second c.choose-chosen.result.now (state c.steps.tokens) _ _
    c.in-Some.ensures.cases.0 c.in-Choice.is c.choose-chosen.ensures c.steps.invariant in
    (on_inner c.steps.left.now c.in-Some.rest.now c.choose-chosen.result.now (state c.steps.tokens)
    (state c.accept-in-Choice.new.tokens) _ _ _ inside c.steps.invariant c.in_ok-accept-in-Choice.ensures).0

pub accept-steps-smaller : goal.accept-steps-smaller
accept-steps-smaller t c =
    let inside = inside_choice c.steps.left.now c.in-Some.rest.now c.in-Some.step.now c.in-Choice.kinds
    c.in-Choice.first c.in-Choice.second c.choose-chosen.result.now (state c.steps.tokens) _ _
    c.in-Some.ensures.cases.0 c.in-Choice.is c.choose-chosen.ensures c.steps.invariant in
    (on_inner c.steps.left.now c.in-Some.rest.now c.choose-chosen.result.now (state c.steps.tokens)
    (state c.accept-in-Choice.new.tokens) _ _ _ inside c.steps.invariant c.in_ok-accept-in-Choice.ensures).1

pub accept-returns-in_err-accept-in-Choice : goal.accept-returns-in_err-accept-in-Choice
accept-returns-in_err-accept-in-Choice t c =
    let inside = inside_choice c.steps.left.now c.in-Some.rest.now c.in-Some.step.now c.in-Choice.kinds
    c.in-Choice.first c.in-Choice.second c.choose-chosen.result.now (state c.steps.tokens) _ _
    c.in-Some.ensures.cases.0 c.in-Choice.is c.choose-chosen.ensures c.steps.invariant in
    let failed = fails_inner c.steps.left.now c.in-Some.rest.now c.choose-chosen.result.now
    (state c.steps.tokens) _ _ _ inside c.steps.invariant c.in_err-accept-in-Choice.ensures in
    search rules

pub accept_each-accept-requires : goal.accept_each-accept-requires
accept_each-accept-requires t c =
    let less : work (steps_view c.args.each.now) (state c.items.tokens)
    < suc (work (steps_view c.args.each.now) (state c.args.tokens.now)) =
    items_work (steps_view c.args.each.now) (state c.items.tokens)
    (state c.args.tokens.now) c.items.invariant.shorter in
    let settled = c.requires.settled in search rules

pub accept_each-items-smaller : goal.accept_each-items-smaller
accept_each-items-smaller t c =
    let more : is_any (classes c.args.kinds.now) (state c.items.tokens) ≡ true =
    sym (any_is c.args.kinds.now (state c.items.tokens)) ∙ sym c.items-test.ensures in
    (items_turn (dialect_view c.args.dialect) (classes c.args.kinds.now)
    (steps_view c.args.each.now) (state c.items.tokens) (state c.accept.new.tokens) _ _
    c.requires.taking more c.in_ok-accept.ensures c.items.invariant.whole).1

pub accept_each-items-preserved : goal.accept_each-items-preserved
accept_each-items-preserved t c =
    let more : is_any (classes c.args.kinds.now) (state c.items.tokens) ≡ true =
    sym (any_is c.args.kinds.now (state c.items.tokens)) ∙ sym c.items-test.ensures in
    let turn = items_turn (dialect_view c.args.dialect) (classes c.args.kinds.now)
    (steps_view c.args.each.now) (state c.items.tokens) (state c.accept.new.tokens) _ _
    c.requires.taking more c.in_ok-accept.ensures c.items.invariant.whole in
    let fewer = turn.1 in let most : length (state c.items.tokens).rest
    ≤ length (state c.args.tokens.now).rest = c.items.invariant.shorter in
    record { whole = turn.0; shorter = omega arith }

pub accept_each-returns-in_err-accept : goal.accept_each-returns-in_err-accept
accept_each-returns-in_err-accept t c =
    let more : is_any (classes c.args.kinds.now) (state c.items.tokens) ≡ true =
    sym (any_is c.args.kinds.now (state c.items.tokens)) ∙ sym c.items-test.ensures in
    let failed = items_fail (dialect_view c.args.dialect) (classes c.args.kinds.now) (steps_view c.args.each.now)
    (state c.items.tokens) _ _ c.requires.taking more c.in_err-accept.ensures c.items.invariant.whole in
    search rules

pub accept_each-returns : goal.accept_each-returns
accept_each-returns t c =
    items_stop (dialect_view c.args.dialect) (classes c.args.kinds.now) (steps_view c.args.each.now)
    (state c.items.tokens) _ c.requires.taking
    (sym (any_is c.args.kinds.now (state c.items.tokens)) ∙ sym c.items-test.ensures) c.items.invariant.whole
