-- Kind by kind.
use Rattle.std.proofs.Common.{◌≡◌, sym, ap, ◌∙◌, subst}
use Rattle.grammar.specs.Tokens.{Token}
use Rattle.grammar.specs.States.{Read, refused, take_any, is_at, Read.done}
use Rattle.wgsl_lex_token.specs.View.{class_of_kind, classes}
use Rattle.wgsl_read_cursor.specs.Reading.{state, Fails}
use Rattle.wgsl_read_dialect.specs.Following.{forgotten}
use Rattle.wgsl_read_dialect.proofs.AnyKind.{next_kind, this_kind, no_kind, fails_forgotten, refused_forgotten}
use Rattle.wgsl_read_dialect.proofs.accept.take_any.Goals as goal

pub returns-then-eat : goal.returns-then-eat
returns-then-eat c =
    let i = c.loop-kind.invariant in
    let found = this_kind c.args.kinds.now c.loop-kind.kind-index _
    (state c.loop-kind.tokens) c.loop-kind-test.true (sym c.if-eat.ensures.value) in
    ap (λ (r : Read Token). forgotten r) (sym i.left ∙ ap (take_any (classes _)) (sym i.same) ∙ found)
    ∙ ap (done tt) (sym c.if-eat.ensures.rest)

pub loop-kind-preserved : goal.loop-kind-preserved
loop-kind-preserved c =
    let i = c.loop-kind.invariant in
    record {
      same = c.if-eat.ensures.rest ∙ i.same;
      left = next_kind c.args.kinds.now c.loop-kind.kind-index _ (state c.args.tokens.now) c.loop-kind-test.true
          (sym (c.if-eat.ensures.value ∙ ap (is_at (class_of_kind _)) i.same)) ∙ i.left;
    }

pub returns : goal.returns
returns c =
    let i = c.loop-kind.invariant in
    let left = state c.loop-kind.tokens in
    let none = no_kind c.args.kinds.now c.loop-kind.kind-index left c.loop-kind-test.false in
    let all : forgotten (take_any (classes c.args.kinds.now) (state c.args.tokens.now)) ≡ refused left =
    ap (λ (r : Read Token). forgotten r) (sym i.left ∙ ap (take_any (classes _)) (sym i.same) ∙ none)
    ∙ refused_forgotten _ left in
    subst (Fails c.refuse.result) (refused_forgotten _ left ∙ sym all)
    (fails_forgotten c.refuse.result _ c.refuse.ensures)
