use Rattle.std.proofs.Common.{inl, sym, ◌∙◌, ◌+◌, ◌-◌, arith}
use Rattle.std.proofs.lemmas.Bool.{false≢true}
use Rattle.std.proofs.lemmas.List.{length-map}
use Rattle.std.proofs.lemmas.Slice.Eq.{bytes_eq-Decides}
use Rattle.wgsl_diff.specs.View.{texts_of}
use Rattle.wgsl_diff.proofs.Nearest.{apart_before, differ_first, differ_more, differ_next, go_on_at, text_at, texts_differ}
use Rattle.wgsl_diff.proofs.matching.change_at.Goals as goal
use Rattle.wgsl_diff.proofs.matching.change_at.Goals.{else-loop-removed-test, then-loop-removed-test+else-removed-before+else-removed-distance, else-removed-before-via-then-removed-before+then-added-after+else-eq, else-removed-before-via-then-removed-before+else-added-after, else-removed-before-via-else-removed-before}

pub loop-distance-init : goal.loop-distance-init
loop-distance-init c = differ_first (texts_of c.args.before.now) (texts_of c.args.after.now) c.requires.other

pub loop-removed-init : goal.loop-removed-init
loop-removed-init c = λ r a sum none within others same. omega (arith, none)

pub returns-then-eq-clause-apart : goal.returns-then-eq-clause-apart
returns-then-eq-clause-apart c =
    apart_before (texts_of c.args.before.now) (texts_of c.args.after.now) c.loop-distance.distance
    c.loop-removed.removed (c.loop-distance.distance - c.loop-removed.removed) c.loop-distance.invariant
    (omega (arith, c.loop-removed-test.true))

pub returns-then-eq-clause-ends : goal.returns-then-eq-clause-ends
returns-then-eq-clause-ends c =
    let before = c.args.before.now in
    let after = c.args.after.now in
    let added = c.loop-distance.distance - c.loop-removed.removed in
    inl (go_on_at (texts_of before) (texts_of after) c.loop-removed.removed added
    (rw (length-map before (λ text. text.now)) c.if-removed-before.true)
    (rw (length-map after (λ text. text.now)) c.if-added-after.true)
    (text_at before c.loop-removed.removed _ c.if-removed-before.true
    ∙ (bytes_eq-Decides _ _).0 (sym c.if-eq.ensures) ∙ sym (text_at after added _ c.if-added-after.true)))

pub loop-removed-preserved : goal.loop-removed-preserved
loop-removed-preserved c =
    let before = c.args.before.now in
    let after = c.args.after.now in
    let long = length-map before (λ text. text.now) in
    let many = length-map after (λ text. text.now) in
    differ_more (texts_of before) (texts_of after) c.loop-distance.distance
    c.loop-removed.removed c.loop-removed-test.true c.loop-removed.invariant
    (elim c.else-removed-before.branch [
      | else-removed-before-via-then-removed-before+then-added-after+else-eq w ↦
          texts_differ before after c.loop-removed.removed (c.loop-distance.distance - c.loop-removed.removed) _ _
          (λ _ _ same. false≢true (sym w.if-eq.false ∙ w.eq.ensures ∙ (bytes_eq-Decides _ _).1 same))
      | else-removed-before-via-then-removed-before+else-added-after w ↦
          λ within others same. omega (arith, many, others, w.if-added-after.false)
      | else-removed-before-via-else-removed-before w ↦
          λ within others same. omega (arith, long, within, w.if-removed-before.false)
    ])

pub loop-distance-preserved : goal.loop-distance-preserved
loop-distance-preserved c =
    let before = c.args.before.now in
    let after = c.args.after.now in
    let long = length-map before (λ text. text.now) in
    let many = length-map after (λ text. text.now) in
    let removed = c.loop-removed.removed in
    let distance = c.loop-distance.distance in
    elim c.loop-removed-test.branch [
      | else-loop-removed-test w ↦ differ_next (texts_of before) (texts_of after) distance removed
          w.loop-removed-test.false c.loop-distance.invariant c.loop-removed.invariant
      | then-loop-removed-test+else-removed-before+else-removed-distance w ↦
          differ_next (texts_of before) (texts_of after) distance (removed + 1)
          (omega arith) c.loop-distance.invariant
          (differ_more (texts_of before)
          (texts_of after) distance removed w.loop-removed-test.true c.loop-removed.invariant
          (elim w.else-removed-before.branch [
            | else-removed-before-via-then-removed-before+then-added-after+else-eq v ↦
                texts_differ before after removed (distance - removed) _ _
                (λ _ _ same. false≢true (sym v.if-eq.false ∙ v.eq.ensures ∙ (bytes_eq-Decides _ _).1 same))
            | else-removed-before-via-then-removed-before+else-added-after v ↦
                λ within others same. omega (arith, many, others, v.if-added-after.false)
            | else-removed-before-via-else-removed-before v ↦
                λ within others same. omega (arith, long, within, v.if-removed-before.false)
          ]))
    ]

pub returns-clause-apart : goal.returns-clause-apart
returns-clause-apart c =
    apart_before (texts_of c.args.before.now) (texts_of c.args.after.now) c.loop-distance.distance
    c.min.result c.min-2.result c.loop-distance.invariant
    (omega (arith, c.loop-distance-test.false, c.min.ensures, c.min-2.ensures))
