use Rattle.std.proofs.Common.{◌≡◌, inl, inr, sym, ◌∙◌, subst, [], map, drop, arith}
use Rattle.std.proofs.lemmas.Bool.{false≢true}
use Rattle.std.proofs.lemmas.List.{append-nil, drop_all}
use Rattle.std.proofs.lemmas.Slice.Eq.{bytes_eq-Decides}
use Rattle.wgsl_diff.specs.Diffs.{IsScript}
use Rattle.wgsl_diff.specs.View.{line_view, texts_of}
use Rattle.wgsl_diff.proofs.Building.{next_kept, next_change}
use Rattle.wgsl_diff.proofs.Nearest.{left_is, rest_differs, rest_ends}
use Rattle.wgsl_diff.proofs.Scripts.{Completes, no_line}
use Rattle.wgsl_diff.proofs.matching.script.Goals as goal
use Rattle.wgsl_diff.proofs.matching.script.Goals.{else-i-before-2-via-then-i-before-2+then-j-after-2+else-eq, else-i-before-2-via-then-i-before-2+else-j-after-2, else-i-before-2-via-else-i-before-2}

pub loop-i-preserved-then-eq : goal.loop-i-preserved-then-eq
loop-i-preserved-then-eq c = record {
  i_within = omega arith;
  j_within = omega arith;
  completes = λ more left.
      next_kept c.args.before.now c.args.after.now c.loop-i.i c.loop-i.j c.loop-i.lines.items c.push.new.self.items more
      c.loop-i.invariant.completes _ _ c.if-i-before-2.true c.if-j-after-2.true
      ((bytes_eq-Decides _ _).0 (sym c.if-eq.ensures)) c.in_ok-push.ensures.items left;
}

pub change_at-removed-requires-clause-other : goal.change_at-removed-requires-clause-other
change_at-removed-requires-clause-other c =
    let before = c.args.before.now in
    let after = c.args.after.now in
    elim c.else-i-before-2.branch [
      | else-i-before-2-via-then-i-before-2+then-j-after-2+else-eq w ↦
          rest_differs before after _ _ c.loop-i.i c.loop-i.j _ _ (left_is before c.loop-i.i) (left_is after c.loop-i.j)
          (λ _ _ same. false≢true (sym w.if-eq.false ∙ w.eq.ensures ∙ (bytes_eq-Decides _ _).1 same))
      | else-i-before-2-via-then-i-before-2+else-j-after-2 w ↦
          rest_ends before after _ _ c.loop-i.i c.loop-i.j (left_is before c.loop-i.i) (left_is after c.loop-i.j)
          (inr w.if-j-after-2.false)
      | else-i-before-2-via-else-i-before-2 w ↦
          rest_ends before after _ _ c.loop-i.i c.loop-i.j (left_is before c.loop-i.i) (left_is after c.loop-i.j)
          (inl w.if-i-before-2.false)
    ]

pub loop-i-preserved : goal.loop-i-preserved
loop-i-preserved c =
    let before = c.args.before.now in
    let after = c.args.after.now in
    let change = c.change_at-removed in
    record {
      i_within = omega (arith, change.ensures.removed);
      j_within = omega (arith, change.ensures.added);
      completes = λ more left.
          next_change before after c.loop-i.i c.loop-i.j c.loop-i.lines.items c.push_added.new.lines.items more
          c.loop-i.invariant.completes _ _ c.push_removed.new.lines.items change.result.0 change.result.1
          (left_is before c.loop-i.i) (left_is after c.loop-i.j)
          c.in_ok-push_removed.ensures c.in_ok-push_added.ensures change.ensures.apart
          (elim c.else-i-before-2.branch [
            | else-i-before-2-via-then-i-before-2+then-j-after-2+else-eq w ↦
                rest_differs before after _ _ c.loop-i.i c.loop-i.j _ _ (left_is before c.loop-i.i)
                (left_is after c.loop-i.j)
                (λ _ _ same. false≢true (sym w.if-eq.false ∙ w.eq.ensures ∙ (bytes_eq-Decides _ _).1 same))
            | else-i-before-2-via-then-i-before-2+else-j-after-2 w ↦
                rest_ends before after _ _ c.loop-i.i c.loop-i.j (left_is before c.loop-i.i)
                (left_is after c.loop-i.j)
                (inr w.if-j-after-2.false)
            | else-i-before-2-via-else-i-before-2 w ↦
                rest_ends before after _ _ c.loop-i.i c.loop-i.j (left_is before c.loop-i.i)
                (left_is after c.loop-i.j)
                (inl w.if-i-before-2.false)
          ])
          change.ensures.ends left;
    }

pub returns : goal.returns
returns c =
    let before = c.args.before.now in
    let after = c.args.after.now in
    let no_old : drop c.loop-i.i before ≡ [] = drop_all c.loop-i.i before c.if-i-before.false in
    let no_new : drop c.loop-i.j after ≡ [] = drop_all c.loop-i.j after c.if-j-after.false in
    let none = subst (λ ls. Completes (texts_of ls) (texts_of (drop c.loop-i.j after)) []) (sym no_old)
    (subst (λ ls. Completes [] (texts_of ls) []) (sym no_new) no_line) in
    subst (IsScript (texts_of before) (texts_of after)) (append-nil (map line_view c.loop-i.lines.items))
    (c.loop-i.invariant.completes [] none).script
