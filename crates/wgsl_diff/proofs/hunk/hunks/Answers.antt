use Rattle.std.proofs.Common.{◌≡◌, ◌<◌, [], sym, ◌∙◌, subst, length, map, take, drop, arith}
use Rattle.std.proofs.lemmas.Grind.{elements}
use Rattle.std.proofs.lemmas.List.{append-nil, take_all, drop_all}
use Rattle.wgsl_diff.specs.Diffs.{AllKept, IsShort, AreHunks}
use Rattle.wgsl_diff.specs.View.{line_view, hunk_view}
use Rattle.wgsl_diff.proofs.DiffLines.{one_differs}
use Rattle.wgsl_diff.proofs.Grouping.{next_hunk, pushed_hunk}
use Rattle.wgsl_diff.proofs.hunk.hunks.Goals as goal

pub hunk_len-len-requires : goal.hunk_len-len-requires
hunk_len-len-requires c =
    let rest = c.split_at.result.1.now in
    let kept = c.kept_count-kept.result in
    let skipped = c.saturating_sub-skipped.result in
    let some : kept < length rest = omega (arith, c.if-kept-rest.false, c.kept_count-kept.ensures.within) in
    subst (λ ls. ¬ (AllKept (map line_view (take 4 ls)))) (sym c.split_at-in-loop-at.ensures.back)
    (one_differs rest kept skipped (omega arith) (omega arith) c.kept_count-kept.ensures.kept
    (c.kept_count-kept.ensures.most some))

pub loop-at-preserved : goal.loop-at-preserved
loop-at-preserved c =
    let lines = c.args.lines.now in
    let skipped = c.saturating_sub-skipped.result in
    let len = c.hunk_len-len.result in
    let rest = c.split_at.result.1.now in
    let shown = c.split_at-in-loop-at.result.1.now in
    let group = c.split_at-in-loop-at-2.result.0.now in
    record {
      within = omega
          (arith, c.hunk_len-len.ensures.within, c.split_at.ensures.back_len, c.split_at-in-loop-at.ensures.back_len);
      old_within = omega (
        arith,
        c.loop-at.invariant.old_within,
        c.old_count-old_start.ensures.bound,
        c.split_at-in-loop-at-2.ensures.front_len,
      );
      new_within = omega (
        arith,
        c.loop-at.invariant.new_within,
        c.new_count-new_start.ensures.bound,
        c.split_at-in-loop-at-2.ensures.front_len,
      );
      small = λ k d within. grind (arith, elements, c.loop-at.invariant.small k d);
      hunks = λ more others.
          let short = subst (λ ls. IsShort 3 (map line_view ls))
          (sym c.split_at-in-loop-at-2.ensures.front) c.hunk_len-len.ensures.short in
          let one = next_hunk lines rest shown group c.loop-at.at c.loop-at.old_start c.loop-at.new_start
          c.kept_count-kept.result skipped len c.old_count-old_start.result c.new_count-new_start.result more
          c.split_at.ensures.back c.split_at-in-loop-at.ensures.back c.split_at-in-loop-at-2.ensures.front
          c.old_count-old_start.ensures.count c.new_count-new_start.ensures.count
          (omega arith) c.kept_count-kept.ensures.within c.kept_count-kept.ensures.kept short others in
          subst (λ hs. AreHunks 0 0 hs (map line_view lines))
          (pushed_hunk c.loop-at.hunks.items c.push.new.self.items _ more c.in_ok-push.ensures.items)
          (c.loop-at.invariant.hunks _ one);
    }

pub returns-then-kept-rest-clause-hunks : goal.returns-then-kept-rest-clause-hunks
returns-then-kept-rest-clause-hunks c =
    let rest = c.split_at.result.1.now in
    let kept = c.kept_count-kept.result in
    let all : take kept rest ≡ rest = take_all kept rest (omega arith) in
    subst (λ hs. AreHunks 0 0 hs (map line_view c.args.lines.now)) (append-nil (map hunk_view c.loop-at.hunks.items))
    (c.loop-at.invariant.hunks [] (subst (λ ls. AllKept (map line_view ls))
    (all ∙ c.split_at.ensures.back) c.kept_count-kept.ensures.kept))

pub returns-clause-hunks : goal.returns-clause-hunks
returns-clause-hunks c =
    let none : drop c.loop-at.at c.args.lines.now ≡ [] = drop_all c.loop-at.at c.args.lines.now (omega arith) in
    subst (λ hs. AreHunks 0 0 hs (map line_view c.args.lines.now)) (append-nil (map hunk_view c.loop-at.hunks.items))
    (c.loop-at.invariant.hunks [] (subst (λ ls. AllKept (map line_view ls)) (sym none) tt))
