use Rattle.std.proofs.Common.{◌≡◌, ap, ◌∙◌, ◌+◌, ◌-◌, [], ◌∷◌, ◌++◌, take, drop, arith}
use Rattle.std.proofs.lemmas.List.{map_push}
use Rattle.wgsl_diff.specs.Lines.{lines_of}
use Rattle.wgsl_diff.specs.View.{texts_of}
use Rattle.wgsl_diff.proofs.Pending.{before_all, line_read, byte_read, last_line, no_line}
use Rattle.wgsl_diff.proofs.lines.lines_of.Goals as goal
use Rattle.wgsl_diff.proofs.lines.lines_of.Goals.{then-byte-eq10+in_ok-push, else-byte-eq10, then-start-text+in_ok-push-2, else-start-text}

pub loop-at-preserved : goal.loop-at-preserved
loop-at-preserved c =
    let text = c.args.text.now in
    let i = c.loop-at.at in
    let s = c.loop-at.start in
    let before = c.loop-at.invariant in
    let made = c.if-byte-eq10.lines in
    let rest = lines_of (drop (i + 1) text) in
    elim c.if-byte-eq10.branch [
      | then-byte-eq10+in_ok-push w ↦
          let lines : texts_of made.items ≡ texts_of c.loop-at.lines.items ++ take (i + 1 - s) (drop s text) ∷ []
          = ap (λ v. texts_of v.items) w.lines-is ∙ ap texts_of w.in_ok-push.ensures.items ∙ map_push _ _ _ in
          let none : i + 1 - (i + 1) ≡ 0 = omega arith in
          record {
            within = omega (arith, w.start-is);
            whole = ap (λ k. texts_of made.items ++ before_all (take (i + 1 - k) (drop k text)) rest) w.start-is
                ∙ ap (λ k. texts_of made.items ++ before_all (take k (drop (i + 1) text)) rest) none
                ∙ ap (λ t. t ++ rest) lines
                ∙ line_read text s i before.within c.loop-at-test.true
                (texts_of c.loop-at.lines.items) _ w.if-byte-eq10.true before.whole;
          }
      | else-byte-eq10 w ↦ record {
        within = omega (arith, w.start-is, before.within);
        whole = ap (λ k. texts_of made.items ++ before_all (take (i + 1 - k) (drop k text)) rest) w.start-is
            ∙ ap (λ v. texts_of v.items ++ before_all (take (i + 1 - s) (drop s text)) rest) w.lines-is
            ∙ byte_read text s i before.within c.loop-at-test.true
            (texts_of c.loop-at.lines.items) _ w.if-byte-eq10.false before.whole;
      }
    ]

pub returns : goal.returns
returns c =
    let text = c.args.text.now in
    let i = c.loop-at.at in
    let s = c.loop-at.start in
    let texts = texts_of c.loop-at.lines.items in
    elim c.if-start-text.branch [
      | then-start-text+in_ok-push-2 w ↦
          ap (λ v. texts_of v.items) w.lines-is ∙ ap texts_of w.in_ok-push-2.ensures.items ∙ map_push _ _ _
          ∙ last_line text s i texts c.loop-at-test.false c.loop-at.auto.at-end
          c.loop-at.invariant.whole w.if-start-text.true
      | else-start-text w ↦
          ap (λ v. texts_of v.items) w.lines-is ∙ no_line text s i texts c.loop-at-test.false
          c.loop-at.auto.at-end c.loop-at.invariant.whole w.if-start-text.false
    ]
