use Rattle.std.proofs.Common.{◌≡◌, ℕ, ◌-◌, subst, drop, arith}
use Rattle.wgsl_format_layout.specs.Walks.{EndsLine}
use Rattle.wgsl_format_layout.proofs.Following.{mark_after}
use Rattle.wgsl_format_layout.proofs.LineEnds.{line_to, line_up_to, line_up_to_last, mark_before, not_true, not_false}
use Rattle.wgsl_format_layout.proofs.ahead.line_end.Goals as goal
use Rattle.wgsl_format_layout.proofs.ahead.line_end.Goals.{else-end-tokens-via-then-end-tokens+else-is_in_line, else-end-tokens-via-else-end-tokens}

pub returns-then-is_in_line : goal.returns-then-is_in_line
returns-then-is_in_line c = λ ends n ts f at.
    line_to _ ends c.args.last c.args.from c.args.end c.args.tokens.now n ts f at c.if-end-tokens.true
    (not_true _ c.is_in_line.result c.is_in_line.ensures c.if-is_in_line.true)

pub returns-then-from-end : goal.returns-then-from-end
returns-then-from-end c = λ ends n ts f at.
    let from = c.args.from in let end = c.args.end in let tokens = c.args.tokens.now in
    subst (EndsLine ends c.args.last ts) (mark_before _ c.args.last from end tokens c.if-from-end.true c.requires)
    (elim c.else-end-tokens.branch [
      | else-end-tokens-via-then-end-tokens+else-is_in_line w ↦
          line_up_to _ ends c.args.last from end tokens n ts f at
          (λ h. not_false _ w.is_in_line.result w.is_in_line.ensures w.if-is_in_line.false)
      | else-end-tokens-via-else-end-tokens w ↦
          line_up_to_last ends c.args.last from end tokens n ts f at w.if-end-tokens.false
    ])

pub returns-else-from-end : goal.returns-else-from-end
returns-else-from-end c = λ ends n ts f at.
    let from = c.args.from in let end = c.args.end in let tokens = c.args.tokens.now in
    let none : end - from ≡ 0 = omega arith in
    subst (λ (k : ℕ). EndsLine ends c.args.last ts (mark_after c.args.last (drop from tokens) k)) none
    (elim c.else-end-tokens.branch [
      | else-end-tokens-via-then-end-tokens+else-is_in_line w ↦
          line_up_to _ ends c.args.last from end tokens n ts f at
          (λ h. not_false _ w.is_in_line.result w.is_in_line.ensures w.if-is_in_line.false)
      | else-end-tokens-via-else-end-tokens w ↦
          line_up_to_last ends c.args.last from end tokens n ts f at w.if-end-tokens.false
    ])
