use Rattle.std.proofs.Common.{◌≡◌, [], length, sym, ◌∙◌}
use Rattle.std.proofs.lemmas.Bool.{eqb-true}
use Rattle.wgsl_lexer.specs.TextTokens.{tokens_left}
use Rattle.wgsl_format_layout.proofs.ReadSoFar.{more_so_far, ends_stopped, none_stopped}
use Rattle.wgsl_format_layout.proofs.NoneAhead.{nothing_ahead}
use Rattle.wgsl_format_layout.proofs.marks.Marks.read_tokens.Goals as goal

pub returns-then-ends_line-clause-stopped : goal.returns-then-ends_line-clause-stopped
returns-then-ends_line-clause-stopped c first before h =
    ends_stopped first before c.tokens.self c.read_token.new.self c.in_ok-role.role c.tokens.invariant.below
    c.in_ok-role.ensures.token (c.tokens.invariant.so_far first before h)
    (eqb-true (length c.tokens.self.places) 0 (sym c.is_empty-is_outside.ensures ∙ c.if-is_outside.true))
    (c.ends_line.ensures c.if-ends_line.true)

pub tokens-preserved : goal.tokens-preserved
tokens-preserved c = record {
  left = c.in_ok-role.ensures.left;
  below = c.in_ok-role.ensures.below;
  so_far = λ first before h.
      more_so_far first before c.tokens.self c.read_token.new.self c.in_ok-role.role c.tokens.invariant.below
      c.in_ok-role.ensures.token (c.tokens.invariant.so_far first before h);
}

pub returns-in_default-2-clause-stopped : goal.returns-in_default-2-clause-stopped
returns-in_default-2-clause-stopped c first before h =
    let none : tokens_left c.tokens.self.left ≡ [] = rw c.in_default.is-0 at c.kind.ensures in
    none_stopped first before c.tokens.self (c.tokens.invariant.so_far first before h)
    (λ state. nothing_ahead c.tokens.self state none) none
