use Rattle.std.proofs.Common.{◌≡◌, ℕ, suc, ◌<◌, ◌≤◌, true, false, sym, ◌∙◌, subst, List, ◌∷◌, length}
use Rattle.wgsl_model_tidy.specs.Roles.{closes}
use Rattle.wgsl_model_tidy.specs.Ahead.{Ahead}
use Rattle.wgsl_format_layout.specs.declared.ahead.Chain.{Chain}
use Rattle.wgsl_format_layout.specs.declared.marks.Mark.{Mark}
use Rattle.wgsl_format_layout.specs.Walks.{Follow, IsChain, passed}
use Rattle.wgsl_format_layout.proofs.Reaching.{Reaches, reaches_end, reaches_here, reaches_past, chain_tells}
use Rattle.wgsl_format_layout.proofs.Chains.{chain_from, chain_at, first_chain, chain_is, chain_begins, chain_end_here, chain_past, passed_within}
use Rattle.wgsl_format_layout.proofs.ahead.Chain.new.Goals as goal

pub tokens-init : goal.tokens-init
tokens-init c = (
  c.after.ensures.within,
  c.requires.first,
  c.requires.first,
  λ before n t ts f plain.
      chain_begins n c.args.limit c.args.first c.args.tokens.now ts c.after.result
      (c.after.ensures.next before n t ts f plain),
)

pub tokens-preserved : goal.tokens-preserved
tokens-preserved c =
    let tokens = c.args.tokens.now in
    let chain = c.tokens.chain in
    subst (λ (r : Chain). (r.end ≤ length tokens) × (r.operator < length tokens) × (r.last < length tokens)
    × ((before : Mark) (n : ℕ) (t : Ahead) (ts : List Ahead)
    → Follow before c.args.first tokens n (t ∷ ts) → closes t.role ≡ false
    → Reaches (chain_at n c.args.limit r)
    (chain_from n c.args.limit (first_chain c.args.first (suc c.args.first)) ts) r.end tokens n))
    (sym c.pass-chain.ensures) (
      c.after-next.ensures.within,
      passed_within chain _ c.after-next.result (length tokens) c.tokens-test.true c.tokens.invariant.1,
      c.tokens-test.true,
      λ before n t ts f plain.
          reaches_past (chain_at n c.args.limit chain) (chain_at n c.args.limit (passed chain _ c.after-next.result))
          (chain_from n c.args.limit (first_chain c.args.first (suc c.args.first)) ts) chain.end
          c.after-next.result tokens n
          c.tokens-test.true
          (chain_past _ n c.args.limit chain c.after-next.result tokens c.tokens-test.true
          (sym c.ends_chain.ensures ∙ c.if-not-ends_chain.true))
          c.after-next.ensures.next (c.tokens.invariant.3 before n t ts f plain),
    )

pub returns-else-not-ends_chain-clause-chain : goal.returns-else-not-ends_chain-clause-chain
returns-else-not-ends_chain-clause-chain c = λ before n t ts f plain.
    let chain = c.tokens.chain in let limit = c.args.limit in
    subst (IsChain n limit c.args.first ts)
    (sym (reaches_here (chain_at n limit chain) chain
    (chain_from n limit (first_chain c.args.first (suc c.args.first)) ts)
    chain.end c.args.tokens.now n c.tokens-test.true
    (λ before' t' us' f'. chain_end_here n limit chain t' us'
    (chain_tells _ true limit chain.end c.args.tokens.now n c.tokens-test.true
    (sym c.ends_chain.ensures ∙ c.if-not-ends_chain.false) before' t' us' f'))
    (c.tokens.invariant.3 before n t ts f plain)))
    (chain_is n limit c.args.first ts)

pub returns-after-tokens-clause-chain : goal.returns-after-tokens-clause-chain
returns-after-tokens-clause-chain c = λ before n t ts f plain.
    let chain = c.tokens.chain in let limit = c.args.limit in
    subst (IsChain n limit c.args.first ts)
    (sym (reaches_end (chain_at n limit chain) (chain_from n limit (first_chain c.args.first (suc c.args.first)) ts)
    chain.end c.args.tokens.now n c.tokens-test.false (c.tokens.invariant.3 before n t ts f plain)))
    (chain_is n limit c.args.first ts)
