use Rattle.std.proofs.Common.{ℕ, ◌≡◌, ◌-◌, ◌+◌, ◌<◌, suc, false, List, refl, sym, ap, subst, ◌∙◌, arith}
use Rattle.wgsl_model_tidy.specs.Roles.{closes}
use Rattle.wgsl_model_tidy.specs.Open.{Operands, LayoutState, inner_depth, parted_at}
use Rattle.wgsl_model_tidy.specs.Ahead.{Ahead}
use Rattle.wgsl_format_layout.specs.States.{state_view}
use Rattle.wgsl_format_layout.specs.Layouts.{layout_view}
use Rattle.wgsl_format_layout.specs.Marks.{level_after}
use Rattle.wgsl_format_layout.specs.Walks.{Follow, IsChain}
use Rattle.wgsl_format_layout.specs.Outputs.{layout_of}
use Rattle.wgsl_format_layout.specs.Spots.{IsPast}
use Rattle.wgsl_format_layout.specs.declared.marks.Mark.{Mark}
use Rattle.wgsl_format_layout.specs.declared.text.Text.{Text}
use Rattle.wgsl_format_layout.proofs.Parting.{IsParting, are_together, parting_begins, parting_more, parting_none, parting_together, parting_all}
use Rattle.wgsl_format_layout.proofs.output.Output.part_operands.Goals as goal
use Rattle.wgsl_format_layout.proofs.output.Output.part_operands.Goals.{In_ok-are_together, After-new-chain}

pub operands-init : goal.operands-init
operands-init c =
    let old = c.args.self.now in
    record {
      text = refl;
      last = refl;
      end = refl;
      state = refl;
      parted = λ n t ts p h. parting_begins (layout_of old) n (inner_depth old.state.opened) _ _ old.text.line.column ts
          old.state.operands
          (omega (arith, c.saturating_sub-more.ensures, c.in_ok-deeper.ensures, c.in_ok-inner.ensures));
    }

-- the operands so far, after the first token
chain : (c : After-new-chain) (n : ℕ) (t : Ahead) (ts : List Ahead)
    → IsPast c.args.self.now.end c.args.place c.args.tokens.now n t ts
    → closes t.role ≡ false → IsChain n (parted_at c.operands.self.state.operands) c.args.place ts c.new-chain.result
chain c n t ts p h = subst (λ limit. IsChain n limit c.args.place ts c.new-chain.result) c.parted_at.ensures
    (c.new-chain.ensures.chain p.before n t ts p.here h)

-- whether they are in the line
together : (c : In_ok-are_together) (n : ℕ) (t : Ahead) (ts : List Ahead)
    → IsPast c.args.self.now.end c.args.place c.args.tokens.now n t ts → closes t.role ≡ false
    → 0 < c.new-chain.result.weakest
    → c.in_ok-are_together.field-0
    ≡ are_together (layout_of c.args.self.now) n (parted_at c.operands.self.state.operands)
    c.new-chain.result.weakest (c.operands.more + inner_depth c.args.self.now.state.opened)
    c.args.self.now.text.line.column ts
together c n t ts p h some =
    let i = c.operands.invariant in
    let limit = parted_at c.operands.self.state.operands in
    let depth : c.in_ok-added.field-0 ≡ c.operands.more + inner_depth c.args.self.now.state.opened =
    c.in_ok-added.ensures ∙ ap (λ k. c.operands.more + k) c.in_ok-inner.ensures in
    c.in_ok-are_together.ensures n (level_after n t.role) limit ts
    (subst (λ (e : Mark). Follow e (suc c.args.place) c.args.tokens.now (level_after n t.role) ts) (sym i.end) p.follow)
    (subst (λ limit. IsChain n limit c.args.place ts c.new-chain.result) c.parted_at.ensures
    (c.new-chain.ensures.chain p.before n t ts p.here h)) some
    ∙ ap (λ d. are_together (layout_of c.operands.self) n limit c.new-chain.result.weakest d
    c.operands.self.text.line.column ts) depth
    ∙ ap (λ (t : Text). are_together (layout_view t.line.layout) n limit
    c.new-chain.result.weakest (c.operands.more + inner_depth c.args.self.now.state.opened) t.line.column ts) i.text

pub returns-then-chain-eq0-clause-parted : goal.returns-then-chain-eq0-clause-parted
returns-then-chain-eq0-clause-parted c n t ts p h =
    let old = c.args.self.now in
    let i = c.operands.invariant in
    i.state ∙ ap (λ (ops : List Operands). record (state_view old.state) { operands = ops })
    (parting_none (layout_of old) n (inner_depth old.state.opened) (suc c.args.depth - inner_depth old.state.opened)
    old.text.line.column c.args.place c.operands._parted c.operands.more ts old.state.operands
    c.operands.self.state.operands c.new-chain.result (i.parted n t ts p h)
    (chain (goal.at.returns-then-chain-eq0-clause-parted c).After-new-chain n t ts p h) c.if-chain-eq0.true)

pub returns-then-branch-clause-parted : goal.returns-then-branch-clause-parted
returns-then-branch-clause-parted c n t ts p h =
    let old = c.args.self.now in
    let i = c.operands.invariant in
    let some : 0 < c.new-chain.result.weakest = omega (arith, c.if-chain-eq0.false) in
    let ok = (goal.at.returns-then-branch-clause-parted c).In_ok-are_together in
    i.state ∙ ap (λ (ops : List Operands). record (state_view old.state) { operands = ops })
    (parting_together (layout_of old) n (inner_depth old.state.opened) (suc c.args.depth - inner_depth old.state.opened)
    old.text.line.column c.args.place c.operands._parted c.operands.more ts old.state.operands
    c.operands.self.state.operands c.new-chain.result (i.parted n t ts p h)
    (chain (goal.at.returns-then-branch-clause-parted c).After-new-chain n t ts p h) some p.known
    (sym (together ok n t ts p h some) ∙ c.if-branch.true))

pub operands-preserved : goal.operands-preserved
operands-preserved c =
    let old = c.args.self.now in
    let i = c.operands.invariant in
    let some : 0 < c.new-chain.result.weakest = omega (arith, c.if-chain-eq0.false) in
    record {
      text = i.text;
      last = i.last;
      end = i.end;
      state = ap (λ (s : LayoutState). record s { operands = c.part.new.self }) i.state;
      parted = λ n t ts p h. subst (IsParting (layout_of old) n (inner_depth old.state.opened)
          (suc c.args.depth - inner_depth old.state.opened) old.text.line.column ts old.state.operands _ _)
          (sym c.in_ok-part.ensures) (parting_more (layout_of old) n (inner_depth old.state.opened)
          (suc c.args.depth - inner_depth old.state.opened)
          old.text.line.column c.args.place c.operands._parted _ c.operands.more c.in_ok-more.more ts old.state.operands
          c.operands.self.state.operands c.new-chain.result (i.parted n t ts p h)
          (chain (goal.at.operands-preserved c).After-new-chain n t ts p h) some p.known
          (sym (together (goal.at.operands-preserved c).In_ok-are_together n t ts p h some) ∙ c.if-branch.false)
          (omega arith) c.in_ok-more.ensures);
    }

pub returns-clause-parted : goal.returns-clause-parted
returns-clause-parted c n t ts p h =
    let old = c.args.self.now in
    let i = c.operands.invariant in
    i.state ∙ ap (λ (ops : List Operands). record (state_view old.state) { operands = ops })
    (parting_all (layout_of old) n (inner_depth old.state.opened) (suc c.args.depth - inner_depth old.state.opened)
    old.text.line.column c.operands._parted c.operands.more ts old.state.operands
    c.operands.self.state.operands (i.parted n t ts p h) (omega (arith, c.operands-test.false)))
