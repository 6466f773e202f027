-- The state after a token, where blocks are one, and so are brackets of a style.
use Rattle.std.proofs.Common.{◌≡◌, ℕ, suc, ◌-◌, ◌&&◌, ◌==◌, not, Bool, true, false, cond, refl, sym, ap, ap₂, ◌∙◌, List, [], ◌∷◌, ◌++◌, map, drop}
use Rattle.wgsl_model_tidy.specs.Layout.{Layout}
use Rattle.wgsl_model_tidy.specs.Roles.{Role, opening, closing, template_end, block_start, block_end, binary, attribute, is, begins_operand, is_in_operand, precedence, precedences}
use Rattle.wgsl_model_tidy.specs.Open.{Style, Open, block, members, arguments, bracket, Opened, Operands, LayoutState, parted_at, operands_after, opened_after_token, leading_after, last_after, after_token}
use Rattle.wgsl_model_tidy.specs.Ahead.{Ahead}
use Rattle.wgsl_model_tidy.specs.LaidOut.{may_break, parted_operands, operands_with, style_with, state_with}
use Rattle.wgsl_format_layout.specs.Marks.{AreInOrder}
use Rattle.wgsl_format_layout.specs.Windows.{AreClosed}
use Rattle.wgsl_format_layout.specs.States.{taken, opened_by}
use Rattle.wgsl_format_layout.specs.Outputs.{forgotten, forgotten_at, forgotten_in}
use Rattle.wgsl_format_layout.specs.Spots.{state_past}
use Rattle.wgsl_format_layout.proofs.Forgotten.{enclosing_forgotten, inner_forgotten}
use Rattle.wgsl_format_layout.proofs.ClosedLines.{operands_closed, style_with_closed}

-- ---- what is open

block_forgotten : (b : Bool) → block ≡ forgotten (cond b members block)
block_forgotten true = refl
block_forgotten false = refl

bracket_forgotten : (b : Bool) (style : Style) → bracket style ≡ forgotten (cond b (arguments style) (bracket style))
bracket_forgotten true style = refl
bracket_forgotten false style = refl

drop_forgotten : (opened : Opened) → drop 1 (map forgotten_at opened) ≡ map forgotten_at (drop 1 opened)
drop_forgotten [] = refl
drop_forgotten (o ∷ opened) = refl

-- a state after which it is forgotten what is open, in a line of a depth, with these operands
abbrev known : LayoutState → ℕ → List Operands → LayoutState
known s depth operands = record (forgotten_in s) { line = depth; operands = operands }

opened_forgotten : (s : LayoutState) (depth : ℕ) (operands : List Operands) (r : Role) (style : Style)
    → opened_by (known s depth operands) r style
    ≡ map forgotten_at (opened_after_token (record s { operands = operands }) depth r style)
opened_forgotten s depth operands block_start style =
    ap₂ (λ (o : Open) (n : ℕ). (o, n) ∷ map forgotten_at s.opened) (block_forgotten s.structure)
    (inner_forgotten s.opened)
opened_forgotten s depth operands opening style =
    ap (λ (o : Open). (o, depth) ∷ map forgotten_at s.opened) (bracket_forgotten (is s.last attribute) style)
opened_forgotten s depth operands closing style = drop_forgotten s.opened
opened_forgotten s depth operands template_end style = drop_forgotten s.opened
opened_forgotten s depth operands block_end style = drop_forgotten s.opened
opened_forgotten s depth operands r style = refl

-- ---- the state

taken_forgotten : (s : LayoutState) (depth class : ℕ) (operands : List Operands) (r : Role)
    (binds : ℕ) (last : Role) (style : Style)
    → last ≡ last_after s r → binds ≡ precedence r class
    → taken (known s depth operands) r binds last style
    ≡ forgotten_in (after_token (record s { operands = operands }) depth class r style)
taken_forgotten s depth class operands r binds last style l b =
    ap₂ (λ (o : Opened) (left : Role). by o left binds) (opened_forgotten s depth operands r style) l
    ∙ ap (λ (k : ℕ). by (map forgotten_at
    (opened_after_token (record s { operands = operands }) depth r style)) (last_after s r) k) b
  where
    by : Opened → Role → ℕ → LayoutState
    by o left k = record {
      opened = o;
      operands = operands_after operands r;
      line = depth;
      last = left;
      fresh = cond (is r binary) (k == parted_at operands) (not (is_in_operand r));
      leading = leading_after s r;
      structure = false;
    }

-- the operands that go on are the same
operands_forgotten : (layout : Layout) (s : LayoutState) (depth column : ℕ) (t : Ahead) (ts : List Ahead)
    → operands_with layout (record (forgotten_in s) { line = depth }) depth column t.role (t ∷ ts)
    ≡ operands_with layout s depth column t.role (t ∷ ts)
operands_forgotten layout s depth column t ts =
    ap₂ (λ (b : Bool) (n : ℕ). cond ((s.fresh && begins_operand t.role) && b)
    (parted_operands layout t.level n (suc depth - n) column ts precedences s.operands) s.operands)
    (ap may_break (enclosing_forgotten s.opened)) (inner_forgotten s.opened)

pub past_is : (layout : Layout) (s : LayoutState) (depth column class k : ℕ) (t : Ahead)
    (ts far : List Ahead) (last : Role)
    → AreInOrder k (t ∷ ts) → AreClosed (t ∷ ts) far → last ≡ last_after s t.role
    → t.binds ≡ precedence t.role class
    → state_past layout (record (forgotten_in s) { line = depth }) column t ts last
    ≡ forgotten_in (state_with layout s depth column class t.role (t ∷ (ts ++ far)))
past_is layout s depth column class k t ts far last order closed l b =
    let operands = operands_with layout s depth column t.role (t ∷ (ts ++ far)) in
    let same = operands_forgotten layout s depth column t ts
    ∙ sym (operands_closed layout s depth column k t ts far order closed) in
    ap (λ (os : List Operands). taken (known s depth os) t.role t.binds last
    (style_with layout os depth column t.role (t ∷ ts))) same
    ∙ (ap (taken (known s depth operands) t.role t.binds last)
    (sym (style_with_closed layout operands depth column k t ts far order closed))
    ∙ taken_forgotten s depth class operands t.role t.binds last
    (style_with layout operands depth column t.role (t ∷ (ts ++ far))) l b)
