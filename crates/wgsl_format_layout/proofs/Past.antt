-- A token that is taken, and the operands that begin with it.
use Rattle.std.proofs.Common.{◌≡◌, ℕ, suc, ◌-◌, ◌<◌, ◌&&◌, Bool, true, false, cond, refl, sym, ap, ◌∙◌, List, [], ◌∷◌, drop, drop-cons, length, get_or}
use Rattle.std.specs.List.{list_all}
use Rattle.std.proofs.lemmas.Bool.{false≢true}
use Rattle.wgsl_model_tidy.specs.Roles.{Role, name, unsuffixed, number, opening, minus, ampersand, prefix, begins_operand, closes, precedences}
use Rattle.wgsl_model_tidy.specs.Layout.{Layout}
use Rattle.wgsl_model_tidy.specs.Open.{Style, LayoutState, enclosing, inner_depth}
use Rattle.wgsl_model_tidy.specs.Ahead.{Ahead}
use Rattle.wgsl_model_tidy.specs.LaidOut.{may_break, parted_operands, operands_with, style_with}
use Rattle.wgsl_format_layout.specs.States.{taken}
use Rattle.wgsl_format_layout.specs.Walks.{Follow}
use Rattle.wgsl_format_layout.specs.Spots.{is_known, IsPast, state_past}
use Rattle.wgsl_format_layout.specs.declared.marks.Mark.{Mark}
use Rattle.wgsl_format_layout.specs.declared.marks.MarkedToken.{MarkedToken}
use Rattle.wgsl_format_layout.proofs.Following.{stands}

-- an operand begins, and nothing closes
pub operand_closes_none : (r : Role) → begins_operand r ≡ true → closes r ≡ false
operand_closes_none name h = refl
operand_closes_none unsuffixed h = refl
operand_closes_none number h = refl
operand_closes_none opening h = refl
operand_closes_none minus h = refl
operand_closes_none ampersand h = refl
operand_closes_none prefix h = refl
operand_closes_none r h = absurd (false≢true h)

pub begins_both : (a b c : Bool) → true ≡ ((a && b) && c) → b ≡ true
begins_both true true c h = refl
begins_both true false c h = absurd (false≢true (sym h))
begins_both false b c h = absurd (false≢true (sym h))

-- operands begin with a token
pub operands_begun : (layout : Layout) (state : LayoutState) (depth column n : ℕ) (t : Ahead) (ts : List Ahead)
    → t.level ≡ n → true ≡ ((state.fresh && begins_operand t.role) && may_break (enclosing state.opened))
    → parted_operands layout n (inner_depth state.opened) (suc depth - inner_depth state.opened) column ts
    precedences state.operands ≡ operands_with layout state depth column t.role (t ∷ ts)
operands_begun layout state depth column n t ts level begins =
    ap (λ k. parted_operands layout k (inner_depth state.opened) (suc depth - inner_depth state.opened) column ts
    precedences state.operands) (sym level)
    ∙ ap (λ (b : Bool). cond b (parted_operands layout t.level (inner_depth state.opened)
    (suc depth - inner_depth state.opened) column ts precedences state.operands) state.operands) begins

-- the first of those from a place on
abbrev head_or : MarkedToken → List MarkedToken → MarkedToken
head_or d [] = d
head_or d (m ∷ ms) = m

pub first_is : (d : MarkedToken) (tokens : List MarkedToken) (place : ℕ) (m : MarkedToken) (ms : List MarkedToken)
    → place < length tokens → drop place tokens ≡ m ∷ ms → get_or tokens place d ≡ m
first_is d tokens place m ms h e = ap (head_or d) (sym (drop-cons tokens place d h) ∙ e)

-- the state after it
pub past_by : (layout : Layout) (state now : LayoutState) (column : ℕ) (t : Ahead) (ts : List Ahead) (right : Role)
    (binds : ℕ) (last other : Role) (style : Style)
    → now ≡ record state { operands = operands_with layout state state.line column t.role (t ∷ ts) }
    → right ≡ t.role → binds ≡ t.binds → last ≡ other
    → style ≡ style_with layout now.operands state.line column t.role (t ∷ ts)
    → taken now right binds last style ≡ state_past layout state column t ts other
past_by layout state now column t ts right binds last other style n r b l s =
    ap (λ (r : Role). taken now r binds last style) r
    ∙ ap (λ k. taken now t.role k last style) b
    ∙ ap (λ (l : Role). taken now t.role t.binds l style) l
    ∙ ap (λ (x : Style). taken now t.role t.binds other x) s
    ∙ ap (λ (now : LayoutState). taken now t.role t.binds other
    (style_with layout now.operands state.line column t.role (t ∷ ts))) n

-- all that is known after a token at a place
pub past_at : (d : MarkedToken) (before : Mark) (place : ℕ) (tokens : List MarkedToken) (n : ℕ)
    (t : Ahead) (ts : List Ahead)
    → place < length tokens → Follow before place tokens n (t ∷ ts) → list_all is_known ts ≡ true
    → IsPast (get_or tokens place d).end place tokens n t ts
past_at d before place tokens n t ts h f k =
    record { before = before; here = f; follow = (stands d before place tokens n t ts h f).after; known = k }
