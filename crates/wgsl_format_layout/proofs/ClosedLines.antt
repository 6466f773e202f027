-- Where lines begin, and how brackets are written, does not depend on the tokens after those that
-- are
-- read at once.
use Rattle.std.proofs.Common.{◌≡◌, ℕ, suc, ◌+◌, ◌-◌, ◌≤◌, ◌==◌, ◌&&◌, ◌||◌, not, Bool, true, false, cond, nat_lt, nat_le, refl, sym, ap, ap₂, ◌∙◌, subst, if◌then◌else◌, List, [], ◌∷◌, ◌++◌, filter, length, arith}
use Rattle.std.specs.List.{list_any, list_all}
use Rattle.std.proofs.lemmas.Bool.{false≢true}
use Rattle.std.proofs.lemmas.Bool.Decides.{nat_tests}
use Rattle.std.proofs.lemmas.List.{append-nil}
use Rattle.wgsl_model_tidy.specs.Roles.{Role, name, unsuffixed, number, minus, ampersand, prefix, comma, closing, template_end, block_end, opening, template_start, assign, is, opens, opens_bracket, closes, ends_item, begins_operand, precedences}
use Rattle.wgsl_model_tidy.specs.Joints.{line, is_between_items, joint}
use Rattle.wgsl_model_tidy.specs.Layout.{Layout}
use Rattle.wgsl_model_tidy.specs.Open.{Style, together, as_written, filled, item_by_item, LayoutState, Operands, parted, parted_at, enclosing, in_brackets, inner_depth}
use Rattle.wgsl_model_tidy.specs.Ahead.{Ahead, at_front, has_several, fits, never, ends_chain, ends_part, has_operator, last_operand, up_to_last, last_passes, lines, is_row, is_plain}
use Rattle.wgsl_model_tidy.specs.LaidOut.{Spot, is_token, line_column, begins_in_operands, is_filled, may_break, between, opens_last, parted_operands, operands_with, style_of, style_with}
use Rattle.wgsl_format_layout.specs.Marks.{AreInOrder, level_after}
use Rattle.wgsl_format_layout.specs.Windows.{ends_at, AreClosed}
use Rattle.wgsl_format_layout.proofs.Deeper.{both, any_before_end, ends_opened}
use Rattle.wgsl_format_layout.proofs.Closed.{before_closed, fits_closed, operator_closed, closes_among, chain_among, part_among}

-- ---- operands

-- one of these operators is between them: the first token does not end them
goes_on : (n limit m : ℕ) (t : Ahead) (ts : List Ahead) → has_operator n limit m (t ∷ ts) ≡ true
    → list_any (ends_chain n limit) (t ∷ ts) ≡ true → list_any (ends_chain n limit) ts ≡ true
goes_on n limit m t ts has any = go (ends_chain n limit t) refl
  where
    go : (b : Bool) → ends_chain n limit t ≡ b → list_any (ends_chain n limit) ts ≡ true
    go true e = absurd (false≢true
        (sym (any_before_end (ends_chain n limit) (λ u. u.level == n && u.binds == m) t ts e) ∙ has))
    go false e = sym (ap (λ (b : Bool). b || list_any (ends_chain n limit) ts) e) ∙ any

last_operand_closed : (n limit m : ℕ) (ts far : List Ahead) → has_operator n limit m ts ≡ true
    → list_any (ends_chain n limit) ts ≡ true
    → (last_operand n limit m (ts ++ far) ≡ last_operand n limit m ts ++ far)
    × (list_any (ends_chain n limit) (last_operand n limit m ts) ≡ true)
last_operand_closed n limit m [] far has any = absurd (false≢true any)
last_operand_closed n limit m (t ∷ ts) far has any =
    let later = goes_on n limit m t ts has any in
    let r = go (has_operator n limit m ts) refl (λ h. last_operand_closed n limit m ts far h later) in (
      ap (λ (b : Bool). cond b (last_operand n limit m (ts ++ far)) (t ∷ (ts ++ far)))
          (operator_closed n limit m ts far later) ∙ r.0,
      r.1,
    )
  where
    go : (b : Bool) → has_operator n limit m ts ≡ b
        → (has_operator n limit m ts ≡ true
        → (last_operand n limit m (ts ++ far) ≡ last_operand n limit m ts ++ far)
        × (list_any (ends_chain n limit) (last_operand n limit m ts) ≡ true))
        → (cond b (last_operand n limit m (ts ++ far)) (t ∷ (ts ++ far))
        ≡ cond b (last_operand n limit m ts) (t ∷ ts) ++ far)
        × (list_any (ends_chain n limit) (cond b (last_operand n limit m ts) (t ∷ ts)) ≡ true)
    go true e ih = ih e
    go false e ih = (refl, any)

front_closed : (layout : Layout) (n limit column : ℕ) (ts far : List Ahead)
    → list_any (ends_chain n limit) ts ≡ true
    → fits layout (ends_chain n limit) column (at_front (ts ++ far))
    ≡ fits layout (ends_chain n limit) column (at_front ts)
front_closed layout n limit column [] far any = absurd (false≢true any)
front_closed layout n limit column (t ∷ ts) far any =
    fits_closed layout (ends_chain n limit) column (record t { space = 0; ends = false } ∷ ts) far any

opens_closed : (layout : Layout) (n limit m depth column : ℕ) (ts far : List Ahead) → has_operator n limit m ts ≡ true
    → list_any (ends_chain n limit) ts ≡ true
    → opens_last layout n limit m depth column (ts ++ far) ≡ opens_last layout n limit m depth column ts
opens_closed layout n limit m depth column ts far has any =
    let last = last_operand_closed n limit m ts far has any in
    let at = line_column layout depth in
    ap₂ (λ (us : List Ahead) (b : Bool). last_passes (λ t. t.several) (up_to_last n us)
    && (fits layout never column (up_to_last n us) && not b))
    (before_closed (ends_chain n limit) ts far any)
    (ap (λ us. fits layout (ends_chain n limit) at (at_front us)) last.0
    ∙ front_closed layout n limit at (last_operand n limit m ts) far last.1)

parted_closed : (layout : Layout) (n inner more column : ℕ) (ts far : List Ahead) (ms : List ℕ)
    (operands : List Operands)
    → ((limit : ℕ) → list_any (ends_chain n limit) ts ≡ true)
    → parted_operands layout n inner more column (ts ++ far) ms operands
    ≡ parted_operands layout n inner more column ts ms operands
parted_closed layout n inner more column ts far [] operands any = refl
parted_closed layout n inner more column ts far (m ∷ ms) operands any =
    ap (λ (b : Bool). cond (not b) (parted_operands layout n inner more column (ts ++ far) ms operands)
    (cond (fits layout (ends_chain n limit) column (ts ++ far)
    || opens_last layout n limit m (more + inner) column (ts ++ far)) operands
    (parted_operands layout n inner (suc more) column (ts ++ far) ms (parted m more ∷ operands))))
    (operator_closed n limit m ts far (any limit))
    ∙ go (has_operator n limit m ts) refl (parted_closed layout n inner more column ts far ms operands any)
    (parted_closed layout n inner (suc more) column ts far ms (parted m more ∷ operands) any)
  where
    limit : ℕ
    limit = parted_at operands

    go : (b : Bool) → has_operator n limit m ts ≡ b
        → parted_operands layout n inner more column (ts ++ far) ms operands
        ≡ parted_operands layout n inner more column ts ms operands
        → parted_operands layout n inner (suc more) column (ts ++ far) ms (parted m more ∷ operands)
        ≡ parted_operands layout n inner (suc more) column ts ms (parted m more ∷ operands)
        → cond (not b) (parted_operands layout n inner more column (ts ++ far) ms operands)
        (cond (fits layout (ends_chain n limit) column (ts ++ far)
        || opens_last layout n limit m (more + inner) column (ts ++ far)) operands
        (parted_operands layout n inner (suc more) column (ts ++ far) ms (parted m more ∷ operands)))
        ≡ cond (not b) (parted_operands layout n inner more column ts ms operands)
        (cond (fits layout (ends_chain n limit) column ts
        || opens_last layout n limit m (more + inner) column ts) operands
        (parted_operands layout n inner (suc more) column ts ms (parted m more ∷ operands)))
    go false e same deeper = same
    go true e same deeper =
        ap₂ (λ (b : Bool) (os : List Operands). cond b operands os)
        (ap₂ (λ (a b : Bool). a || b) (fits_closed layout (ends_chain n limit) column ts far (any limit))
        (opens_closed layout n limit m (more + inner) column ts far e (any limit)))
        deeper

-- ---- brackets

-- how one is written that has these tokens and is too long or is not
abbrev style_by : Layout → ℕ → ℕ → List Ahead → Bool → Style
style_by layout n column ts is_long =
    let breaks = last_passes (λ t. is t.role comma) ts || is_long in
    let rows = filter (is_row n) (lines n ts) in
    if breaks && (list_all is_plain ts && nat_lt 15 (length (filter (λ t. is t.role comma) ts))) then filled
    else if nat_lt 1 (length rows) && list_all (λ row. fits layout never column (at_front row)) rows then as_written
    else if breaks then item_by_item
    else together

style_closed : (layout : Layout) (n limit depth column : ℕ) (ts far : List Ahead)
    → list_any (ends_opened (suc n)) ts ≡ true → list_any (ends_part n limit) ts ≡ true
    → has_several (ts ++ far) ≡ has_several ts
    → style_of layout n limit depth column (ts ++ far) ≡ style_of layout n limit depth column ts
style_closed layout n limit depth column ts far closes ends several =
    ap₂ (style_by layout (suc n) (line_column layout (suc depth))) (before_closed (ends_opened (suc n)) ts far closes)
    (ap₂ (λ (a b : Bool). a && not b) several (fits_closed layout (ends_part n limit) column ts far ends))

-- ---- after a token, and before one

-- where these roles begin an operand or open a bracket, they close none, and no item ends with them
operand_plain : (r : Role) → begins_operand r ≡ true → closes r ≡ false
operand_plain closing h = absurd (false≢true h)
operand_plain template_end h = absurd (false≢true h)
operand_plain block_end h = absurd (false≢true h)
operand_plain r h = refl

operand_goes_on : (r : Role) → begins_operand r ≡ true → ends_item r ≡ false
operand_goes_on name h = refl
operand_goes_on unsuffixed h = refl
operand_goes_on number h = refl
operand_goes_on opening h = refl
operand_goes_on minus h = refl
operand_goes_on ampersand h = refl
operand_goes_on prefix h = refl
operand_goes_on r h = absurd (false≢true h)

pub bracket_goes_on : (r : Role) → opens_bracket r ≡ true → (ends_item r ≡ false) × (opens r ≡ true)
bracket_goes_on opening h = (refl, refl)
bracket_goes_on template_start h = (refl, refl)
bracket_goes_on r h = absurd (false≢true h)

-- a token that begins an operand or opens a bracket is not the last of them
pub not_last : (m : ℕ) (t : Ahead) → ends_at m (t ∷ []) ≡ true → ends_item t.role ≡ false → ⊥
not_last m t ends goes = false≢true (sym goes ∙ (both (t.level == m) (ends_item t.role) ends).1)

-- a choice where it is made
choice : {A : Type 0} (b : Bool) (x y z : A) → (b ≡ true → x ≡ y) → cond b x z ≡ cond b y z
choice true x y z h = h refl
choice false x y z h = refl

pub low_level : (m k : ℕ) (t : Ahead) → t.level ≡ k → nat_le m t.level ≡ true → m ≤ k
low_level m k t level low = grind (arith, nat_tests)

level_operand : (k : ℕ) (r : Role) → closes r ≡ false → k ≤ level_after k r
level_operand k r plain = go (opens r)
  where
    step : (o : Bool) → k ≤ cond o (suc k) k
    step true = omega arith
    step false = omega arith

    go : (o : Bool) → k ≤ cond o (suc k) (cond (closes r) (k - 1) k)
    go o = subst (λ (c : Bool). k ≤ cond o (suc k) (cond c (k - 1) k)) (sym plain) (step o)

pub operands_closed : (layout : Layout) (state : LayoutState) (depth column k : ℕ) (t : Ahead) (ts far : List Ahead)
    → AreInOrder k (t ∷ ts) → AreClosed (t ∷ ts) far
    → operands_with layout state depth column t.role (t ∷ (ts ++ far))
    ≡ operands_with layout state depth column t.role (t ∷ ts)
operands_closed layout state depth column k t ts [] order closed =
    ap (λ us. operands_with layout state depth column t.role (t ∷ us)) (append-nil ts)
operands_closed layout state depth column k t [] (f ∷ fs) order closed =
    choice ((state.fresh && begins_operand t.role) && may_break (enclosing state.opened)) _ _
    state.operands (λ h.
    let begins = (both state.fresh (begins_operand t.role)
    (both (state.fresh && begins_operand t.role) (may_break (enclosing state.opened)) h).0).1 in
    absurd (not_last closed.0 t closed.1 (operand_goes_on t.role begins)))
operands_closed layout state depth column k t (u ∷ us) (f ∷ fs) order closed =
    choice ((state.fresh && begins_operand t.role) && may_break (enclosing state.opened)) _ _
    state.operands (λ h.
    let begins = (both state.fresh (begins_operand t.role)
    (both (state.fresh && begins_operand t.role) (may_break (enclosing state.opened)) h).0).1 in
    let ends = both (nat_le closed.0 t.level) (ends_at closed.0 (u ∷ us)) closed.1 in
    let up : t.level ≤ level_after k t.role =
    subst (λ (l : ℕ). l ≤ level_after k t.role) (sym order.0) (level_operand k t.role (operand_plain t.role begins)) in
    let low : closed.0 ≤ t.level = low_level closed.0 t.level t refl ends.0 in
    parted_closed layout t.level (inner_depth state.opened)
    (suc depth - inner_depth state.opened) column (u ∷ us) (f ∷ fs) precedences state.operands
    (λ limit. chain_among limit closed.0 t.level (level_after k t.role) (u ∷ us) order.2 ends.1 low up))

pub several_closed : (m n : ℕ) (ts far : List Ahead) → AreInOrder (suc n) ts → ends_at m ts ≡ true → m ≤ n
    → has_several (ts ++ far) ≡ has_several ts
several_closed m n [] far order ends low = absurd (false≢true ends)
several_closed m n (t ∷ []) far order ends low =
    let last = both (t.level == m) (ends_item t.role) ends in
    let level = order.0 in
    let same : t.level ≡ m = grind (arith, nat_tests) in
    absurd (omega arith)
several_closed m n (t ∷ u ∷ ts) far order ends low = refl

pub style_with_closed : (layout : Layout) (operands : List Operands) (depth column k : ℕ)
    (t : Ahead) (ts far : List Ahead)
    → AreInOrder k (t ∷ ts) → AreClosed (t ∷ ts) far
    → style_with layout operands depth column t.role (t ∷ (ts ++ far))
    ≡ style_with layout operands depth column t.role (t ∷ ts)
style_with_closed layout operands depth column k t ts [] order closed =
    ap (λ us. style_with layout operands depth column t.role (t ∷ us)) (append-nil ts)
style_with_closed layout operands depth column k t [] (f ∷ fs) order closed =
    choice (opens_bracket t.role) _ _ together (λ h. absurd (not_last closed.0 t closed.1 (bracket_goes_on t.role h).0))
style_with_closed layout operands depth column k t (u ∷ us) (f ∷ fs) order closed =
    choice (opens_bracket t.role) _ _ together (λ h.
    let ends = both (nat_le closed.0 t.level) (ends_at closed.0 (u ∷ us)) closed.1 in
    let level : level_after k t.role ≡ suc t.level =
    ap (λ (b : Bool). cond b (suc k) (cond (closes t.role) (k - 1) k)) (bracket_goes_on t.role h).1
    ∙ ap suc (sym order.0) in
    let inner = subst (λ (l : ℕ). AreInOrder l (u ∷ us)) level order.2 in
    let low : closed.0 ≤ t.level = low_level closed.0 t.level t refl ends.0 in
    style_closed layout t.level (parted_at operands) depth column (u ∷ us) (f ∷ fs)
    (closes_among closed.0 t.level (suc t.level) (u ∷ us) inner ends.1 low (omega arith))
    (part_among (parted_at operands) closed.0 t.level (suc t.level) (u ∷ us) inner ends.1 low (omega arith))
    (several_closed closed.0 t.level (u ∷ us) (f ∷ fs) inner ends.1 low))

pub between_closed : (layout : Layout) (spot : Spot) (right : Role) (k : ℕ) (ts far : List Ahead)
    → AreInOrder k ts → AreClosed ts far
    → between layout (record spot { ahead = ts ++ far }) right ≡ between layout (record spot { ahead = ts }) right
between_closed layout spot right k ts [] order closed =
    ap (λ us. between layout (record spot { ahead = us }) right) (append-nil ts)
between_closed layout spot right k [] (f ∷ fs) order closed = absurd (false≢true closed.1)
between_closed layout spot right k (t ∷ ts) (f ∷ fs) order closed =
    let low : closed.0 ≤ t.level = first_low closed.0 t ts closed.1 in
    let high : t.level ≤ k = omega arith in
    let chain = chain_among 0 closed.0 t.level k (t ∷ ts) order closed.1 low high in
    let part = part_among 0 closed.0 t.level k (t ∷ ts) order closed.1 low high in
    ap (λ (b : Bool). cond (is_token spot.last && (may_break (enclosing spot.state.opened) && b)) line
    (joint (enclosing spot.state.opened) spot.state.last right))
    (ap₂ (λ (a b : Bool). cond (is_between_items spot.state.last right)
    (is_filled (enclosing spot.state.opened) && not a)
    (begins_in_operands spot.state.operands right t.binds
    || ((is spot.state.last assign && not (in_brackets spot.state.opened)) && b)))
    (fits_closed layout (ends_chain t.level 0) spot.column (t ∷ ts) (f ∷ fs) chain)
    (ap₂ (λ (us : List Ahead) (b : Bool). not (list_any (λ u. u.level == t.level && not (u.binds == 0)) us) && not b)
    (before_closed (ends_chain t.level 0) (t ∷ ts) (f ∷ fs) chain)
    (fits_closed layout (ends_part t.level 0) spot.column (t ∷ ts) (f ∷ fs) part)))
  where
    first_low : (m : ℕ) (u : Ahead) (us : List Ahead) → ends_at m (u ∷ us) ≡ true → m ≤ u.level
    first_low m u [] ends =
        let last = both (u.level == m) (ends_item u.role) ends in
        let same : u.level ≡ m = grind (arith, nat_tests) in omega arith
    first_low m u (v ∷ us) ends = low_level m u.level u refl (both (nat_le m u.level) (ends_at m (v ∷ us)) ends).0
