-- What is decided by the tokens ahead, but for which of the author's lines are rows, does not
-- depend on
-- where the author's line breaks are.
use Rattle.std.proofs.Common.{◌≡◌, ℕ, zero, suc, ◌+◌, ◌-◌, ◌==◌, ◌&&◌, ◌||◌, not, Bool, true, false, cond, nat_lt, refl, ap, ap₂, ◌∙◌, List, [], ◌∷◌, map, take, length, filter}
use Rattle.std.specs.List.{list_any, list_all, before_first, prefix_len}
use Rattle.wgsl_model_tidy.specs.Roles.{Role, comma, assign, is, begins_operand, precedences}
use Rattle.wgsl_model_tidy.specs.Layout.{Layout}
use Rattle.wgsl_model_tidy.specs.Open.{LayoutState, Operands, parted, parted_at, enclosing, in_brackets, inner_depth}
use Rattle.wgsl_model_tidy.specs.Joints.{line, is_between_items, joint}
use Rattle.wgsl_model_tidy.specs.Ahead.{Ahead, at_front, has_several, is_within, end_width, fits, never, ends_chain, ends_part, has_operator, last_operand, up_to_last, last_passes, content, is_plain, is_table}
use Rattle.wgsl_model_tidy.specs.LaidOut.{Spot, is_token, line_column, begins_in_operands, begins_assigned, is_filled, begins_filled, next_binds, next_level, may_break, between, opens_last, parted_operands, operands_with}

-- a token wherever the author's line breaks are
abbrev pub plain : Ahead → Ahead
plain t = record t { below = false }

-- ---- the tokens that pass a test

-- a test that does not see the line breaks
abbrev pub IsBlind : (Ahead → Bool) → Type 0
IsBlind test = (t : Ahead) → test (plain t) ≡ test t

pub any_plain : (test : Ahead → Bool) → IsBlind test → (ts : List Ahead)
    → list_any test (map plain ts) ≡ list_any test ts
any_plain test h [] = refl
any_plain test h (t ∷ ts) = ap₂ (λ (a b : Bool). a || b) (h t) (any_plain test h ts)

all_plain : (test : Ahead → Bool) → IsBlind test → (ts : List Ahead) → list_all test (map plain ts) ≡ list_all test ts
all_plain test h [] = refl
all_plain test h (t ∷ ts) = ap₂ (λ (a b : Bool). a && b) (h t) (all_plain test h ts)

prefix_plain : (test : Ahead → Bool) → IsBlind test → (ts : List Ahead)
    → prefix_len (λ x. not (test x)) (map plain ts) ≡ prefix_len (λ x. not (test x)) ts
prefix_plain test h [] = refl
prefix_plain test h (t ∷ ts) = ap₂ (λ (a : Bool) (n : ℕ). cond (not a) (1 + n) 0) (h t) (prefix_plain test h ts)

take_plain : (n : ℕ) (ts : List Ahead) → take n (map plain ts) ≡ map plain (take n ts)
take_plain zero ts = refl
take_plain (suc n) [] = refl
take_plain (suc n) (t ∷ ts) = ap (λ us. plain t ∷ us) (take_plain n ts)

pub before_plain : (test : Ahead → Bool) → IsBlind test → (ts : List Ahead)
    → before_first test (map plain ts) ≡ map plain (before_first test ts)
before_plain test h ts = ap (λ n. take n (map plain ts)) (prefix_plain test h ts)
    ∙ take_plain (prefix_len (λ x. not (test x)) ts) ts

last_plain : (test : Ahead → Bool) → IsBlind test → (ts : List Ahead)
    → last_passes test (map plain ts) ≡ last_passes test ts
last_plain test h [] = refl
last_plain test h (t ∷ []) = h t
last_plain test h (t ∷ (u ∷ ts)) = last_plain test h (u ∷ ts)

-- ---- what fits

pub fits_plain : (layout : Layout) (ends : Ahead → Bool) → IsBlind ends → (column : ℕ) (ts : List Ahead)
    → fits layout ends column (map plain ts) ≡ fits layout ends column ts
fits_plain layout ends h column [] = refl
fits_plain layout ends h column (t ∷ ts) =
    ap₂ (λ (a b : Bool). cond a (is_within layout (column + end_width t)) (not t.ends && b)) (h t)
    (fits_plain layout ends h (column + (t.space + t.width)) ts)

pub front_plain : (ts : List Ahead) → at_front (map plain ts) ≡ map plain (at_front ts)
front_plain [] = refl
front_plain (t ∷ ts) = refl

pub several_plain : (ts : List Ahead) → has_several (map plain ts) ≡ has_several ts
several_plain [] = refl
several_plain (t ∷ []) = refl
several_plain (t ∷ (u ∷ ts)) = refl

-- ---- operands

operator_plain : (n limit m : ℕ) (ts : List Ahead) → has_operator n limit m (map plain ts) ≡ has_operator n limit m ts
operator_plain n limit m ts =
    ap (list_any (λ t. t.level == n && t.binds == m)) (before_plain (ends_chain n limit) (λ t. refl) ts)
    ∙ any_plain (λ t. t.level == n && t.binds == m) (λ t. refl) (before_first (ends_chain n limit) ts)

last_operand_plain : (n limit m : ℕ) (ts : List Ahead)
    → last_operand n limit m (map plain ts) ≡ map plain (last_operand n limit m ts)
last_operand_plain n limit m [] = refl
last_operand_plain n limit m (t ∷ ts) =
    ap₂ (λ (b : Bool) us. cond b us (plain t ∷ map plain ts)) (operator_plain n limit m ts)
    (last_operand_plain n limit m ts)
    ∙ go (has_operator n limit m ts)
  where
    go : (b : Bool) → cond b (map plain (last_operand n limit m ts)) (plain t ∷ map plain ts)
        ≡ map plain (cond b (last_operand n limit m ts) (t ∷ ts))
    go true = refl
    go false = refl

up_to_plain : (n : ℕ) (ts : List Ahead) → up_to_last n (map plain ts) ≡ map plain (up_to_last n ts)
up_to_plain n [] = refl
up_to_plain n (t ∷ ts) =
    ap₂ (λ (b : Bool) us. cond b (plain t ∷ us) [])
    (any_plain (λ u. u.level == n) (λ u. refl) (t ∷ ts)) (up_to_plain n ts)
    ∙ go (list_any (λ u. u.level == n) (t ∷ ts))
  where
    go : (b : Bool) → cond b (plain t ∷ map plain (up_to_last n ts)) [] ≡ map plain (cond b (t ∷ up_to_last n ts) [])
    go true = refl
    go false = refl

head_plain : (n limit : ℕ) (ts : List Ahead) → up_to_last n (before_first (ends_chain n limit) (map plain ts))
    ≡ map plain (up_to_last n (before_first (ends_chain n limit) ts))
head_plain n limit ts = ap (up_to_last n) (before_plain (ends_chain n limit) (λ t. refl) ts)
    ∙ up_to_plain n (before_first (ends_chain n limit) ts)

opens_plain : (layout : Layout) (n limit m depth column : ℕ) (ts : List Ahead)
    → opens_last layout n limit m depth column (map plain ts) ≡ opens_last layout n limit m depth column ts
opens_plain layout n limit m depth column ts =
    let head = up_to_last n (before_first (ends_chain n limit) ts) in
    let line = line_column layout depth in
    ap₂ (λ (a b : Bool). a && b) (ap (last_passes (λ t. t.several)) (head_plain n limit ts)
    ∙ last_plain (λ t. t.several) (λ t. refl) head)
    (ap₂ (λ (a b : Bool). a && not b) (ap (fits layout never column) (head_plain n limit ts)
    ∙ fits_plain layout never (λ t. refl) column head)
    (ap (λ us. fits layout (ends_chain n limit) line (at_front us)) (last_operand_plain n limit m ts)
    ∙ ap (fits layout (ends_chain n limit) line) (front_plain (last_operand n limit m ts))
    ∙ fits_plain layout (ends_chain n limit) (λ t. refl) line (at_front (last_operand n limit m ts))))

pub parted_plain : (layout : Layout) (n inner more column : ℕ) (ts : List Ahead) (ms : List ℕ)
    (operands : List Operands)
    → parted_operands layout n inner more column (map plain ts) ms operands
    ≡ parted_operands layout n inner more column ts ms operands
parted_plain layout n inner more column ts [] operands = refl
parted_plain layout n inner more column ts (m ∷ ms) operands =
    let limit = parted_at operands in
    let depth = more + inner in
    ap₂ (λ (a b : Bool). cond (not a) (parted_operands layout n inner more column (map plain ts) ms operands)
    (cond b operands (parted_operands layout n inner (suc more) column (map plain ts) ms (parted m more ∷ operands))))
    (operator_plain n limit m ts)
    (ap₂ (λ (a b : Bool). a || b) (fits_plain layout (ends_chain n limit) (λ t. refl) column ts)
    (opens_plain layout n limit m depth column ts))
    ∙ ap₂ (λ (xs ys : List Operands). cond (not (has_operator n limit m ts)) xs
    (cond (fits layout (ends_chain n limit) column ts || opens_last layout n limit m depth column ts) operands ys))
    (parted_plain layout n inner more column ts ms operands)
    (parted_plain layout n inner (suc more) column ts ms (parted m more ∷ operands))

pub operands_plain : (layout : Layout) (state : LayoutState) (depth column : ℕ) (right : Role) (ts : List Ahead)
    → operands_with layout state depth column right (map plain ts) ≡ operands_with layout state depth column right ts
operands_plain layout state depth column right [] = refl
operands_plain layout state depth column right (t ∷ ts) =
    ap (λ (operands : List Operands). cond ((state.fresh && begins_operand right) && may_break (enclosing state.opened))
    operands state.operands)
    (parted_plain layout t.level (inner_depth state.opened) (suc depth - inner_depth state.opened)
    column ts precedences state.operands)

-- ---- brackets

content_plain : (n : ℕ) (ts : List Ahead) → content n (map plain ts) ≡ map plain (content n ts)
content_plain n ts = before_plain _ (λ t. refl) ts

pub comma_plain : (n : ℕ) (ts : List Ahead)
    → last_passes (λ t. is t.role comma) (content n (map plain ts)) ≡ last_passes (λ t. is t.role comma) (content n ts)
comma_plain n ts = ap (last_passes (λ t. is t.role comma)) (content_plain n ts)
    ∙ last_plain (λ t. is t.role comma) (λ t. refl) (content n ts)

commas_plain : (ts : List Ahead)
    → length (filter (λ t. is t.role comma) (map plain ts)) ≡ length (filter (λ t. is t.role comma) ts)
commas_plain [] = refl
commas_plain (t ∷ ts) = go (is t.role comma) (commas_plain ts)
  where
    go : (b : Bool)
        → length (filter (λ t. is t.role comma) (map plain ts)) ≡ length (filter (λ t. is t.role comma) ts)
        → length (cond b (plain t ∷ filter (λ t. is t.role comma) (map plain ts))
        (filter (λ t. is t.role comma) (map plain ts)))
        ≡ length (cond b (t ∷ filter (λ t. is t.role comma) ts) (filter (λ t. is t.role comma) ts))
    go true h = ap suc h
    go false h = h

pub table_plain : (n : ℕ) (ts : List Ahead) → is_table n (map plain ts) ≡ is_table n ts
table_plain n ts =
    ap₂ (λ (b : Bool) (k : ℕ). b && nat_lt 15 k)
    (ap (list_all is_plain) (content_plain n ts) ∙ all_plain is_plain (λ t. refl) (content n ts))
    (ap (λ us. length (filter (λ t. is t.role comma) us)) (content_plain n ts) ∙ commas_plain (content n ts))

-- ---- where a line begins

pub binds_plain : (ts : List Ahead) → next_binds (map plain ts) ≡ next_binds ts
binds_plain [] = refl
binds_plain (t ∷ ts) = refl

pub level_plain : (ts : List Ahead) → next_level (map plain ts) ≡ next_level ts
level_plain [] = refl
level_plain (t ∷ ts) = refl

-- a spot with other tokens ahead
abbrev pub with_ahead : Spot → List Ahead → Spot
with_ahead spot ts = record spot { ahead = ts }

pub between_plain : (layout : Layout) (spot : Spot) (right : Role) (ts : List Ahead)
    → between layout (with_ahead spot (map plain ts)) right ≡ between layout (with_ahead spot ts) right
between_plain layout spot right ts =
    ap (λ b. cond (is_token spot.last && (may_break (enclosing spot.state.opened) && b)) line
    (joint (enclosing spot.state.opened) spot.state.last right))
    (ap (λ n. cond items (begins_filled layout (with_ahead spot (map plain ts)) n)
    (begins_in_operands spot.state.operands
    right (next_binds (map plain ts)) || begins_assigned layout (with_ahead spot (map plain ts)) n)) (level_plain ts)
    ∙ ap (λ m. cond items (begins_filled layout (with_ahead spot (map plain ts)) n)
    (begins_in_operands spot.state.operands
    right m || begins_assigned layout (with_ahead spot (map plain ts)) n)) (binds_plain ts)
    ∙ ap₂ (λ (a b : Bool). cond items (is_filled (enclosing spot.state.opened) && not a)
    (begins_in_operands spot.state.operands right (next_binds ts)
    || ((is spot.state.last assign && not (in_brackets spot.state.opened)) && b)))
    (fits_plain layout (ends_chain n 0) (λ t. refl) spot.column ts)
    (ap₂ (λ (a b : Bool). not a && not b)
    (ap (list_any (λ t. t.level == n && not (t.binds == 0))) (before_plain (ends_chain n 0) (λ t. refl) ts)
    ∙ any_plain (λ t. t.level == n && not (t.binds == 0)) (λ t. refl) (before_first (ends_chain n 0) ts))
    (fits_plain layout (ends_part n 0) (λ t. refl) spot.column ts)))
  where
    n : ℕ
    n = next_level ts

    items : Bool
    items = is_between_items spot.state.last right
