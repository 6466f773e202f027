-- The lines of a bracket in a formatted text: the author's, or one for all items, or one for each.
use Rattle.std.proofs.Common.{◌≡◌, ℕ, zero, suc, ◌==◌, ◌&&◌, ◌||◌, not, Bool, true, false, cond, refl, sym, ap, ap₂, ◌∙◌, arith}
use Rattle.std.proofs.lemmas.Bool.{and_parts, true≢false}
use Rattle.wgsl_model_tidy.specs.Roles.{Role, beginning, opening, template_start, comma, semicolon, block_end, is, opens, closes, opens_bracket, closes_bracket}
use Rattle.wgsl_model_tidy.specs.Joints.{Joint, line, nothing, space, nothing_or_line, space_or_line, closed_up, joint_in_line, is_between_items, joint}
use Rattle.wgsl_model_tidy.specs.Layout.{Layout}
use Rattle.wgsl_model_tidy.specs.Open.{Style, together, as_written, filled, item_by_item, enclosed_by, enclosing}
use Rattle.wgsl_model_tidy.specs.LaidOut.{Gap, closed, blank, broken, Last, token, line_comment, block_comment, leading_comment, open_comment, Spot, kept_gap, joint_gap, is_token, is_line, closes_up, loose_joint, after_leading, token_gap, comment_gap, is_filled, begins_line, may_break, between, leads}
use Rattle.wgsl_theory_tidy.proofs.Kept.Gaps.{gap_ends}

-- ---- line breaks

-- a line ends in a gap
abbrev pub has_ended : Gap → Bool
has_ended gap = not (gap_ends gap == 0)

broken_ended : (empty : Bool) (depth : ℕ) → has_ended (broken empty depth) ≡ true
broken_ended true depth = refl
broken_ended false depth = refl

-- whether a line ends before an item in a bracket of a style, if the author's does or does not
abbrev pub new_below : Style → Bool → Bool
new_below together below = false
new_below as_written below = below
new_below filled below = below
new_below item_by_item below = true

-- a line that ends before the next token is there already where each item is in a line, after a
-- comment that leads; nothing is known after a comment that ends its line
abbrev pub owes : Style → Last → Bool
owes style token = true
owes style block_comment = true
owes item_by_item leading_comment = false
owes style leading_comment = true
owes style last = false

-- what is between two items
abbrev pub item_joint : Style → Joint
item_joint together = space
item_joint as_written = space_or_line
item_joint filled = space_or_line
item_joint item_by_item = line

-- how many line breaks count
abbrev pub counts : Style → ℕ → ℕ
counts together n = 0
counts style n = n

-- ---- between two items

pub record IsSeparator (left : Role) : Type 0 where
  pub no_opening : opens_bracket left ≡ false
  pub no_beginning : is left beginning ≡ false
  pub no_tight : (is left opening || is left template_start) ≡ false

pub separator : (left right : Role) → is_between_items left right ≡ true → IsSeparator left
separator comma right h = record { no_opening = refl; no_beginning = refl; no_tight = refl }
separator semicolon right h = record { no_opening = refl; no_beginning = refl; no_tight = refl }
separator left right h = absurd (true≢false (sym h))

closes_no_bracket : (right : Role) → closes right ≡ false
    → (closes_bracket right ≡ false) × (is right block_end ≡ false)
closes_no_bracket right h = go right h
  where
    go : (right : Role) → closes right ≡ false → (closes_bracket right ≡ false) × (is right block_end ≡ false)
    go Rattle.wgsl_model_tidy.specs.Roles.closing h = absurd (true≢false h)
    go Rattle.wgsl_model_tidy.specs.Roles.template_end h = absurd (true≢false h)
    go block_end h = absurd (true≢false h)
    go right h = (refl, refl)

not_closed : (left right : Role) → is_between_items left right ≡ true → closed_up left right ≡ false
not_closed left right h = go (closed_up left right) (and_parts (is left comma || is left semicolon) _ h).1
  where
    go : (b : Bool) → not b ≡ true → b ≡ false
    go true e = absurd (true≢false (sym e))
    go false e = refl

own_joint : (j : Joint) (left right : Role) → is_between_items left right ≡ true → closes right ≡ false
    → cond (opens_bracket left || closes_bracket right) line
    (cond (is_between_items left right) j (joint_in_line left right)) ≡ j
own_joint j left right h k =
    ap₂ (λ (a b : Bool). cond (a || b) line (cond (is_between_items left right) j (joint_in_line left right)))
    (separator left right h).no_opening (closes_no_bracket right k).0
    ∙ ap (λ c. cond c j (joint_in_line left right)) h

joint_between : (style : Style) (left right : Role) → is_between_items left right ≡ true → closes right ≡ false
    → joint (enclosed_by style) left right ≡ item_joint style
joint_between together left right h k = ap (λ b. cond b nothing space) (not_closed left right h)
joint_between as_written left right h k = own_joint space_or_line left right h k
joint_between filled left right h k = own_joint space_or_line left right h k
joint_between item_by_item left right h k = own_joint line left right h k

none_filled : (a b c d : Bool) → a ≡ true → b ≡ false → cond a (b && c) d ≡ false
none_filled true b c d h k = ap (λ x. x && c) k
none_filled false b c d h k = absurd (true≢false (sym h))

no_line : (a b c : Bool) (x y : Joint) → c ≡ false → cond (a && (b && c)) x y ≡ y
no_line true true c x y h = ap (λ d. cond d x y) h
no_line true false c x y h = refl
no_line false b c x y h = refl

pub between_joint : (layout : Layout) (spot : Spot) (right : Role) (style : Style)
    → enclosing spot.state.opened ≡ enclosed_by style → is_filled (enclosed_by style) ≡ false
    → is_between_items spot.state.last right ≡ true → closes right ≡ false
    → between layout spot right ≡ item_joint style
between_joint layout spot right style e f h k =
    no_line (is_token spot.last) (may_break (enclosing spot.state.opened)) (begins_line layout spot right) line
    (joint (enclosing spot.state.opened) spot.state.last right)
    (none_filled (is_between_items spot.state.last right) _ _ _ h (ap is_filled e ∙ f))
    ∙ ap (λ inside. joint inside spot.state.last right) e
    ∙ joint_between style spot.state.last right h k

-- ---- gaps

no_zero : (n : ℕ) → (suc n == 0) ≡ false
no_zero n = grind arith

kept_ended : (n : ℕ) (empty : Bool) (depth : ℕ) (other : Gap) → gap_ends other ≡ 0
    → has_ended (kept_gap n (broken empty depth) other) ≡ not (n == 0)
kept_ended zero empty depth other h = ap (λ m. not (m == 0)) h
kept_ended (suc n) empty depth other h = broken_ended empty depth ∙ sym (ap not (no_zero n))

loose_ended : (right : Role) (n : ℕ) (empty : Bool) (depth : ℕ)
    → has_ended (joint_gap (loose_joint right) n (broken empty depth)) ≡ not (n == 0)
loose_ended right n empty depth = go (closes_up right)
  where
    go : (b : Bool) → has_ended (joint_gap (cond b nothing_or_line space_or_line) n (broken empty depth)) ≡ not (n == 0)
    go true = kept_ended n empty depth closed refl
    go false = kept_ended n empty depth blank refl

-- after a comment that leads
leading_ended : (j : Joint) (right : Role) → closes right ≡ false → (n : ℕ) (empty : Bool) (depth : ℕ)
    → has_ended (joint_gap (after_leading j right) n (broken empty depth)) ≡ not (n == 0)
leading_ended j right h n empty depth =
    let no = closes_no_bracket right h in
    ap₂ (λ (a b : Bool).
    has_ended (joint_gap (cond (a || (is_line j && b)) line (loose_joint right)) n (broken empty depth)))
    no.1 no.0
    ∙ go (is_line j)
  where
    go : (b : Bool)
        → has_ended (joint_gap (cond (b && false) line (loose_joint right)) n (broken empty depth)) ≡ not (n == 0)
    go true = loose_ended right n empty depth
    go false = loose_ended right n empty depth

begun : (left : Role) (gap : Gap) → is left beginning ≡ false
    → has_ended (cond (is left beginning) closed gap) ≡ has_ended gap
begun left gap h = ap (λ b. has_ended (cond b closed gap)) h

-- before a token
pub token_ended : (style : Style) → is_filled (enclosed_by style) ≡ false → (last : Last) (left right : Role)
    → is left beginning ≡ false → closes right ≡ false → owes style last ≡ true → (n : ℕ) (empty : Bool) (depth : ℕ)
    → has_ended (token_gap (item_joint style) last left right (counts style n) (broken empty depth))
    ≡ new_below style (not (n == 0))
token_ended together f token left right h k o n empty depth = begun left blank h
token_ended together f block_comment left right h k o n empty depth = loose_ended right 0 empty depth
token_ended together f leading_comment left right h k o n empty depth = leading_ended space right k 0 empty depth
token_ended as_written f token left right h k o n empty depth = begun left _ h ∙ kept_ended n empty depth blank refl
token_ended as_written f block_comment left right h k o n empty depth = loose_ended right n empty depth
token_ended as_written f leading_comment left right h k o n empty depth =
    leading_ended space_or_line right k n empty depth
token_ended item_by_item f token left right h k o n empty depth = begun left _ h ∙ broken_ended empty depth
token_ended item_by_item f block_comment left right h k o n empty depth = broken_ended empty depth
token_ended item_by_item f leading_comment left right h k o n empty depth = absurd (true≢false (sym o))
token_ended filled f last left right h k o n empty depth = absurd (true≢false f)
token_ended style f line_comment left right h k o n empty depth = absurd (true≢false (sym o))
token_ended style f open_comment left right h k o n empty depth = absurd (true≢false (sym o))

-- before a comment that belongs to no token
either_kept : (b : Bool) (n : ℕ) (empty : Bool) (depth : ℕ)
    → has_ended (cond b (kept_gap n (broken empty depth) closed) (kept_gap n (broken empty depth) blank)) ≡ not (n == 0)
either_kept true n empty depth = kept_ended n empty depth closed refl
either_kept false n empty depth = kept_ended n empty depth blank refl

pub comment_ended : (class : ℕ) (style : Style) (last : Last) (left : Role) → is left beginning ≡ false
    → owes style last ≡ true → (n : ℕ) (empty : Bool) (depth : ℕ)
    → has_ended (comment_gap class last left false n (broken empty depth)) ≡ not (n == 0)
comment_ended class style token left h o n empty depth = begun left _ h ∙ either_kept _ n empty depth
comment_ended class style block_comment left h o n empty depth = kept_ended n empty depth blank refl
comment_ended class style leading_comment left h o n empty depth = kept_ended n empty depth blank refl
comment_ended class style line_comment left h o n empty depth = absurd (true≢false (sym o))
comment_ended class style open_comment left h o n empty depth = absurd (true≢false (sym o))

-- a block comment before which no line ends does not lead, where one has to end before the next
-- token
pub no_lead : (last : Last) (left : Role) → is left beginning ≡ false → owes item_by_item last ≡ true
    → (gap : Gap) → has_ended gap ≡ false → leads gap last left ≡ false
no_lead last left h o (broken true depth) e = absurd (true≢false e)
no_lead last left h o (broken false depth) e = absurd (true≢false e)
no_lead token left h o closed e = h
no_lead token left h o blank e = h
no_lead block_comment left h o closed e = refl
no_lead block_comment left h o blank e = refl
no_lead leading_comment left h o gap e = absurd (true≢false (sym o))
no_lead line_comment left h o gap e = absurd (true≢false (sym o))
no_lead open_comment left h o gap e = absurd (true≢false (sym o))
