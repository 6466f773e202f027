-- What is read of the tokens from a place on.
use Rattle.std.specs.Prelude.{◌≡◌, ℕ, suc, ◌+◌, ◌-◌, ◌<◌, ◌≤◌, ◌==◌, ◌&&◌, ◌||◌, not, Bool, true, false, nat_lt, nat_le, if◌then◌else◌, List, ◌++◌, drop, take, length, slice_index_or}
use Rattle.std.specs.List.{list_all, position_or_len, before_first}
use Rattle.wgsl_model_tidy.specs.Layout as plain
use Rattle.wgsl_model_tidy.specs.Roles.{opens, closes}
use Rattle.wgsl_model_tidy.specs.Ahead.{Ahead, is_within, fits, ends_chain, has_operator, last_operand, up_to_last}
use Rattle.wgsl_format_layout.specs.View.{role_view}
use Rattle.wgsl_format_layout.specs.Marks.{AreAhead, AreInOrder}
use Rattle.wgsl_format_layout.specs.declared.ahead.Chain.{Chain}
use Rattle.wgsl_format_layout.specs.declared.marks.Mark.{Mark}
use Rattle.wgsl_format_layout.specs.declared.marks.MarkedToken.{MarkedToken}

-- what a token opens ends at its place or after it, among these tokens
abbrev pub AreMatched : List MarkedToken → Type 0
AreMatched ms = (k : ℕ) (m : MarkedToken) → k < length ms → slice_index_or ms k m ≡ m
    → (k ≤ m.close) × (m.close ≤ length ms)

-- from a place on, after the end of a token, these are the tokens, with n brackets and blocks open
-- before them
pub record Follow (before : Mark) (place : ℕ) (tokens : List MarkedToken) (n : ℕ) (ts : List Ahead) : Type 0 where
  pub are : AreAhead before place (drop place tokens) ts
  pub order : AreInOrder n ts

-- two tokens are in a bracket, or a comment that ends a line, where these two are after the token
-- that
-- opens it
abbrev pub begins_several : MarkedToken → MarkedToken → Bool
begins_several m next = m.before.ends || (not (closes (role_view m.role))
    && (next.before.ends || (opens (role_view m.role) || not (closes (role_view next.role)))))

-- more brackets and blocks than n are open before each of them
abbrev pub are_deeper : ℕ → List Ahead → Bool
are_deeper n ts = list_all (λ t. nat_lt n t.level) ts

-- after a token at a place, with n brackets and blocks open before it, that closes none, are those
-- that it opens, with their end, and from another place on the next
pub record GoesPast (place : ℕ) (tokens : List MarkedToken) (n : ℕ) (ts : List Ahead) (to : ℕ) : Type 0 where
  pub opened : List Ahead
  pub next : List Ahead
  pub before : Mark
  pub is : ts ≡ opened ++ next
  pub deeper : are_deeper n opened ≡ true
  pub stands : to ≡ suc place + length opened
  pub follow : Follow before to tokens n next

-- a line goes on with these tokens after the end of another, up to the first at which it ends: what
-- of them is in it ends here
pub record EndsLine (ends : Ahead → Bool) (before : Mark) (ts : List Ahead) (to : Mark) : Type 0 where
  pub column : before.column ≤ to.column
  pub breaks : before.breaks ≤ to.breaks
  pub fits : (layout : plain.Layout) (column : ℕ) → fits layout ends column ts
      ≡ (before.breaks == to.breaks && is_within layout (column + (to.column - before.column)))

-- ---- operands

-- a token that binds so is the operator that binds weakest, after those so far
abbrev pub is_weaker : Chain → ℕ → Bool
is_weaker chain binds = not (binds == 0) && (chain.weakest == 0 || nat_le binds chain.weakest)

-- past a token that binds so, where the next one is at a place
abbrev pub passed : Chain → ℕ → ℕ → Chain
passed chain binds next = record {
  end = next;
  weakest = if is_weaker chain binds then binds else chain.weakest;
  operator = if is_weaker chain binds then chain.end else chain.operator;
  last = chain.end;
}

-- these tokens are after the first token of operands, which is at a place, with n brackets and
-- blocks open before it
pub record IsChain (n limit first : ℕ) (ts : List Ahead) (chain : Chain) : Type 0 where
  pub end : chain.end ≡ suc first + position_or_len (ends_chain n limit) ts
  pub none : chain.weakest ≡ 0 → (m : ℕ) → 0 < m → has_operator n limit m ts ≡ false
  pub lower : (m : ℕ) → 0 < m → m < chain.weakest → has_operator n limit m ts ≡ false
  pub found : 0 < chain.weakest → has_operator n limit chain.weakest ts ≡ true
  pub operator : 0 < chain.weakest
      → last_operand n limit chain.weakest ts ≡ drop (chain.operator - suc first) ts
  pub last : 0 < chain.weakest
      → up_to_last n (before_first (ends_chain n limit) ts) ≡ take (chain.last - first) ts
  pub places : 0 < chain.weakest
      → (first < chain.operator) × (chain.operator ≤ chain.last) × (chain.last < chain.end)
