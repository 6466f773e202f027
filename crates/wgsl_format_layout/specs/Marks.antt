-- The tokens of a source that are read, as the definitions see them.
use Rattle.std.specs.Prelude.{◌≡◌, ℕ, suc, ◌+◌, ◌-◌, ◌&&◌, if◌then◌else◌, List, [], ◌∷◌, length}
use Rattle.wgsl_model_tidy.specs.Roles.{Role, opens, opens_bracket, closes}
use Rattle.wgsl_model_tidy.specs.Ahead.{Ahead, has_several, content}
use Rattle.wgsl_format_layout.specs.View.{role_view}
use Rattle.wgsl_format_layout.specs.declared.marks.Mark.{Mark}
use Rattle.wgsl_format_layout.specs.declared.marks.MarkedToken.{MarkedToken}

-- ---- the tokens ahead of a place

-- how many brackets and blocks are open after a token, with so many open before it
abbrev pub level_after : ℕ → Role → ℕ
level_after n right = if opens right then suc n else if closes right then n - 1 else n

-- tokens ahead with n brackets and blocks open before them: each level is by the token before, and
-- what
-- a bracket has is by what follows
abbrev pub AreInOrder : ℕ → List Ahead → Type 0
AreInOrder n [] = Unit {0}
AreInOrder n (t ∷ ts) =
    (t.level ≡ n) × (t.several ≡ (opens_bracket t.role && has_several ts)) × AreInOrder (level_after n t.role) ts

-- ---- the tokens that are read

-- how many tokens are in what a token opens, with its end
abbrev pub inside : Ahead → List Ahead → ℕ
inside t ts = if opens t.role then suc (length (content (suc t.level) ts)) else 0

-- a token at a place, after the end of another, is this one, with others after it
pub record IsAhead (before : Mark) (place : ℕ) (m : MarkedToken) (t : Ahead) (ts : List Ahead) : Type 0 where
  pub role : role_view m.role ≡ t.role
  pub binds : m.binds ≡ t.binds
  pub width : m.width ≡ t.width
  pub ends : m.before.ends ≡ t.ends
  pub item : m.item ≡ t.item
  pub below : m.before.below ≡ t.below
  pub column : m.end.column ≡ before.column + (t.space + t.width)
  pub breaks : m.end.breaks ≡ before.breaks + (if t.ends then 1 else 0)
  pub close : m.close ≡ place + inside t ts

-- tokens from a place on, after the end of another, are these
abbrev pub AreAhead : Mark → ℕ → List MarkedToken → List Ahead → Type 0
AreAhead before place [] [] = Unit {0}
AreAhead before place (m ∷ ms) (t ∷ ts) = IsAhead before place m t ts × AreAhead m.end (suc place) ms ts
AreAhead before place ms ts = ⊥
