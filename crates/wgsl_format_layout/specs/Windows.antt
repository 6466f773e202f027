-- Tokens that are read at once.
use Rattle.std.specs.Prelude.{◌≡◌, ℕ, ◌==◌, ◌&&◌, Bool, true, false, nat_le, List, [], ◌∷◌}
use Rattle.wgsl_model_tidy.specs.Roles.{ends_item}
use Rattle.wgsl_model_tidy.specs.Ahead.{Ahead}

-- so many brackets and blocks at least are open before each of these tokens, and so many before the
-- last, with which an item ends
abbrev pub ends_at : ℕ → List Ahead → Bool
ends_at m [] = false
ends_at m (t ∷ []) = t.level == m && ends_item t.role
ends_at m (t ∷ u ∷ ts) = nat_le m t.level && ends_at m (u ∷ ts)

-- what is decided by these tokens and others after them is decided by them alone: there are no
-- others, or they end with the end of an item outside of what they open
abbrev pub AreClosed : List Ahead → List Ahead → Type 0
AreClosed ts [] = Unit {0}
AreClosed ts (r ∷ rs) = (m : ℕ) × (ends_at m ts ≡ true)
