-- States that are alike for what tokens do: but for how brackets are written and for depths.
use Rattle.std.specs.Prelude.{◌≡◌, ℕ, map}
use Rattle.wgsl_model_tidy.specs.Open.{Open, block, members, arguments, bracket, LayoutState}

-- what is open, by its kind
abbrev pub kind : Open × ℕ → ℕ
kind (block, depth) = 0
kind (members, depth) = 1
kind (arguments style, depth) = 2
kind (bracket style, depth) = 3

pub record AreAlike (a s : LayoutState) : Type 0 where
  pub last : a.last ≡ s.last
  pub structure : a.structure ≡ s.structure
  pub kinds : map kind a.opened ≡ map kind s.opened
