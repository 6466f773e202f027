-- What is open is as good where blocks are one, and so are brackets of a style.
use Rattle.std.proofs.Common.{◌≡◌, ℕ, cond, refl, ap, ◌∙◌, [], ◌∷◌, map}
use Rattle.wgsl_model_tidy.specs.Roles.{Role}
use Rattle.wgsl_model_tidy.specs.Open.{block, members, arguments, bracket, Opened, LayoutState, in_brackets, enclosing, inner_depth}
use Rattle.wgsl_model_tidy.specs.LaidOut.{Spot, may_break, counted, before_next}
use Rattle.wgsl_format_layout.specs.Outputs.{forgotten_at, forgotten_in}

pub brackets_forgotten : (opened : Opened) → in_brackets (map forgotten_at opened) ≡ in_brackets opened
brackets_forgotten [] = refl
brackets_forgotten ((block, depth) ∷ outer) = refl
brackets_forgotten ((members, depth) ∷ outer) = refl
brackets_forgotten ((arguments style, depth) ∷ outer) = refl
brackets_forgotten ((bracket style, depth) ∷ outer) = refl

pub enclosing_forgotten : (opened : Opened) → enclosing (map forgotten_at opened) ≡ enclosing opened
enclosing_forgotten [] = refl
enclosing_forgotten ((block, depth) ∷ outer) = refl
enclosing_forgotten ((members, depth) ∷ outer) = refl
enclosing_forgotten ((arguments style, depth) ∷ outer) = refl
enclosing_forgotten ((bracket style, depth) ∷ outer) = refl

pub inner_forgotten : (opened : Opened) → inner_depth (map forgotten_at opened) ≡ inner_depth opened
inner_forgotten [] = refl
inner_forgotten ((kind, depth) ∷ outer) = refl

-- how many line breaks count
pub counted_at : (s : LayoutState) (spot : Spot) (right : Role) (m n : ℕ) → s ≡ forgotten_in (before_next spot right)
    → m ≡ cond (may_break (enclosing s.opened)) n 0 → m ≡ counted spot n
counted_at s spot right m n e k = k ∙ ap (λ (s : LayoutState). cond (may_break (enclosing s.opened)) n 0) e
    ∙ ap (λ enclosing. cond (may_break enclosing) n 0) (enclosing_forgotten spot.state.opened)
