-- Tokens that are read at once are in order by themselves.
use Rattle.std.proofs.Common.{◌≡◌, ℕ, suc, ◌-◌, ◌&&◌, Bool, true, false, cond, nat_le, refl, sym, ap, ◌∙◌, subst, List, [], ◌∷◌, ◌++◌}
use Rattle.std.proofs.lemmas.List.{append-nil}
use Rattle.wgsl_model_tidy.specs.Roles.{closes, opens_bracket}
use Rattle.wgsl_model_tidy.specs.Ahead.{Ahead, has_several}
use Rattle.wgsl_format_layout.specs.Marks.{AreInOrder, level_after}
use Rattle.wgsl_format_layout.specs.Windows.{ends_at}
use Rattle.wgsl_format_layout.specs.Spots.{AreClosedIfAny}
use Rattle.wgsl_format_layout.proofs.Deeper.{both}
use Rattle.wgsl_format_layout.proofs.ClosedLines.{bracket_goes_on, not_last, low_level, several_closed}

-- where the first holds the second are the same
where_true : (a b c : Bool) → (a ≡ true → b ≡ c) → (a && b) ≡ (a && c)
where_true true b c h = h refl
where_true false b c h = refl

pub order_closed : (k : ℕ) (xs far : List Ahead) → AreInOrder k (xs ++ far) → AreClosedIfAny xs far → AreInOrder k xs
order_closed k [] far order closed = tt
order_closed k (t ∷ ts) [] order closed = subst (AreInOrder k) (append-nil (t ∷ ts)) order
order_closed k (t ∷ []) (f ∷ fs) order closed = (
  order.0,
  order.1 ∙ where_true (opens_bracket t.role) (has_several (f ∷ fs)) false
      (λ h. absurd (not_last closed.0 t closed.1 (bracket_goes_on t.role h).0)),
  tt,
)
order_closed k (t ∷ u ∷ ts) (f ∷ fs) order closed =
    let ends = both (nat_le closed.0 t.level) (ends_at closed.0 (u ∷ ts)) closed.1 in
    let inner = order_closed (level_after k t.role) (u ∷ ts) (f ∷ fs) order.2 (closed.0, ends.1) in (
      order.0,
      order.1 ∙ where_true (opens_bracket t.role) (has_several ((u ∷ ts) ++ (f ∷ fs))) (has_several (u ∷ ts)) (λ h.
          let level : level_after k t.role ≡ suc t.level =
          ap (λ (b : Bool). cond b (suc k) (cond (closes t.role) (k - 1) k))
          (bracket_goes_on t.role h).1 ∙ ap suc (sym order.0) in
          several_closed closed.0 t.level (u ∷ ts) (f ∷ fs)
          (subst (λ (n : ℕ). AreInOrder n (u ∷ ts)) level inner) ends.1
          (low_level closed.0 t.level t refl ends.0)),
      inner,
    )
