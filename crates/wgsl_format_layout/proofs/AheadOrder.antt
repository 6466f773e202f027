-- The tokens ahead are in order: each level is by the token before.
use Rattle.std.proofs.Common.{◌≡◌, ℕ, suc, ◌-◌, Bool, true, false, cond, refl, subst, List, [], ◌∷◌, drop, length, arith}
use Rattle.wgsl_model_tidy.specs.Pieces.{Piece}
use Rattle.wgsl_model_tidy.specs.Roles.{Role, opening, closing, template_start, template_end, block_start, block_end}
use Rattle.wgsl_model_tidy.specs.Layout.{Layout}
use Rattle.wgsl_model_tidy.specs.Open.{Opened, together, LayoutState, role_in, after_token}
use Rattle.wgsl_model_tidy.specs.Ahead.{Ahead, is_comment, operand_follows, after_comment, token_ahead, tokens_ahead}
use Rattle.wgsl_format_layout.specs.Marks.{level_after, AreInOrder}

length_less : (opened : Opened) → length (drop 1 opened) ≡ length opened - 1
length_less [] = refl
length_less (x ∷ outer) =
    let one_less : length outer ≡ suc (length outer) - 1 = omega arith in one_less

-- how many brackets and blocks are open after a token
pub level_next : (s : LayoutState) (class : ℕ) (right : Role)
    → length (after_token s 0 class right together).opened ≡ level_after (length s.opened) right
level_next s class opening = refl
level_next s class template_start = refl
level_next s class block_start = refl
level_next s class closing = length_less s.opened
level_next s class template_end = length_less s.opened
level_next s class block_end = length_less s.opened
level_next s class right = refl

order_commented : (layout : Layout) (p : Piece) (n : ℕ) (ts : List Ahead) → AreInOrder n ts
    → AreInOrder n (after_comment layout p ts)
order_commented layout p n [] h = h
order_commented layout p n (t ∷ ts) h = (h.0, h.1, h.2)

pub in_order : (layout : Layout) (s : LayoutState) (ps : List Piece)
    → AreInOrder (length s.opened) (tokens_ahead layout s ps)
in_order layout s [] = tt
in_order layout s (p ∷ ps) =
    go (is_comment p.class) (in_order layout s ps) (in_order layout (after_token s 0 p.class right together) ps)
  where
    right : Role
    right = role_in s p.class (operand_follows ps)

    after : List Ahead
    after = tokens_ahead layout (after_token s 0 p.class right together) ps

    go : (b : Bool) → AreInOrder (length s.opened) (tokens_ahead layout s ps)
        → AreInOrder (length (after_token s 0 p.class right together).opened) after
        → AreInOrder (length s.opened)
        (cond b (after_comment layout p (tokens_ahead layout s ps)) (token_ahead layout s right p after ∷ after))
    go true h k = order_commented layout p (length s.opened) (tokens_ahead layout s ps) h
    go false h k = (refl, refl, subst (λ n. AreInOrder n after) (level_next s p.class right) k)
