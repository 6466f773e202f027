-- The tokens ahead in pieces that are written the same are the same, but for the author's line
-- breaks.
use Rattle.std.proofs.Common.{◌≡◌, ℕ, ◌+◌, ◌||◌, ◌&&◌, not, Bool, true, false, cond, refl, sym, ap, ap₂, ◌∙◌, List, [], ◌∷◌, map, length}
use Rattle.wgsl_model_tidy.specs.Pieces.{Piece}
use Rattle.wgsl_model_tidy.specs.Roles.{Role, opens_bracket, precedence}
use Rattle.wgsl_model_tidy.specs.Joints.{closed_up, is_between_items}
use Rattle.wgsl_model_tidy.specs.Layout.{Layout, column_after}
use Rattle.wgsl_model_tidy.specs.Open.{together, LayoutState, role_in, after_token}
use Rattle.wgsl_model_tidy.specs.Ahead.{Ahead, is_comment, is_inline, operand_follows, comment_width, after_comment, has_several, token_ahead, tokens_ahead}
use Rattle.wgsl_theory_tidy.proofs.Kept.MeasuredTexts.{AreWrittenSame, inline_same, width_same}
use Rattle.wgsl_theory_tidy.proofs.Kept.PlainAhead.{plain, several_plain}

-- a piece and what is written the same: a token with the same characters
pub record IsLike (p q : Piece) : Type 0 where
  pub written : AreWrittenSame p q
  pub text : is_comment p.class ≡ false → q.text ≡ p.text

-- piece by piece, where the same operands follow
pub data AreLike : List Piece → List Piece → Type 0 where
  none_like : AreLike [] []
  one_like : (p q : Piece) (ps qs : List Piece) → IsLike p q → operand_follows qs ≡ operand_follows ps → AreLike ps qs
      → AreLike (p ∷ ps) (q ∷ qs)

-- after a comment so wide, in a line or not
after_plain : ℕ → Bool → List Ahead → List Ahead
after_plain w inline [] = []
after_plain w inline (t ∷ ts) = plain (record t { space = t.space + w; ends = t.ends || not inline }) ∷ ts

comment_plain : (layout : Layout) (p : Piece) (ts : List Ahead)
    → map plain (after_comment layout p ts) ≡ after_plain (comment_width layout p) (is_inline p) (map plain ts)
unfolding after_plain
comment_plain layout p [] = refl
comment_plain layout p (t ∷ ts) = refl

token_plain : (layout : Layout) (a : LayoutState) (right : Role) (p q : Piece) (ts us : List Ahead) → q.class ≡ p.class
    → q.text ≡ p.text → map plain us ≡ map plain ts
    → plain (token_ahead layout a right q us) ≡ plain (token_ahead layout a right p ts)
token_plain layout a right p q ts us c e h =
    ap₂ (λ (class : ℕ) (several : Bool). token class (column_after layout 0 q.text) several) c
    (sym (several_plain us) ∙ ap has_several h ∙ several_plain ts)
    ∙ ap (λ text. token p.class (column_after layout 0 text) (has_several ts)) e
  where
    token : ℕ → ℕ → Bool → Ahead
    token class width several = record {
      role = right;
      binds = precedence right class;
      level = length a.opened;
      space = cond (closed_up a.last right) 0 1;
      width = width;
      ends = false;
      several = opens_bracket right && several;
      item = is_between_items a.last right;
      below = false;
    }

pub ahead_like : (layout : Layout) (a : LayoutState) (ps qs : List Piece) → AreLike ps qs
    → map plain (tokens_ahead layout a qs) ≡ map plain (tokens_ahead layout a ps)
ahead_like layout a _ _ (none_like) = refl
ahead_like layout a _ _ (one_like p q ps qs l o k) =
    go (is_comment p.class) refl (ahead_like layout a ps qs k)
    (ahead_like layout (after_token a 0 p.class right together) ps qs k)
  where
    right : Role
    right = role_in a p.class (operand_follows ps)

    with : Piece → ℕ → Bool → List Piece → List Ahead
    with x class operand xs =
        let right = role_in a class operand in
        let after = tokens_ahead layout (after_token a 0 class right together) xs in
        token_ahead layout a right x after ∷ after

    go : (b : Bool) → is_comment p.class ≡ b
        → map plain (tokens_ahead layout a qs) ≡ map plain (tokens_ahead layout a ps)
        → map plain (tokens_ahead layout (after_token a 0 p.class right together) qs)
        ≡ map plain (tokens_ahead layout (after_token a 0 p.class right together) ps)
        → map plain (tokens_ahead layout a (q ∷ qs)) ≡ map plain (tokens_ahead layout a (p ∷ ps))
    go true c h k =
        ap (λ b. map plain (cond b (after_comment layout q (tokens_ahead layout a qs))
        (with q q.class (operand_follows qs) qs)))
        (ap is_comment l.written.class ∙ c)
        ∙ comment_plain layout q (tokens_ahead layout a qs)
        ∙ ap₂ (λ w i. after_plain w i (map plain (tokens_ahead layout a qs))) (width_same layout p q l.written)
        (inline_same p q l.written)
        ∙ ap (after_plain (comment_width layout p) (is_inline p)) h
        ∙ sym (comment_plain layout p (tokens_ahead layout a ps))
        ∙ sym (ap (λ b. map plain (cond b (after_comment layout p (tokens_ahead layout a ps))
        (with p p.class (operand_follows ps) ps))) c)
    go false c h k =
        ap (λ b. map plain (cond b (after_comment layout q (tokens_ahead layout a qs))
        (with q q.class (operand_follows qs) qs)))
        (ap is_comment l.written.class ∙ c)
        ∙ ap₂ (λ class operand. map plain (with q class operand qs)) l.written.class o
        ∙ ap₂ (λ (t : Ahead) ts. t ∷ ts) (token_plain layout a right p q
        (tokens_ahead layout (after_token a 0 p.class right together) ps)
        (tokens_ahead layout (after_token a 0 p.class right together) qs) l.written.class (l.text c) k) k
        ∙ sym (ap (λ b. map plain (cond b (after_comment layout p (tokens_ahead layout a ps))
        (with p p.class (operand_follows ps) ps))) c)
