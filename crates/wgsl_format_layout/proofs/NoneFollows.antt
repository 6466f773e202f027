-- At the end of a source no token follows a comment.
use Rattle.std.proofs.Common.{◌≡◌, ℕ, ◌==◌, ◌&&◌, ◌||◌, not, Bool, true, false, cond, refl, sym, ap, ◌∙◌, List, [], ◌∷◌}
use Rattle.std.specs.List.{list_any}
use Rattle.std.proofs.lemmas.Bool.{true≢false}
use Rattle.wgsl_model.specs.Tokens.Trivia.{outside}
use Rattle.wgsl_model_tidy.specs.Pieces.{Piece, comments, put}
use Rattle.wgsl_model_tidy.specs.Roles.{Role, closes}
use Rattle.wgsl_model_tidy.specs.Layout.{Layout}
use Rattle.wgsl_model_tidy.specs.Ahead.{is_comment}
use Rattle.wgsl_model_tidy.specs.LaidOut.{Spot, is_token, is_line, is_followed, owned, between}
use Rattle.wgsl_theory_tidy.proofs.NextRoles.{PassesComments, known_after}

-- a token is among these pieces
abbrev has_token : List Piece → Bool
has_token ps = list_any (λ p. not (is_comment p.class)) ps

token_put : (c : ℕ) (ps : List Piece) → has_token (put c ps) ≡ has_token ps
token_put c [] = refl
token_put c (p ∷ ps) = refl

token_passes : PassesComments has_token
token_passes = record { over_character = token_put; over_comment = λ class n ps h. rw h refl }

none_followed : (ps : List Piece) → has_token ps ≡ false → is_followed ps ≡ false
none_followed [] h = refl
none_followed (p ∷ ps) h = go (is_comment p.class) refl (none_followed ps)
  where
    second : (b : Bool) → (b && false) ≡ false
    second true = refl
    second false = refl

    go : (b : Bool) → is_comment p.class ≡ b → (has_token ps ≡ false → is_followed ps ≡ false)
        → is_followed (p ∷ ps) ≡ false
    go true e later = ap (λ (b : Bool). p.line_ends == 0 && cond b (is_followed ps) true) e
        ∙ ap (λ (b : Bool). p.line_ends == 0 && b)
        (later (sym (ap (λ (b : Bool). not b || has_token ps) e) ∙ h)) ∙ second (p.line_ends == 0)
    go false e later = absurd (true≢false (sym (ap (λ (b : Bool). not b || has_token ps) e) ∙ h))

pub none_owned : (layout : Layout) (spot : Spot) (right : Role) (following : ℕ → List Piece) (text : List ℕ)
    → ((m : ℕ) → following m ≡ []) → owned layout spot right (comments following outside 0 text) ≡ false
none_owned layout spot right following text none =
    ap (λ (b : Bool). is_token spot.last && ((is_line (between layout spot right) && not (closes right)) && b))
    (none_followed (comments following outside 0 text)
    (known_after has_token token_passes false following (λ m. ap has_token (none m)) outside 0 text))
    ∙ nothing (is_token spot.last) (is_line (between layout spot right) && not (closes right))
  where
    nothing : (a b : Bool) → (a && (b && false)) ≡ false
    nothing true true = refl
    nothing true false = refl
    nothing false b = refl
