-- After blank space and comments are none.
use Rattle.std.proofs.Common.{◌≡◌, ℕ, suc, ◌==◌, ◌&&◌, Bool, true, false, cond, refl, List, [], ◌∷◌}
use Rattle.wgsl_model.specs.Tokens.Characters.{is_blank, is_line_break}
use Rattle.wgsl_model.specs.Tokens.Trivia.{Place, outside, in_line, in_block, second, out_of_block, first_or_zero, after_trivia}

-- no blank space and no comment are at the front
abbrev pub IsBare : List ℕ → Type 0
IsBare text = after_trivia outside text ≡ text

-- whichever of two texts is chosen
either_bare : (b : Bool) (x y : List ℕ) → (b ≡ true → IsBare x) → (b ≡ false → IsBare y) → IsBare (cond b x y)
either_bare true x y h k = h refl
either_bare false x y h k = k refl

pub over_blank : (c : ℕ) (cs : List ℕ) → is_blank c ≡ true → after_trivia outside (c ∷ cs) ≡ after_trivia outside cs
unfolding after_trivia
over_blank c cs e = rw e refl

-- a character that begins neither
bare_at : (c : ℕ) (cs : List ℕ) → is_blank c ≡ false → (c == 47 && first_or_zero cs == 47) ≡ false
    → (c == 47 && first_or_zero cs == 42) ≡ false → IsBare (c ∷ cs)
unfolding after_trivia
bare_at c cs b l k = rw (b, l, k) refl

pub bare_after_trivia : (p : Place) (text : List ℕ) → IsBare (after_trivia p text)
unfolding after_trivia
bare_after_trivia p [] = refl
bare_after_trivia outside (c ∷ cs) =
    either_bare (is_blank c) _ _ (λ e. bare_after_trivia outside cs) (λ b.
    either_bare (c == 47 && first_or_zero cs == 47) _ _ (λ e. bare_after_trivia (second in_line) cs) (λ l.
    either_bare (c == 47 && first_or_zero cs == 42) _ _
    (λ e. bare_after_trivia (second (in_block 0)) cs) (λ k. bare_at c cs b l k)))
bare_after_trivia in_line (c ∷ cs) = either_bare (is_line_break c) _ _ (λ e. bare_after_trivia outside cs)
    (λ e. bare_after_trivia in_line cs)
bare_after_trivia (in_block n) (c ∷ cs) =
    either_bare (c == 47 && first_or_zero cs == 42) _ _
    (λ e. bare_after_trivia (second (in_block (suc n))) cs) (λ l.
    either_bare (c == 42 && first_or_zero cs == 47) _ _
    (λ e. bare_after_trivia (second (out_of_block n)) cs) (λ k. bare_after_trivia (in_block n) cs))
bare_after_trivia (second p) (c ∷ cs) = bare_after_trivia p cs
