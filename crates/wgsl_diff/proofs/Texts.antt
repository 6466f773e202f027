-- Texts that are written piece by piece.
use Rattle.std.proofs.Common.{◌≡◌, sym, ap, ◌∙◌, ℕ, List, [], ◌∷◌, ◌++◌, append_assoc}

-- a sign, a line and a note
pub text_pushed : (out first second third : List ℕ) (sign : ℕ) (text note : List ℕ)
    → first ≡ out ++ sign ∷ [] → second ≡ first ++ text → third ≡ second ++ note
    → third ≡ out ++ sign ∷ (text ++ note)
text_pushed out first second third sign text note sign_is text_is note_is =
    note_is ∙ ap (λ xs. xs ++ note) (text_is ∙ ap (λ xs. xs ++ text) sign_is)
    ∙ append_assoc (out ++ sign ∷ []) text note ∙ append_assoc out (sign ∷ []) (text ++ note)

-- five pieces, one after another
pub five_joined : (a b c d e : List ℕ) → a ++ (b ++ (c ++ (d ++ e))) ≡ (((a ++ b) ++ c) ++ d) ++ e
five_joined a b c d e = sym (simp append_assoc)
