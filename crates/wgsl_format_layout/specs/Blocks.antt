-- What is known of the lines of a block comment.
use Rattle.std.specs.Prelude.{◌≡◌, ℕ, true, false, List, ◌∷◌, ◌++◌}
use Rattle.wgsl_model_tidy.specs.Shown.{without_returns, with_front}

-- a text has no line break: it stays as it is
pub record IsOneLine (text : List ℕ) : Type 0 where
  pub plain : without_returns text ≡ text
  pub moved : (front : List ℕ) → with_front front false text ≡ text

-- the first line of a text, without CR at its end, and what follows its line break
pub record IsFirstLine (text line after : List ℕ) : Type 0 where
  pub plain : without_returns text ≡ line ++ (10 ∷ without_returns after)
  pub moved : (front rest : List ℕ)
      → with_front front false (line ++ (10 ∷ rest)) ≡ line ++ (10 ∷ (front ++ with_front front true rest))

-- a text at which a line begins is another after its spaces and tabs
abbrev pub HasFront : List ℕ → List ℕ → Type 0
HasFront text rest = (front : List ℕ)
    → with_front front true (without_returns text) ≡ with_front front false (without_returns rest)
