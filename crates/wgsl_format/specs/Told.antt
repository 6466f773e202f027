-- What one writer was sent.
use Rattle.std.specs.Prelude.{◌≡◌, ◌⊎◌, ℕ, List, take}

-- the text was sent whole and the answer is the status, or a beginning of it was and the answer is
-- 4
abbrev pub IsTold : List ℕ → ℕ → List ℕ → ℕ → Type 0
IsTold text status sent answer =
    ((sent ≡ text) × (answer ≡ status)) ⊎ (((n : ℕ) × (sent ≡ take n text)) × (answer ≡ 4))
