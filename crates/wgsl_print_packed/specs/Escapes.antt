-- Where the first byte of a text with an escape is.
use Rattle.std.specs.Prelude.{ℕ, ◌≡◌, ◌<◌, ◌==◌, ◌||◌, nat_lt, Bool, true, false, List, length, slice_index}

-- a byte that is not written as it is
abbrev pub is_escaped : ℕ → Bool
is_escaped b = nat_lt b 32 || (b == 34) || (b == 92)

-- no byte before a place has an escape
abbrev pub IsPlainTo : List ℕ → ℕ → Type 0
IsPlainTo text n = (k : ℕ) → k < n → is_escaped (slice_index text k) ≡ false

-- the first byte with an escape is here
abbrev pub IsEscapeAt : List ℕ → ℕ → Type 0
IsEscapeAt text n = IsPlainTo text n × (n < length text) × (is_escaped (slice_index text n) ≡ true)
