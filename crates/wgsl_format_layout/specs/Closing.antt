-- Where what tokens open is closed, as it is kept while they are read.
use Rattle.std.specs.Prelude.{ℕ, zero, suc, ◌<◌, if◌then◌else◌, List, [], ◌∷◌, drop}
use Rattle.wgsl_model_tidy.specs.Roles.{Role, opens, closes}
use Rattle.wgsl_format_layout.specs.declared.marks.MarkedToken.{MarkedToken}

-- each of these places is below a number
abbrev pub AreBelow : ℕ → List ℕ → Type 0
AreBelow n [] = Unit {0}
AreBelow n (i ∷ is) = (i < n) × AreBelow n is

-- what the token at a place opens is closed at another
abbrev pub with_close : List MarkedToken → ℕ → ℕ → List MarkedToken
with_close [] i close = []
with_close (m ∷ ms) zero close = record m { close = close } ∷ ms
with_close (m ∷ ms) (suc i) close = m ∷ with_close ms i close

-- what the token at the first of these places opens is closed
abbrev pub with_first_close : List MarkedToken → List ℕ → ℕ → List MarkedToken
with_first_close ms [] close = ms
with_first_close ms (i ∷ is) close = with_close ms i close

-- after a token of a role at a place, where tokens at these places open what is still open, the
-- innermost first
abbrev pub tokens_after : Role → ℕ → List MarkedToken → List ℕ → List MarkedToken
tokens_after right place ms is =
    if opens right then ms else if closes right then with_first_close ms is place else ms

-- the places of those that do after it
abbrev pub open_after : Role → ℕ → List ℕ → List ℕ
open_after right place is = if opens right then place ∷ is else if closes right then drop 1 is else is

-- the first of some places, or the end
abbrev pub first_or : ℕ → List ℕ → ℕ
first_or end [] = end
first_or end (i ∷ is) = i

-- what tokens at these places open is closed at those, one by one, or at the end
abbrev pub with_closes : ℕ → List MarkedToken → List ℕ → List ℕ → List MarkedToken
with_closes end ms [] closes = ms
with_closes end ms (i ∷ is) closes = with_closes end (with_close ms i (first_or end closes)) is (drop 1 closes)
