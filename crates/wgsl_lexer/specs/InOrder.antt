-- Tokens and faults that are in order in a text.
use Rattle.std.specs.Prelude.{ℕ, ◌<◌, ◌≤◌, ⊤, List, [], ◌∷◌}
use Rattle.grammar.specs.Tokens.{Token, last_end}
use Rattle.grammar.specs.Endings.{Ending, Ending.finished, Ending.carried}

-- the tokens are after one another, none of them empty, between two places
abbrev pub AreInOrder : ℕ → List Token → ℕ → Type 0
AreInOrder from [] to = from ≤ to
AreInOrder from (t ∷ ts) to = (from ≤ t.start) × (t.start < t.end) × AreInOrder t.end ts to

-- a fault that ends the tokens is after them, is not empty, and ends at a place or before it
abbrev pub IsFaultAfter : List Token → Ending → ℕ → Type 0
IsFaultAfter ts finished to = ⊤
IsFaultAfter ts (carried x) to = (last_end 0 ts ≤ x.span.start) × (x.span.start < x.span.end) × (x.span.end ≤ to)
