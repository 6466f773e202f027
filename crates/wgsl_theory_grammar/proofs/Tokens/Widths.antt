-- How wide the ends of a text are, in bytes.
use Rattle.std.proofs.Common.{◌≡◌, ℕ, ◌+◌, ◌<◌, ◌≤◌, ◌++◌, List, [], ◌∷◌, drop, length, refl, ap, ◌∙◌, arith, length-append}
use Rattle.std.proofs.lemmas.Str.{encodes-append, length-le-encodes}
use Rattle.wgsl_model.specs.Tokens.Places.{width}
use Rattle.wgsl_theory_grammar.proofs.Tokens.Cuts.{EndsWith, EndsPast}

-- a text is as wide as its parts
pub width-append : (xs ys : List ℕ) → width (xs ++ ys) ≡ width xs + width ys
width-append xs ys = ap length (encodes-append xs ys) ∙ length-append _ _

-- an end of a text is no wider
pub within : (text rest : List ℕ) → EndsWith text rest → width rest ≤ width text
within text rest h = omega (arith, ap width h.1, width-append h.0 rest)

-- after at least one character it is narrower
pub past : (text rest : List ℕ) → EndsPast text rest → width rest < width text
past text rest h = omega (arith, ap width h.2, width-append (h.0 ∷ h.1) rest, length-le-encodes (h.0 ∷ h.1))

-- so it is after the first character of a text that has one
pub past_first : (text rest : List ℕ) → EndsPast text rest → EndsPast text (drop 1 text)
past_first [] rest h = let e = h.2 in absurd cc
past_first (c ∷ cs) rest h = (c, [], refl)
