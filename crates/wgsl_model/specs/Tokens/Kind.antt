-- What a token is, wherever it is.
use Rattle.std.specs.Prelude.{ℕ, List}
use Rattle.grammar.specs.Tokens.{Token, Payload, Payload.nothing, Payload.name}

-- a class and what the token holds
pub record Kind : Type 0 where
  pub class : ℕ
  pub payload : Payload

-- a token that holds nothing
abbrev pub plain : ℕ → Kind
plain c = record { class = c; payload = nothing }

-- a token that holds a text
abbrev pub named : ℕ → List ℕ → Kind
named c text = record { class = c; payload = name text }

-- the token from a place up to another
abbrev pub placed : Kind → ℕ → ℕ → Token
placed kind start end = record { class = kind.class; payload = kind.payload; start = start; end = end }
