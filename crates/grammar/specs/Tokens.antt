-- Tokens, spans and faults, as a grammar sees them.
use Rattle.std.specs.Prelude.{ℕ, ℤ, zero, suc, ◌-◌, List, [], ◌∷◌, length}

-- what a token holds beside its class: nothing, the bytes of a name, or a whole number
pub data Payload : Type 0 where
  nothing : Payload
  name : List ℕ → Payload
  number : ℤ → Payload

-- a token from a place up to another; its class says which kind of token it is
pub record Token : Type 0 where
  pub class : ℕ
  pub payload : Payload
  pub start : ℕ
  pub end : ℕ

-- from a place up to another
pub record Span : Type 0 where
  pub start : ℕ
  pub end : ℕ

-- what is wrong, by its kind and the texts that say it, and where
pub record Fault : Type 0 where
  pub kind : ℕ
  pub texts : List (List ℕ)
  pub span : Span

-- where the last token ends, or a place where there is none
abbrev pub last_end : ℕ → List Token → ℕ
last_end place [] = place
last_end place (t ∷ ts) = last_end t.end ts

-- from the first token's start to the last one's end
abbrev pub span_of : List Token → Span
span_of [] = record { start = 0; end = 0 }
span_of (t ∷ ts) = record { start = t.start; end = last_end t.end ts }

-- the first tokens, so many
abbrev pub first_tokens : ℕ → List Token → List Token
first_tokens zero xs = []
first_tokens (suc n) [] = []
first_tokens (suc n) (t ∷ xs) = t ∷ first_tokens n xs

-- the tokens of a list before another, which is an end of it
abbrev pub tokens_between : List Token → List Token → List Token
tokens_between xs ys = first_tokens (length xs - length ys) xs

-- the span of the tokens before an end of the list
abbrev pub span_between : List Token → List Token → Span
span_between xs ys = span_of (tokens_between xs ys)
