-- How a list of tokens ended, and what is returned for it.
use Rattle.std.specs.Prelude.{ℕ, List, [], ◌∷◌}
use Rattle.grammar.specs.Tokens.{Token, Fault}

-- the class of the last token, or c where there is none
abbrev pub last_class : ℕ → List Token → ℕ
last_class c [] = c
last_class c (t ∷ ts) = last_class t.class ts

-- how a list of tokens ended: of itself, or with a fault that it carried
pub data Ending : Type 0 where
  finished : Ending
  carried : Fault → Ending

-- a value, or a fault
pub data Answer (A : Type 0) : Type 0 where
  accepted : A → Answer A
  denied : Fault → Answer A

-- how the faults are told that no check finds: a token that nothing goes on with, and a token
-- missing after the place where the last one ended
pub record Wording : Type 0 where
  pub unexpected : Token → Fault
  pub missing : ℕ → Fault
