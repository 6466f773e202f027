-- Ways to write a rule.
use Rattle.std.specs.Prelude.{ℕ, List, [], ◌∷◌, ◌++◌, Option, Some, None}
use Rattle.grammar.specs.Tokens.{Token, Span, Fault}
use Rattle.grammar.specs.Grammar.{Grammar, Grammar.empty, Grammar.token, Grammar.sequence, Grammar.choice, Grammar.mapped, Grammar.node, Grammar.checked, Grammar.left_chain}

infixl 80 ◌◃◌
infixl 75 ◌means◌
infixr 70 ◌then◌ ◌▹◌
infixl 60 ◌gives◌ ◌makes◌ ◌with_check◌
infixr 50 ◌or◌
-- one token of a class
abbrev pub one_token : {N : Type 0} {Value : N → Type 0} → ℕ → Grammar N Value Token
one_token c = token (c ∷ [])

-- one part, then another
abbrev pub ◌then◌ : {N : Type 0} {Value : N → Type 0} {A B : Type 0} → Grammar N Value A
    → Grammar N Value B → Grammar N Value (A × B)
◌then◌ g h = sequence g h

-- one of two
abbrev pub ◌or◌ : {N : Type 0} {Value : N → Type 0} {A : Type 0} → Grammar N Value A
    → Grammar N Value A → Grammar N Value A
◌or◌ g h = choice g h

-- a part, with its value turned into another
abbrev pub ◌gives◌ : {N : Type 0} {Value : N → Type 0} {A B : Type 0} → Grammar N Value A → (A → B) → Grammar N Value B
◌gives◌ g f = mapped f g

-- a part of one token at least, with its value and span turned into another value
abbrev pub ◌makes◌ : {N : Type 0} {Value : N → Type 0} {A B : Type 0} → Grammar N Value A
    → (A → Span → B) → Grammar N Value B
◌makes◌ g f = node f g

-- a part of one token at least, whose value and span are checked
abbrev pub ◌with_check◌ : {N : Type 0} {Value : N → Type 0} {A : Type 0} → Grammar N Value A
    → (A → Span → Option Fault) → Grammar N Value A
◌with_check◌ g f = checked f g

-- a token of a class, then a part
abbrev pub ◌▹◌ : {N : Type 0} {Value : N → Type 0} {A : Type 0} → ℕ → Grammar N Value A → Grammar N Value A
◌▹◌ {A} c g = mapped {A = Token × A} (λ p. p.1) (sequence (token (c ∷ [])) g)

-- a part, then a token of a class
abbrev pub ◌◃◌ : {N : Type 0} {Value : N → Type 0} {A : Type 0} → Grammar N Value A → ℕ → Grammar N Value A
◌◃◌ {A} g c = mapped {A = A × Token} (λ p. p.0) (sequence g (token (c ∷ [])))

-- a token of a class, which has a value
abbrev pub ◌means◌ : {N : Type 0} {Value : N → Type 0} {A : Type 0} → ℕ → A → Grammar N Value A
◌means◌ c a = mapped (λ (t : Token). a) (token (c ∷ []))

-- a part or nothing
abbrev pub optional : {N : Type 0} {Value : N → Type 0} {A : Type 0} → Grammar N Value A → Grammar N Value (Option A)
optional {A} g = choice (mapped (λ (a : A). Some a) g) (empty None)

-- one part after another, none too
abbrev pub many : {N : Type 0} {Value : N → Type 0} {A : Type 0} → Grammar N Value A → Grammar N Value (List A)
many {A} g = left_chain (λ (xs : List A) (x : A) s. xs ++ (x ∷ [])) (empty []) g

-- one part after another, one at least
abbrev pub several : {N : Type 0} {Value : N → Type 0} {A : Type 0} → Grammar N Value A → Grammar N Value (List A)
several {A} g = left_chain (λ (xs : List A) (x : A) s. xs ++ (x ∷ [])) (mapped (λ (x : A). x ∷ []) g) g

-- one part after another, with a token of a class between
abbrev pub separated : {N : Type 0} {Value : N → Type 0} {A : Type 0} → ℕ → Grammar N Value A → Grammar N Value (List A)
separated {A} c g = left_chain (λ (xs : List A) (x : A) s. xs ++ (x ∷ [])) (mapped (λ (x : A). x ∷ []) g) (c ▹ g)

-- the same, where such a token may also follow the last part
abbrev pub list : {N : Type 0} {Value : N → Type 0} {A : Type 0} → ℕ → Grammar N Value A → Grammar N Value (List A)
list c g = separated c g or separated c g ◃ c

-- such a list or nothing
abbrev pub list_or_none : {N : Type 0} {Value : N → Type 0} {A : Type 0} → ℕ → Grammar N Value A
    → Grammar N Value (List A)
list_or_none c g = list c g or empty []
