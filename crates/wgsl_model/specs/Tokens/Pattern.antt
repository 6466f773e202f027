-- Patterns of spellings, and the longest front of a text that spells one (WGSL, "Parsing").
use Rattle.std.specs.Prelude.{◌≡◌, ℕ, ◌≤◌, Bool, true, false, ◌&&◌, ◌||◌, ◌==◌, if◌then◌else◌, List, [], ◌∷◌, ◌++◌, length, Option, Some, None, MatchOption}
use Rattle.grammar.specs.Tables.{is_empty}

-- a pattern of spellings
pub data Pattern : Type 0 where
  -- no spelling
  nothing : Pattern
  -- the empty one
  empty : Pattern
  -- a character that passes
  one : (ℕ → Bool) → Pattern
  -- any number of characters that pass
  any : (ℕ → Bool) → Pattern
  -- one after the other
  both : Pattern → Pattern → Pattern
  -- one or the other
  either : Pattern → Pattern → Pattern

infixr 20 ◌then◌
-- one after the other
abbrev pub ◌then◌ : Pattern → Pattern → Pattern
a then b = both a b

infixr 10 ◌or◌
-- one or the other
abbrev pub ◌or◌ : Pattern → Pattern → Pattern
a or b = either a b

-- the character of this code
abbrev pub code : ℕ → Pattern
code n = one (λ c. c == n)

-- these characters in order
abbrev pub literal : List ℕ → Pattern
literal [] = empty
literal (c ∷ []) = code c
literal (c ∷ d ∷ cs) = code c then literal (d ∷ cs)

-- one of these words
abbrev pub any_of : List (List ℕ) → Pattern
any_of [] = nothing
any_of (word ∷ words) = literal word or any_of words

-- some front of the text is characters that pass, and the rest passes k
unfoldable pub begins_any : (ℕ → Bool) → (List ℕ → Bool) → List ℕ → Bool
begins_any p k [] = k []
begins_any p k (c ∷ cs) = k (c ∷ cs) || (p c && begins_any p k cs)

-- some front of the text is a spelling of the pattern, and the rest passes k
unfoldable pub begins : Pattern → (List ℕ → Bool) → List ℕ → Bool
begins nothing k text = false
begins empty k text = k text
begins (one p) k [] = false
begins (one p) k (c ∷ cs) = p c && k cs
begins (any p) k text = begins_any p k text
begins (both a b) k text = begins a (begins b k) text
begins (either a b) k text = begins a k text || begins b k text

-- the word is a spelling of the pattern
abbrev pub spells : Pattern → List ℕ → Bool
spells pattern word = begins pattern is_empty word

-- the first that is there
abbrev pub or_else : {A : Type 0} → Option A → Option A → Option A
or_else (Some x) other = Some x
or_else None other = other

-- what follows the longest front that passes
unfoldable pub after_longest : (List ℕ → Bool) → List ℕ → Option (List ℕ)
after_longest p [] = if p [] then Some [] else None
after_longest p (c ∷ cs) = or_else (after_longest (λ front. p (c ∷ front)) cs) (if p [] then Some (c ∷ cs) else None)

-- what follows the longest spelling at the front
unfoldable pub after_spelling : Pattern → List ℕ → Option (List ℕ)
after_spelling pattern text = after_longest (spells pattern) text

-- the text is a front that passes and a rest, and no front that passes is longer
pub record IsLongest (p : List ℕ → Bool) (text front rest : List ℕ) : Type 0 where
  pub whole : text ≡ front ++ rest
  pub passes : p front ≡ true
  pub longest : (other more : List ℕ) → text ≡ other ++ more → p other ≡ true → length other ≤ length front

-- what was found follows the longest front that passes; where nothing was found, no front passes
abbrev pub FollowsLongest : (List ℕ → Bool) → List ℕ → Option (List ℕ) → Type 0
FollowsLongest p text found =
    MatchOption found ((other more : List ℕ) → text ≡ other ++ more → p other ≡ true → ⊥)
    (λ rest. (front : List ℕ) × IsLongest p text front rest)
