-- Tests by which a checked symbol is apart: certain classes are taken at its head alone.
use Rattle.std.specs.Prelude.{◌≡◌, ℕ, Bool, true, false, cond, not, ◌&&◌, ◌||◌, List, ◌⊎◌}
use Rattle.grammar.specs.Grammar.{Grammar, Grammar.empty, Grammar.token, Grammar.sequence, Grammar.choice, Grammar.mapped, Grammar.node, Grammar.checked, Grammar.symbol, Grammar.left_chain}
use Rattle.grammar.specs.Tables.{disjoint, subset}

-- one token of the classes b
abbrev pub is_token_of : {N : Type 0} {Value : N → Type 0} → List ℕ → {A : Type 0} → Grammar N Value A → Bool
is_token_of b (token s) = subset s b
is_token_of b (mapped f g) = is_token_of b g
is_token_of b (node f g) = is_token_of b g
is_token_of b (empty a) = false
is_token_of b (sequence g h) = false
is_token_of b (choice g h) = false
is_token_of b (checked f g) = false
is_token_of b (symbol n) = false
is_token_of b (left_chain f g h) = false

-- a part itself takes no token of the classes c, save directly after one of the classes b, and save
-- as its first if e
abbrev pub takes_none : {N : Type 0} {Value : N → Type 0} → List ℕ → List ℕ → Bool → {A : Type 0}
    → Grammar N Value A → Bool
takes_none c b e (empty a) = true
takes_none c b e (token s) = e || disjoint s c
takes_none c b e (sequence g h) = takes_none c b e g && takes_none c b (is_token_of b g) h
takes_none c b e (choice g h) = takes_none c b e g && takes_none c b e h
takes_none c b e (mapped f g) = takes_none c b e g
takes_none c b e (node f g) = takes_none c b e g
takes_none c b e (checked f g) = takes_none c b e g
takes_none c b e (symbol n) = true
takes_none c b e (left_chain f g h) = takes_none c b e g && takes_none c b false h

-- the classes c are taken at the head of n alone, save directly after the classes b
abbrev pub IsAnchored : {N : Type 0} {Value : N → Type 0} (body : (n : N) → Grammar N Value (Value n))
    → List ℕ → List ℕ → N → Type 0
IsAnchored {N} body c b n = (m : N)
    → (takes_none c b false (body m) ≡ true) ⊎ ((n ≡ m) × (takes_none c b true (body m) ≡ true))

-- no check is in a part, and no symbol directly after a token of the classes b; if d, the part
-- is directly after one
abbrev pub keeps_apart : {N : Type 0} {Value : N → Type 0} → List ℕ → Bool → {A : Type 0} → Grammar N Value A → Bool
keeps_apart b d (empty a) = not d
keeps_apart b d (token s) = disjoint s b
keeps_apart b d (sequence g h) = cond (is_token_of b g) (not d && keeps_apart b true h)
    (keeps_apart b d g && keeps_apart b false h)
keeps_apart b d (choice g h) = keeps_apart b d g && keeps_apart b d h
keeps_apart b d (mapped f g) = keeps_apart b d g
keeps_apart b d (node f g) = keeps_apart b d g
keeps_apart b d (checked f g) = false
keeps_apart b d (symbol n) = not d
keeps_apart b d (left_chain f g h) = keeps_apart b d g && keeps_apart b false h

-- the same of a right side, where a check may be at the head
abbrev pub keeps_body_apart : {N : Type 0} {Value : N → Type 0} → List ℕ → {A : Type 0} → Grammar N Value A → Bool
keeps_body_apart b (checked f g) = keeps_apart b false g
keeps_body_apart b g = keeps_apart b false g
