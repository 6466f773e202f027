-- How a spelling begins, and which characters are in no spelling but alone.
use Rattle.std.proofs.Common.{◌≡◌, ℕ, ◌&&◌, Bool, true, false, sym, ap, List, [], ◌∷◌, ◌∙◌}
use Rattle.std.proofs.lemmas.Bool.{and_parts, eqb-true, true≢false}
use Rattle.grammar.specs.Tables.{is_empty}
use Rattle.wgsl_model.specs.Tokens.Pattern.{Pattern, nothing, empty, one, any, both, either, begins, literal, any_of, spells}
use Rattle.wgsl_theory_printed.proofs.Spelling.Split.{Each, Stricter, by_either, or_none, spelled_each, goes_on_with, differs, lets_differs}

-- every spelling of a pattern begins with a character that passes
abbrev pub BeginsWith : (ℕ → Bool) → Pattern → Type 0
BeginsWith q nothing = Unit {0}
BeginsWith q empty = ⊥
BeginsWith q (one p) = Stricter p q
BeginsWith q (any p) = ⊥
BeginsWith q (both a b) = BeginsWith q a
BeginsWith q (either a b) = BeginsWith q a × BeginsWith q b

begins_with : (q : ℕ → Bool) (p : Pattern) → BeginsWith q p
    → (k : List ℕ → Bool) (c : ℕ) (cs : List ℕ) → begins p k (c ∷ cs) ≡ true → q c ≡ true
unfolding begins
begins_with q nothing s k c cs h = absurd (true≢false (sym h))
begins_with q empty s k c cs h = absurd s
begins_with q (one p) s k c cs h = s c (and_parts (p c) (k cs) h).0
begins_with q (any p) s k c cs h = absurd s
begins_with q (both a b) s k c cs h = begins_with q a s (begins b k) c cs h
begins_with q (either a b) s k c cs h = by_either (begins a k (c ∷ cs)) (begins b k (c ∷ cs)) h
    (λ e. begins_with q a s.0 k c cs e) (λ e. begins_with q b s.1 k c cs e)

-- the first character of a spelling passes
pub spelled_first : (q : ℕ → Bool) (p : Pattern) → BeginsWith q p → (c : ℕ) (cs : List ℕ)
    → spells p (c ∷ cs) ≡ true → q c ≡ true
spelled_first q p s c cs h = begins_with q p s is_empty c cs h

-- a character that is in no spelling of more than one
pub stands_alone : (c : ℕ) (p : Pattern) → goes_on_with c p ≡ false → (x y : ℕ) (ys : List ℕ)
    → spells p (x ∷ (y ∷ ys)) ≡ true → Each (differs c) (x ∷ (y ∷ ys))
unfolding begins
stands_alone c nothing n x y ys h = spelled_each (differs c) nothing (lets_differs c nothing n) (x ∷ (y ∷ ys)) h
stands_alone c empty n x y ys h = spelled_each (differs c) empty (lets_differs c empty n) (x ∷ (y ∷ ys)) h
stands_alone c (any p) n x y ys h = spelled_each (differs c) (any p) (lets_differs c (any p) n) (x ∷ (y ∷ ys)) h
stands_alone c (both a b) n x y ys h = spelled_each (differs c) (both a b)
    (lets_differs c (both a b) n) (x ∷ (y ∷ ys)) h
stands_alone c (one p) n x y ys h = absurd (true≢false (sym (and_parts (p x) false h).1))
stands_alone c (either a b) n x y ys h =
    let none = or_none (goes_on_with c a) (goes_on_with c b) n in
    by_either (begins a is_empty (x ∷ (y ∷ ys))) (begins b is_empty (x ∷ (y ∷ ys))) h
    (λ e. stands_alone c a none.0 x y ys e) (λ e. stands_alone c b none.1 x y ys e)

-- the words of a list begin with characters that pass
abbrev pub all_begin : (ℕ → Bool) → List (List ℕ) → Bool
all_begin q [] = true
all_begin q ([] ∷ ws) = false
all_begin q ((c ∷ cs) ∷ ws) = q c && all_begin q ws

literal_begins : (q : ℕ → Bool) (c : ℕ) (cs : List ℕ) → q c ≡ true → BeginsWith q (literal (c ∷ cs))
literal_begins q c [] h = λ x e. (let same : x ≡ c = eqb-true x c e in ap q same ∙ h)
literal_begins q c (d ∷ ds) h = λ x e. (let same : x ≡ c = eqb-true x c e in ap q same ∙ h)

pub words_begin : (q : ℕ → Bool) (words : List (List ℕ)) → all_begin q words ≡ true → BeginsWith q (any_of words)
words_begin q [] h = tt
words_begin q ([] ∷ ws) h = absurd (true≢false (sym h))
words_begin q ((c ∷ cs) ∷ ws) h =
    let parts = and_parts (q c) (all_begin q ws) h in
    (literal_begins q c cs parts.0, words_begin q ws parts.1)
