-- A pattern, a character at a time: what it spells and what its longest spelling leaves.
use Rattle.std.proofs.Common.{◌≡◌, ℕ, Bool, true, false, cond, ◌&&◌, ◌||◌, List, [], ◌∷◌, Some, None, refl, sym, ◌∙◌, ap}
use Rattle.grammar.specs.Tables.{is_empty}
use mathlib.Core.Path.{fun_ext}
use Rattle.wgsl_model.specs.Tokens.Pattern.{Pattern, nothing, empty, one, any, both, either, begins, begins_any, spells, or_else, after_longest, after_spelling}
use Rattle.wgsl_lex_scanner.proofs.Derivative.{both_of, either_of, either_more, nullable, after}

begins-both_of : (a b : Pattern) (k : List ℕ → Bool) (s : List ℕ) → begins (both_of a b) k s ≡ begins a (begins b k) s
unfolding begins
begins-both_of nothing b k s = refl
begins-both_of empty b k s = refl
begins-both_of (one p) b k s = refl
begins-both_of (any p) b k s = refl
begins-both_of (both a c) b k s = refl
begins-both_of (either a c) b k s = refl

false-or : (b : Bool) → b ≡ (b || false)
false-or true = refl
false-or false = refl

begins-either_more : (a b : Pattern) (k : List ℕ → Bool) (s : List ℕ)
    → begins (either_more a b) k s ≡ (begins a k s || begins b k s)
unfolding begins
begins-either_more a nothing k s = false-or (begins a k s)
begins-either_more a empty k s = refl
begins-either_more a (one p) k s = refl
begins-either_more a (any p) k s = refl
begins-either_more a (both b c) k s = refl
begins-either_more a (either b c) k s = refl

begins-either_of : (a b : Pattern) (k : List ℕ → Bool) (s : List ℕ)
    → begins (either_of a b) k s ≡ (begins a k s || begins b k s)
unfolding begins
begins-either_of nothing b k s = refl
begins-either_of empty b k s = begins-either_more empty b k s
begins-either_of (one p) b k s = begins-either_more (one p) b k s
begins-either_of (any p) b k s = begins-either_more (any p) b k s
begins-either_of (both a c) b k s = begins-either_more (both a c) b k s
begins-either_of (either a c) b k s = begins-either_more (either a c) b k s

begins-cond : (b : Bool) (a : Pattern) (k : List ℕ → Bool) (s : List ℕ)
    → begins (cond b a nothing) k s ≡ (b && begins a k s)
unfolding begins
begins-cond true a k s = refl
begins-cond false a k s = refl

joined : (x y z n m : Bool) → (x || (n && (y || (m && z)))) ≡ ((x || (n && y)) || ((n && m) && z))
joined true y z n m = refl
joined false true z true m = refl
joined false false z true m = refl
joined false y z false m = refl

or-joined : (x y z n m : Bool) → ((x || (n && z)) || (y || (m && z))) ≡ ((x || y) || ((n || m) && z))
or-joined true y z n m = refl
or-joined false true true true m = refl
or-joined false true true false m = refl
or-joined false true false true m = refl
or-joined false true false false m = refl
or-joined false false true true m = refl
or-joined false false true false m = refl
or-joined false false false true true = refl
or-joined false false false true false = refl
or-joined false false false false m = refl

or-comm : (x y : Bool) → (x || y) ≡ (y || x)
or-comm true true = refl
or-comm true false = refl
or-comm false true = refl
or-comm false false = refl

-- A spelling of the pattern at the front begins with the character and goes on, or it is empty.
pub begins-after : (r : Pattern) (k : List ℕ → Bool) (c : ℕ) (s : List ℕ)
    → begins r k (c ∷ s) ≡ (begins (after c r) k s || (nullable r && k (c ∷ s)))
unfolding begins begins_any
begins-after nothing k c s = refl
begins-after empty k c s = refl
begins-after (one p) k c s = false-or (p c && k s) ∙ ap (λ x. x || false) (sym (begins-cond (p c) empty k s))
begins-after (any p) k c s = or-comm (k (c ∷ s)) (p c && begins_any p k s)
    ∙ ap (λ x. x || k (c ∷ s)) (sym (begins-cond (p c) (any p) k s))
begins-after (both a b) k c s =
    begins-after a (begins b k) c s
    ∙ ap (λ x. begins (after c a) (begins b k) s || (nullable a && x)) (begins-after b k c s)
    ∙ joined (begins (after c a) (begins b k) s) (begins (after c b) k s) (k (c ∷ s)) (nullable a) (nullable b)
    ∙ ap (λ x. x || ((nullable a && nullable b) && k (c ∷ s))) (sym (
    begins-either_of (both_of (after c a) b) (cond (nullable a) (after c b) nothing) k s
    ∙ ap (λ x. x || begins (cond (nullable a) (after c b) nothing) k s) (begins-both_of (after c a) b k s)
    ∙ ap (λ x. begins (after c a) (begins b k) s || x) (begins-cond (nullable a) (after c b) k s)))
begins-after (either a b) k c s =
    ap (λ x. x || begins b k (c ∷ s)) (begins-after a k c s)
    ∙ ap (λ x. (begins (after c a) k s || (nullable a && k (c ∷ s))) || x) (begins-after b k c s)
    ∙ or-joined (begins (after c a) k s) (begins (after c b) k s) (k (c ∷ s)) (nullable a) (nullable b)
    ∙ ap (λ x. x || ((nullable a || nullable b) && k (c ∷ s))) (sym (begins-either_of (after c a) (after c b) k s))

and-assoc : (x y z : Bool) → (x && (y && z)) ≡ ((x && y) && z)
and-assoc true y z = refl
and-assoc false y z = refl

and-or : (x y z : Bool) → ((x && z) || (y && z)) ≡ ((x || y) && z)
and-or true true true = refl
and-or true true false = refl
and-or true false true = refl
and-or true false false = refl
and-or false y z = refl

begins-empty : (r : Pattern) (k : List ℕ → Bool) → begins r k [] ≡ (nullable r && k [])
unfolding begins begins_any
begins-empty nothing k = refl
begins-empty empty k = refl
begins-empty (one p) k = refl
begins-empty (any p) k = refl
begins-empty (both a b) k = begins-empty a (begins b k)
    ∙ ap (λ x. nullable a && x) (begins-empty b k) ∙ and-assoc (nullable a) (nullable b) (k [])
begins-empty (either a b) k = ap (λ x. x || begins b k []) (begins-empty a k)
    ∙ ap (λ x. (nullable a && k []) || x) (begins-empty b k) ∙ and-or (nullable a) (nullable b) (k [])

and-true : (b : Bool) → (b && true) ≡ b
and-true true = refl
and-true false = refl

pub spells-nil : (r : Pattern) → spells r [] ≡ nullable r
spells-nil r = begins-empty r is_empty ∙ and-true (nullable r)

none_left : (x n : Bool) → (x || (n && false)) ≡ x
none_left true n = refl
none_left false true = refl
none_left false false = refl

pub spells-cons : (r : Pattern) (c : ℕ) (s : List ℕ) → spells r (c ∷ s) ≡ spells (after c r) s
spells-cons r c s = begins-after r is_empty c s ∙ none_left (begins (after c r) is_empty s) (nullable r)

pub same_tests : (p q : List ℕ → Bool) → ((w : List ℕ) → p w ≡ q w) → (text : List ℕ)
    → after_longest p text ≡ after_longest q text
same_tests p q same text = ap (λ (f : List ℕ → Bool). after_longest f text) (fun_ext same)

pub after_spelling-nil : (r : Pattern) → after_spelling r [] ≡ cond (nullable r) (Some []) None
unfolding after_spelling after_longest
after_spelling-nil r = ap (λ b. cond b (Some []) None) (spells-nil r)

pub after_spelling-cons : (r : Pattern) (c : ℕ) (cs : List ℕ) → after_spelling r (c ∷ cs)
    ≡ or_else (after_spelling (after c r) cs) (cond (nullable r) (Some (c ∷ cs)) None)
unfolding after_spelling after_longest
after_spelling-cons r c cs =
    ap (λ x. or_else x (cond (spells r []) (Some (c ∷ cs)) None))
    (same_tests (λ w. spells r (c ∷ w)) (spells (after c r)) (spells-cons r c) cs)
    ∙ ap (λ b. or_else (after_spelling (after c r) cs) (cond b (Some (c ∷ cs)) None)) (spells-nil r)
