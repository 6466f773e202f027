-- Tables of a grammar, and the tests by which one token of lookahead decides it.
use Rattle.std.specs.Prelude.{◌≡◌, ℕ, suc, ◌≤◌, max, Bool, true, false, cond, not, ◌&&◌, ◌||◌, List, [], ◌∷◌, ◌++◌}
use Rattle.grammar.specs.Grammar.{Grammar, Grammar.empty, Grammar.token, Grammar.sequence, Grammar.choice, Grammar.mapped, Grammar.node, Grammar.checked, Grammar.symbol, Grammar.left_chain, is_among}

-- no class is in both
abbrev pub disjoint : List ℕ → List ℕ → Bool
disjoint [] s = true
disjoint (c ∷ r) s = cond (is_among c s) false (disjoint r s)

-- each class of the first is one of the second
abbrev pub subset : List ℕ → List ℕ → Bool
subset [] s = true
subset (c ∷ r) s = cond (is_among c s) (subset r s) false

-- the list holds nothing
abbrev pub is_empty : List ℕ → Bool
is_empty [] = true
is_empty (c ∷ s) = false

-- what each symbol can begin with, whether it can be empty, what could go on after it, and its rank
pub record Tables (N : Type 0) : Type 0 where
  pub first : N → List ℕ
  pub empty : N → Bool
  pub more : N → List ℕ
  pub rank : N → ℕ

-- a part can be empty
abbrev pub nullable : {N : Type 0} {Value : N → Type 0} (T : Tables N) {A : Type 0} → Grammar N Value A → Bool
nullable T (empty a) = true
nullable T (token s) = false
nullable T (sequence g h) = nullable T g && nullable T h
nullable T (choice g h) = nullable T g || nullable T h
nullable T (mapped f g) = nullable T g
nullable T (node f g) = nullable T g
nullable T (checked f g) = nullable T g
nullable T (symbol n) = T.empty n
nullable T (left_chain f g h) = nullable T g

-- the classes that a part can begin with
abbrev pub first : {N : Type 0} {Value : N → Type 0} (T : Tables N) {A : Type 0} → Grammar N Value A → List ℕ
first T (empty a) = []
first T (token s) = s
first T (sequence g h) = first T g ++ cond (nullable T g) (first T h) []
first T (choice g h) = first T g ++ first T h
first T (mapped f g) = first T g
first T (node f g) = first T g
first T (checked f g) = first T g
first T (symbol n) = T.first n
first T (left_chain f g h) = first T g ++ cond (nullable T g) (first T h) []

-- the classes with which a part could go on after its end
abbrev pub continuations : {N : Type 0} {Value : N → Type 0} (T : Tables N) {A : Type 0} → Grammar N Value A → List ℕ
continuations T (empty a) = []
continuations T (token s) = []
continuations T (sequence g h) = continuations T h ++ cond (nullable T h) (continuations T g) []
continuations T (choice g h) = continuations T g ++ (continuations T h ++ cond (nullable T h) (first T g) [])
continuations T (mapped f g) = continuations T g
continuations T (node f g) = continuations T g
continuations T (checked f g) = continuations T g
continuations T (symbol n) = T.more n
continuations T (left_chain f g h) = first T h ++ (continuations T h ++ continuations T g)

-- one token of lookahead decides, and each token has a class
abbrev pub decides : {N : Type 0} {Value : N → Type 0} (T : Tables N) {A : Type 0} → Grammar N Value A → Bool
decides T (empty a) = true
decides T (token s) = not (is_empty s)
decides T (sequence g h) = (decides T g && decides T h) && disjoint (continuations T g) (first T h)
decides T (choice g h) = (decides T g && decides T h) && (not (nullable T g) && disjoint (first T g) (first T h))
decides T (mapped f g) = decides T g
decides T (node f g) = decides T g
decides T (checked f g) = decides T g
decides T (symbol n) = true
decides T (left_chain f g h) = (decides T g && decides T h) && (not (nullable T h)
    && (disjoint (continuations T g) (first T h) && disjoint (continuations T h) (first T h)))

-- no span is of a part that can be empty
abbrev pub spans_tokens : {N : Type 0} {Value : N → Type 0} (T : Tables N) {A : Type 0} → Grammar N Value A → Bool
spans_tokens T (empty a) = true
spans_tokens T (token s) = true
spans_tokens T (sequence g h) = spans_tokens T g && spans_tokens T h
spans_tokens T (choice g h) = spans_tokens T g && spans_tokens T h
spans_tokens T (mapped f g) = spans_tokens T g
spans_tokens T (node f g) = spans_tokens T g && not (nullable T g)
spans_tokens T (checked f g) = spans_tokens T g && not (nullable T g)
spans_tokens T (symbol n) = true
spans_tokens T (left_chain f g h) = spans_tokens T g && spans_tokens T h

-- how many symbols can follow one another before a token is taken
abbrev pub left_rank : {N : Type 0} {Value : N → Type 0} (T : Tables N) {A : Type 0} → Grammar N Value A → ℕ
left_rank T (empty a) = 0
left_rank T (token s) = 0
left_rank T (sequence g h) = max (left_rank T g) (cond (nullable T g) (left_rank T h) 0)
left_rank T (choice g h) = max (left_rank T g) (left_rank T h)
left_rank T (mapped f g) = left_rank T g
left_rank T (node f g) = left_rank T g
left_rank T (checked f g) = left_rank T g
left_rank T (symbol n) = suc (T.rank n)
left_rank T (left_chain f g h) = max (left_rank T g) (cond (nullable T g) (left_rank T h) 0)

-- the greatest left rank of a part
abbrev pub all_ranks : {N : Type 0} {Value : N → Type 0} (T : Tables N) {A : Type 0} → Grammar N Value A → ℕ
all_ranks T (empty a) = 0
all_ranks T (token s) = 0
all_ranks T (sequence g h) = max (all_ranks T g) (all_ranks T h)
all_ranks T (choice g h) = max (all_ranks T g) (all_ranks T h)
all_ranks T (mapped f g) = all_ranks T g
all_ranks T (node f g) = all_ranks T g
all_ranks T (checked f g) = all_ranks T g
all_ranks T (symbol n) = suc (T.rank n)
all_ranks T (left_chain f g h) = max (all_ranks T g) (all_ranks T h)

-- the tables are those of the right sides, which one token decides, and whose ranks are at most R
pub record Passes {N : Type 0} {Value : N → Type 0} (T : Tables N)
    (body : (n : N) → Grammar N Value (Value n)) (R : ℕ) : Type 0 where
  pub begins : (n : N) → subset (first T (body n)) (T.first n) ≡ true
  pub empty : (n : N) → nullable T (body n) ≡ T.empty n
  pub more : (n : N) → subset (continuations T (body n)) (T.more n) ≡ true
  pub one : (n : N) → decides T (body n) ≡ true
  pub spans : (n : N) → spans_tokens T (body n) ≡ true
  pub rank : (n : N) → left_rank T (body n) ≤ T.rank n
  pub ranks : (n : N) → all_ranks T (body n) ≤ R
