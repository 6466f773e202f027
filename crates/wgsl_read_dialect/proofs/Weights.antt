-- What steps take at least, and what the steps of a symbol weigh.
use Rattle.std.proofs.Common.{◌≡◌, ℕ, zero, suc, ◌+◌, ◌<◌, ◌≤◌, Bool, true, false, cond, ◌&&◌, ◌||◌, nat_le, List, [], ◌∷◌, ◌++◌, length, ◌⊎◌, inl, inr, refl, ap, arith, length-append}
use Rattle.std.proofs.lemmas.Bool.Decides.{nat_tests}
use Rattle.grammar.specs.Tokens.{Token}
use Rattle.grammar.specs.Grammar.{Grammar.token, Grammar.symbol, Mode.checking}
use Rattle.grammar.specs.States.{State, Read, Read.done, Read.stop, ◌>>=◌, refused_at, is_any, take_any, turns_in, reads}
use Rattle.grammar.proofs.Reading.Beginnings.{pick}
use Rattle.grammar.proofs.Reading.Exact.{part_front}
use Rattle.grammar.proofs.States.{turns_are, shortens, read_is_part}
use Rattle.wgsl_model.specs.Grammar.Symbols.{Dialect, Dialect.parsed, Dialect.recognized, Symbol.ident}
use Rattle.wgsl_theory_grammar.specs.Unchecked.{unchecked_body}
use Rattle.wgsl_theory_grammar.specs.Factored.{Further.components, FactoredSymbol, FactoredSymbol.of, FactoredSymbol.further, FactoredValue, small_body}
use Rattle.wgsl_theory_grammar.specs.Tables.{rank_limit, empties, tables}
use Rattle.wgsl_theory_grammar.proofs.Passes.{small_passes}
use Rattle.wgsl_theory_grammar.proofs.UncheckedTested.{unchecked_passes}
use Rattle.wgsl_read_dialect.specs.Steps.{Steps, Steps.no_step, Steps.a_token, Steps.a_symbol, Steps.a_choice, Steps.items, rule_steps}
use Rattle.wgsl_read_dialect.specs.Following.{forgotten, passes, repeated, follow}
use Rattle.wgsl_read_dialect.specs.Weights.{can_be_empty, symbol_weight, weight, token_weight, is_settled}

-- ---- the steps of each symbol
pub rule_settled : (L : Dialect) (n : FactoredSymbol) → is_settled (rule_steps L n) ≡ true
unfolding rule_steps symbol_weight token_weight
rule_settled parsed (of ident) = refl
rule_settled recognized (of ident) = refl
rule_settled L (of n) = refl
rule_settled parsed (further components) = refl
rule_settled recognized (further components) = refl
rule_settled L (further x) = refl

pub rule_empty : (L : Dialect) (n : FactoredSymbol) → can_be_empty (rule_steps L n) ≡ empties n
unfolding rule_steps
rule_empty parsed (of ident) = refl
rule_empty recognized (of ident) = refl
rule_empty L (of n) = refl
rule_empty parsed (further components) = refl
rule_empty recognized (further components) = refl
rule_empty L (further x) = refl

lighter : (L : Dialect) (n : FactoredSymbol) → nat_le (weight (rule_steps L n)) (symbol_weight n) ≡ true
unfolding rule_steps symbol_weight
lighter parsed (of ident) = refl
lighter recognized (of ident) = refl
lighter L (of n) = refl
lighter parsed (further components) = refl
lighter recognized (further components) = refl
lighter L (further x) = refl

pub rule_weighs : (L : Dialect) (n : FactoredSymbol) → weight (rule_steps L n) ≤ symbol_weight n
rule_weighs L n = let h = lighter L n in grind (arith, nat_tests)

-- ---- what is taken
-- a token, unless it may be none
abbrev pub least : Bool → ℕ
least b = cond b 0 1

abbrev Passed : Type 0
Passed = Read (Unit {0})

-- what was done after a part
parted : {A : Type 0} (m : Read A) (f : A → State → Passed) (u : Unit {0}) (s' : State)
    → (m >>= f) ≡ done u s' → (a : A) × (t : State) × (m ≡ done a t) × (f a t ≡ done u s')
parted (done a t) f u s' e = (a, t, refl, e)
parted (stop x) f u s' e = absurd cc

after_part : {A : Type 0} (m : Read A) (u : Unit {0}) (s' : State) → forgotten m ≡ done u s'
    → (a : A) × (m ≡ done a s')
after_part (done a t) u s' e = let q : t ≡ s' = cc in (a, ap (λ (z : State). done a z) q)
after_part (stop x) u s' e = absurd cc

symbol_takes : (L : Dialect) (n : FactoredSymbol) (s : State) (u : Unit {0}) (s' : State)
    → passes L n s ≡ done u s' → length s'.rest + least (empties n) ≤ length s.rest
unfolding passes
symbol_takes L n s u s' e =
    let q = after_part (reads tables (unchecked_body L) rank_limit n s) u s' e in
    by_case (empties n) refl q.0 q.1
  where
    by_case : (b : Bool) → empties n ≡ b → (v : FactoredValue n)
        → reads tables (unchecked_body L) rank_limit n s ≡ done v s'
        → length s'.rest + least b ≤ length s.rest
    by_case true w v h =
        let p = part_front checking (unchecked_body L) n v s.rest s'.rest
        (read_is_part tables (unchecked_body L) rank_limit n s v s' h) in
        let same : length s.rest ≡ length (p.0 ++ s'.rest) = ap (λ (x : List Token). length x) p.1 in
        omega (arith, same, length-append p.0 s'.rest)
    by_case false w v h =
        let l = shortens tables (unchecked_body L) rank_limit (unchecked_passes L)
        (symbol n) refl refl w s v s' h in omega (arith, l)

never_refused : {A : Type 0} (end : ℕ) (ts : List Token) (a : A) (s : State) → refused_at end ts ≡ done a s → ⊥
never_refused end [] a s e = cc
never_refused end (t ∷ ts) a s e = cc

token_takes : (cs : List ℕ) (s : State) (t : Token) (s' : State) → take_any cs s ≡ done t s'
    → length s'.rest < length s.rest
token_takes [] s t s' e = absurd (never_refused s.end s.rest t s' e)
token_takes (c ∷ cs) s t s' e = shortens tables small_body rank_limit small_passes {A = Token}
    (token (c ∷ cs)) refl refl refl s t s' e

-- a reader that leaves no more tokens than there are, and fewer, unless it may take none
abbrev Leaves : (State → Passed) → ℕ → Type 0
Leaves r n = (s : State) (u : Unit {0}) (s' : State) → r s ≡ done u s' → length s'.rest + n ≤ length s.rest

picked : (b : Bool) (x y : Passed) (u : Unit {0}) (s' : State) → pick b x y ≡ done u s'
    → (x ≡ done u s') ⊎ (y ≡ done u s')
picked true x y u s' e = inl e
picked false x y u s' e = inr e

condition : (b : Bool) (x y : Passed) (u : Unit {0}) (s' : State) → cond b x y ≡ done u s'
    → (x ≡ done u s') ⊎ (y ≡ done u s')
condition true x y u s' e = inl e
condition false x y u s' e = inr e

stayed : (s : State) (u v : Unit {0}) (s' : State) → done u s ≡ done v s' → length s'.rest ≤ length s.rest
stayed s u v s' e = let q : s ≡ s' = cc in let l = ap (λ (x : State). length x.rest) q in omega (arith, l)

turns_take : (n : ℕ) (cs : List ℕ) (r : State → Passed) → Leaves r 0
    → Leaves (turns_in n (λ u v span. u) cs r 0 (tt {0})) 0
turns_take zero cs r h s u s' e = elim (picked (is_any cs s) _ _ u s' e) [
  | inl x ↦ absurd cc
  | inr x ↦ let l = stayed s _ u s' x in omega (arith, l)
]
turns_take (suc n) cs r h s u s' e =
    elim (picked (is_any cs s) _ _ u s' e) [
      | inl x ↦ (let p = parted (r s) (λ v t. turns_in n (λ u v span. u) cs r 0 (tt {0}) t) u s' x in
          let a = h s p.0 p.1 p.2 in let b = turns_take n cs r h p.1 u s' p.3 in omega (arith, a, b))
      | inr x ↦ let l = stayed s _ u s' x in omega (arith, l)
    ]

either_least : (a b : Bool) → least (a || b) ≤ least a
either_least true b = omega arith
either_least false true = omega arith
either_least false false = omega arith

other_least : (a b : Bool) → least (a || b) ≤ least b
other_least true true = omega arith
other_least true false = omega arith
other_least false b = omega arith

both_least : (a b : Bool) → least (a && b) ≤ least a + least b
both_least true b = omega arith
both_least false b = omega arith

-- steps that take a token at least, unless they may take none
pub follow_takes : (L : Dialect) (k : Steps) → Leaves (follow L k) (least (can_be_empty k))
unfolding repeated
follow_takes L no_step s u s' e = let l = stayed s _ u s' e in omega (arith, l)
follow_takes L (a_token cs k) s u s' e =
    let p = parted (forgotten (take_any cs s)) _ u s' e in
    let q = after_part (take_any cs s) p.0 p.1 p.2 in
    let a = token_takes cs s q.0 p.1 q.1 in let b = follow_takes L k p.1 u s' p.3 in omega (arith, a, b)
follow_takes L (a_symbol n k) s u s' e =
    let p = parted (passes L n s) _ u s' e in
    let a = symbol_takes L n s p.0 p.1 p.2 in let b = follow_takes L k p.1 u s' p.3 in
    let c = both_least (empties n) (can_be_empty k) in omega (arith, a, b, c)
follow_takes L (a_choice cs g h k) s u s' e =
    let p = parted (cond (is_any cs s) (follow L g s) (follow L h s)) _ u s' e in
    let b = follow_takes L k p.1 u s' p.3 in
    let c = both_least (can_be_empty g || can_be_empty h) (can_be_empty k) in
    elim (condition (is_any cs s) (follow L g s) (follow L h s) p.0 p.1 p.2) [
      | inl x ↦ let a = follow_takes L g s p.0 p.1 x in
          let d = either_least (can_be_empty g) (can_be_empty h) in omega (arith, a, b, c, d)
      | inr x ↦ let a = follow_takes L h s p.0 p.1 x in
          let d = other_least (can_be_empty g) (can_be_empty h) in omega (arith, a, b, c, d)
    ]
follow_takes L (items cs h k) s u s' e =
    let p = parted (repeated cs (follow L h) s) _ u s' e in
    let each : Leaves (follow L h) 0 = λ t v t' x. let l = follow_takes L h t v t' x in omega (arith, l) in
    let a = turns_take (length s.rest) cs (follow L h) each s p.0 p.1 p.2 in
    let b = follow_takes L k p.1 u s' p.3 in omega (arith, a, b)

-- one item more, where the next token is of one of the classes
pub repeated_is : (L : Dialect) (cs : List ℕ) (h : Steps) (s : State) → can_be_empty h ≡ false
    → repeated cs (follow L h) s
    ≡ cond (is_any cs s) (follow L h s >>= λ u s'. repeated cs (follow L h) s') (done (tt {0}) s)
unfolding repeated
repeated_is L cs h s w =
    turns_are (λ u v span. u) cs (follow L h) (λ t u t' e. let l = follow_takes L h t u t' e in
    let one : least (can_be_empty h) ≡ 1 = ap least w in omega (arith, l, one)) 0 (tt {0}) s
