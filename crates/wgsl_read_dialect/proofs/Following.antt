-- Following the steps of a right side is reading it, its value forgotten.
use Rattle.std.proofs.Common.{◌≡◌, ℕ, zero, suc, Bool, true, false, cond, ◌&&◌, List, length, refl, sym, ap, ◌∙◌}
use Rattle.grammar.specs.Tokens.{Span}
use Rattle.grammar.specs.Grammar.{Grammar.empty, Grammar.token, Grammar.sequence, Grammar.choice, Grammar.mapped, Grammar.node, Grammar.checked, Grammar.symbol, Grammar.left_chain}
use Rattle.grammar.specs.Tables.{first}
use Rattle.grammar.specs.States.{State, Read, Read.done, Read.stop, ◌>>=◌, is_any, take_any, next_start, turns_in, turns, go, reads, span_from}
use Rattle.grammar.proofs.Reading.Sets.{and_true}
use Rattle.grammar.proofs.Reading.Beginnings.{pick}
use Rattle.grammar.proofs.States.{reads_is}
use Rattle.wgsl_model.specs.Grammar.Symbols.{Dialect, Dialect.parsed, Dialect.recognized, Symbol.ident}
use Rattle.wgsl_theory_grammar.specs.Unchecked.{unchecked_body}
use Rattle.wgsl_theory_grammar.specs.Factored.{Further.components, Further.braced_part, FactoredSymbol, FactoredSymbol.of, FactoredSymbol.further, FactoredValue, FactoredRule}
use Rattle.wgsl_theory_grammar.specs.Tables.{rank_limit, tables}
use Rattle.wgsl_theory_grammar.proofs.UncheckedTested.{unchecked_passes}
use Rattle.wgsl_read_dialect.specs.Steps.{Steps, Steps.no_step, Steps.a_token, Steps.a_symbol, Steps.a_choice, Steps.items, steps_of, opened, rule_steps}
use Rattle.wgsl_read_dialect.specs.Following.{forgotten, passes, repeated, follow}

-- ---- values that are forgotten
abbrev pub Passed : Type 0
Passed = Read (Unit {0})

-- what comes after, whatever was passed over
abbrev pub following : Passed → (State → Passed) → Passed
following m f = m >>= λ u s. f s

after_alike : (m : Passed) (f f' : State → Passed) → ((s : State) → f s ≡ f' s) → following m f ≡ following m f'
after_alike (done u s) f f' h = h s
after_alike (stop e) f f' h = refl

pub after_done : (m : Passed) → following m (λ s. done (tt {0}) s) ≡ m
after_done (done u s) = refl
after_done (stop e) = refl

valued : {A B : Type 0} (m : Read A) (f : A → State → B) → forgotten (m >>= λ a s. done (f a s) s) ≡ forgotten m
valued (done a s) f = refl
valued (stop e) f = refl

in_sequence : {A B : Type 0} (m : Read A) (r : State → Read B) (f : State → Passed)
    → following (forgotten m) (λ s. following (forgotten (r s)) f)
    ≡ following (forgotten {A = A × B} (m >>= λ a s. r s >>= λ b s'. done (a, b) s')) f
in_sequence (done a s) r f = ap (λ (x : Passed). following x f) (sym (valued (r s) (λ b s'. (a, b))))
in_sequence (stop e) r f = refl

chosen : {A : Type 0} (b : Bool) (x y : Read A) → cond b (forgotten x) (forgotten y) ≡ forgotten (cond b x y)
chosen true x y = refl
chosen false x y = refl

picked : {A : Type 0} (b : Bool) (x y : Read A) → forgotten (pick b x y) ≡ pick b (forgotten x) (forgotten y)
picked true x y = refl
picked false x y = refl

turned : {A B : Type 0} (m : Read B) (m' : Passed) (F : B → State → Read A) (F' : State → Passed)
    → forgotten m ≡ m' → ((b : B) (s : State) → forgotten (F b s) ≡ F' s)
    → forgotten (m >>= F) ≡ following m' F'
turned (done b s) m' F F' e h = h b s ∙ ap (λ (x : Passed). following x F') e
turned (stop x) m' F F' e h = ap (λ (z : Passed). following z F') e

turns_forgotten : {A B : Type 0} (f : A → B → Span → A) (cs : List ℕ) (r : State → Read B) (r' : State → Passed)
    → ((s : State) → forgotten (r s) ≡ r' s)
    → (n : ℕ) (start : ℕ) (a : A) (s : State)
    → forgotten (turns_in n f cs r start a s) ≡ turns_in n (λ u v span. u) cs r' 0 (tt {0}) s
turns_forgotten f cs r r' h zero start a s = picked (is_any cs s) _ _
turns_forgotten f cs r r' h (suc n) start a s =
    picked (is_any cs s) _ _
    ∙ ap (λ (x : Passed). pick (is_any cs s) x (done (tt {0}) s)) (turned (r s) (r' s) _ _ (h s)
    (λ b s'. turns_forgotten f cs r r' h n start (f a b (span_from start s')) s'))

in_chain : {A B : Type 0} (m : Read A) (f : A → B → Span → A) (cs : List ℕ) (r : State → Read B)
    (r' : State → Passed) → ((s : State) → forgotten (r s) ≡ r' s)
    → (start : ℕ) (k : State → Passed) → following (forgotten m) (λ s. following (repeated cs r' s) k)
    ≡ following (forgotten (m >>= λ a s. turns f cs r start a s)) k
unfolding repeated
in_chain (done a s) f cs r r' h start k = ap (λ (x : Passed). following x k)
    (sym (turns_forgotten f cs r r' h (length s.rest) start a s))
in_chain (stop e) f cs r r' h start k = refl

-- ---- right sides
-- nothing is checked
abbrev pub is_unchecked : {A : Type 0} → FactoredRule A → Bool
is_unchecked (empty a) = true
is_unchecked (token s) = true
is_unchecked (sequence g h) = is_unchecked g && is_unchecked h
is_unchecked (choice g h) = is_unchecked g && is_unchecked h
is_unchecked (mapped f g) = is_unchecked g
is_unchecked (node f g) = is_unchecked g
is_unchecked (checked f g) = false
is_unchecked (symbol n) = true
is_unchecked (left_chain f g h) = is_unchecked g && is_unchecked h

none_checked : (L : Dialect) (n : FactoredSymbol) → is_unchecked (unchecked_body L n) ≡ true
none_checked parsed (of ident) = refl
none_checked recognized (of ident) = refl
none_checked L (of n) = refl
none_checked parsed (further components) = refl
none_checked recognized (further components) = refl
none_checked L (further x) = refl

abbrev reading : {A : Type 0} → Dialect → FactoredRule A → State → Read A
reading L g s = go tables (reads tables (unchecked_body L) rank_limit) g s

follow_is : (L : Dialect) {A : Type 0} (g : FactoredRule A) → is_unchecked g ≡ true
    → (k : Steps) (s : State) → follow L (steps_of g k) s ≡ following (forgotten (reading L g s)) (follow L k)
unfolding passes
follow_is L (empty a) u k s = refl
follow_is L (token cs) u k s = refl
follow_is L (sequence g h) u k s =
    let u' = and_true _ _ u in
    follow_is L g u'.0 (steps_of h k) s
    ∙ after_alike (forgotten (reading L g s)) _ _ (λ s'. follow_is L h u'.1 k s')
    ∙ in_sequence (reading L g s) (reading L h) (follow L k)
follow_is L (choice g h) u k s =
    let u' = and_true _ _ u in
    let first_is = follow_is L g u'.0 no_step s ∙ after_done (forgotten (reading L g s)) in
    let second_is = follow_is L h u'.1 no_step s ∙ after_done (forgotten (reading L h s)) in
    ap (λ (x : Passed). following (cond (is_any (first tables g) s) x (follow L (steps_of h no_step) s))
    (follow L k)) first_is
    ∙ ap (λ (x : Passed). following (cond (is_any (first tables g) s) (forgotten (reading L g s)) x)
    (follow L k)) second_is
    ∙ ap (λ (x : Passed). following x (follow L k)) (chosen (is_any (first tables g) s) (reading L g s) (reading L h s))
follow_is L (mapped f g) u k s = follow_is L g u k s
    ∙ ap (λ (x : Passed). following x (follow L k)) (sym (valued (reading L g s) (λ a s'. f a)))
follow_is L (node f g) u k s = follow_is L g u k s ∙ ap (λ (x : Passed). following x (follow L k))
    (sym (valued (reading L g s) (λ a s'. f a (span_from (next_start s) s'))))
follow_is L (checked f g) u k s = absurd cc
follow_is L (symbol n) u k s = refl
follow_is L (left_chain f g h) u k s =
    let u' = and_true _ _ u in
    follow_is L g u'.0 (items (first tables h) (steps_of h no_step) k) s
    ∙ in_chain (reading L g s) f (first tables h) (reading L h) (follow L (steps_of h no_step))
    (λ s'. sym (follow_is L h u'.1 no_step s' ∙ after_done (forgotten (reading L h s')))) (next_start s) (follow L k)

-- the steps of a symbol's right side, before others
symbol_follow : (L : Dialect) (n : FactoredSymbol) (k : Steps) (s : State)
    → follow L (steps_of (unchecked_body L n) k) s ≡ following (passes L n s) (follow L k)
unfolding passes
symbol_follow L n k s =
    follow_is L (unchecked_body L n) (none_checked L n) k s
    ∙ ap (λ (x : Read (FactoredValue n)). following (forgotten x) (follow L k))
    (sym (reads_is tables (unchecked_body L) rank_limit (unchecked_passes L) n s))

-- steps pass over the same where those of the symbols are in their places
opened_is : (L : Dialect) (w : Steps) (s : State) → follow L (opened L w) s ≡ follow L w s
opened_is L no_step s = refl
opened_is L (a_token cs k) s = after_alike (forgotten (take_any cs s)) _ _ (opened_is L k)
opened_is L (a_symbol n k) s = symbol_follow L n (opened L k) s ∙ after_alike (passes L n s) _ _ (opened_is L k)
opened_is L (a_choice cs g h k) s =
    ap (λ (x : Passed). following (cond (is_any cs s) x (follow L (opened L h) s)) (follow L (opened L k)))
    (opened_is L g s)
    ∙ ap (λ (x : Passed). following (cond (is_any cs s) (follow L g s) x) (follow L (opened L k))) (opened_is L h s)
    ∙ after_alike (cond (is_any cs s) (follow L g s) (follow L h s)) _ _ (opened_is L k)
opened_is L (items cs h k) s = after_alike (repeated cs (follow L h) s) _ _ (opened_is L k)

-- what a symbol passes over is what the steps of its right side pass over
pub passes_is : (L : Dialect) (n : FactoredSymbol) (s : State) → passes L n s ≡ follow L (rule_steps L n) s
unfolding rule_steps
passes_is L (of n) s = sym (symbol_follow L (of n) no_step s ∙ after_done (passes L (of n) s))
passes_is L (further braced_part) s =
    sym (opened_is L (steps_of (unchecked_body L (further braced_part)) no_step) s
    ∙ symbol_follow L (further braced_part) no_step s ∙ after_done (passes L (further braced_part) s))
passes_is L (further x) s = sym (symbol_follow L (further x) no_step s ∙ after_done (passes L (further x) s))
