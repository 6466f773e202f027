-- What is left after a right side by classes alone, and that it is what the reader leaves.
use Rattle.std.proofs.Common.{◌≡◌, ℕ, zero, suc, Bool, true, false, cond, ◌&&◌, List, [], ◌∷◌, length, refl, sym, ap, ◌∙◌}
use Rattle.std.specs.Prelude.{Option, Some, None}
use Rattle.std.proofs.lemmas.List.{length-map}
use Rattle.grammar.specs.Tokens.{Token, Span, span_between}
use Rattle.grammar.specs.Grammar.{Grammar.empty, Grammar.token, Grammar.sequence, Grammar.choice, Grammar.mapped, Grammar.node, Grammar.checked, Grammar.symbol, Grammar.left_chain, Mode.checking, is_among}
use Rattle.grammar.specs.Tables.{first}
use Rattle.grammar.specs.Reading.{Outcome, Outcome.ok, Outcome.stuck, Outcome.bad, Outcome.out, bind, chooses, take_token, loop, run}
use Rattle.grammar.proofs.Reading.Beginnings.{pick}
use Rattle.grammar.proofs.Reading.Sets.{and_true}
use Rattle.wgsl_theory_grammar.specs.Factored.{FactoredSymbol, FactoredValue, FactoredRule}
use Rattle.wgsl_theory_grammar.specs.Tables.{tables}
use Rattle.wgsl_lex_templates.specs.ExpressionLists.{classes_of}
use Rattle.wgsl_lex_templates.specs.Advancing.{classes_left, ◌>>=◌, is_next, take_any, turns_in, turns}

-- what is left after a right side without checks, where rec says what is left after each symbol
abbrev pub walk : (rec : FactoredSymbol → List ℕ → Option (List ℕ)) {A : Type 0} → FactoredRule A
    → List ℕ → Option (List ℕ)
walk rec (empty a) cs = Some cs
walk rec (token s) cs = take_any s cs
walk rec (sequence g h) cs = walk rec g cs >>= λ ds. walk rec h ds
walk rec (choice g h) cs = cond (is_next (first tables g) cs) (walk rec g cs) (walk rec h cs)
walk rec (mapped f g) cs = walk rec g cs
walk rec (node f g) cs = walk rec g cs
walk rec (checked f g) cs = None
walk rec (symbol n) cs = rec n cs
walk rec (left_chain f g h) cs = walk rec g cs >>= λ ds. turns (first tables h) (walk rec h) ds

-- a right side has no check, and no symbols but these
abbrev pub is_plain : (known : FactoredSymbol → Bool) {A : Type 0} → FactoredRule A → Bool
is_plain known (empty a) = true
is_plain known (token s) = true
is_plain known (sequence g h) = is_plain known g && is_plain known h
is_plain known (choice g h) = is_plain known g && is_plain known h
is_plain known (mapped f g) = is_plain known g
is_plain known (node f g) = is_plain known g
is_plain known (checked f g) = false
is_plain known (symbol n) = known n
is_plain known (left_chain f g h) = is_plain known g && is_plain known h

-- ---- outcomes
left_bind : {A B : Type 0} (m : Outcome A) (f : A → List Token → Outcome B) (F : List ℕ → Option (List ℕ))
    → ((a : A) (us : List Token) → classes_left (f a us) ≡ F (classes_of us))
    → classes_left (bind m f) ≡ (classes_left m >>= F)
left_bind (ok a us) f F h = h a us
left_bind (stuck us) f F h = refl
left_bind (bad x us) f F h = refl
left_bind out f F h = refl

left_pick : {A : Type 0} (b b' : Bool) (x y : Outcome A) (x' y' : Option (List ℕ)) → b ≡ b'
    → classes_left x ≡ x' → classes_left y ≡ y' → classes_left (pick b x y) ≡ cond b' x' y'
left_pick true b' x y x' y' e g h = g ∙ ap (λ (z : Bool). cond z x' y') e
left_pick false b' x y x' y' e g h = h ∙ ap (λ (z : Bool). cond z x' y') e

pub next_is : (s : List ℕ) (ts : List Token) → chooses s ts ≡ is_next s (classes_of ts)
next_is s [] = refl
next_is s (t ∷ ts) = refl

take_is : (s : List ℕ) (ts : List Token) → classes_left (take_token s ts) ≡ take_any s (classes_of ts)
unfolding take_any
take_is s [] = refl
take_is s (t ∷ ts) = left_pick (is_among t.class s) (is_among t.class s) (ok t ts) (stuck (t ∷ ts))
    (Some (classes_of ts)) None refl refl refl

loop_is : {A B : Type 0} (f : A → B → Span → A) (s : List ℕ) (r : List Token → Outcome B)
    (part : List ℕ → Option (List ℕ)) → ((ts : List Token) → classes_left (r ts) ≡ part (classes_of ts))
    → (start : List Token) (k : ℕ) (a : A) (us : List Token)
    → classes_left (loop f s r start k a us) ≡ turns_in k s part (classes_of us)
loop_is f s r part H start zero a us = left_pick (chooses s us) (is_next s (classes_of us)) _ _ _ _
    (next_is s us) refl refl
loop_is f s r part H start (suc k) a us =
    left_pick (chooses s us) (is_next s (classes_of us)) _ _ _ _ (next_is s us)
    (left_bind (r us) (λ b vs. loop f s r start k (f a b (span_between start vs)) vs)
    (turns_in k s part) (λ b vs. loop_is f s r part H start k (f a b (span_between start vs)) vs)
    ∙ ap (λ (z : Option (List ℕ)). z >>= turns_in k s part) (H us))
    refl

left_map : {A B : Type 0} (m : Outcome A) (f : A → List Token → B)
    → classes_left (bind m (λ a us. ok (f a us) us)) ≡ classes_left m
left_map (ok a us) f = refl
left_map (stuck us) f = refl
left_map (bad x us) f = refl
left_map out f = refl

-- what the reader leaves is what is left by classes
pub run_is_walk : (known : FactoredSymbol → Bool) (read : (n : FactoredSymbol) → List Token
    → Outcome (FactoredValue n)) (rec : FactoredSymbol → List ℕ → Option (List ℕ))
    → ((n : FactoredSymbol) → known n ≡ true → (ts : List Token) → classes_left (read n ts) ≡ rec n (classes_of ts))
    → {A : Type 0} (g : FactoredRule A) → is_plain known g ≡ true → (ts : List Token)
    → classes_left (run tables checking read g ts) ≡ walk rec g (classes_of ts)
run_is_walk known read rec H (empty a) e ts = refl
run_is_walk known read rec H (token s) e ts = take_is s ts
run_is_walk known read rec H (sequence {A} {B = C} g h) e ts =
    let w = and_true (is_plain known g) (is_plain known h) e in
    left_bind (run tables checking read g ts)
    (λ a us. bind (run tables checking read h us) (λ b vs. ok (a, b) vs)) (λ ds. walk rec h ds)
    (λ a us. left_map (run tables checking read h us) (λ b vs. (a, b)) ∙ run_is_walk known read rec H h w.1 us)
    ∙ ap (λ (z : Option (List ℕ)). z >>= λ ds. walk rec h ds) (run_is_walk known read rec H g w.0 ts)
run_is_walk known read rec H (choice g h) e ts =
    let w = and_true (is_plain known g) (is_plain known h) e in
    left_pick (chooses (first tables g) ts) (is_next (first tables g) (classes_of ts))
    (run tables checking read g ts) (run tables checking read h ts) (walk rec g (classes_of ts))
    (walk rec h (classes_of ts)) (next_is (first tables g) ts)
    (run_is_walk known read rec H g w.0 ts) (run_is_walk known read rec H h w.1 ts)
run_is_walk known read rec H (mapped f g) e ts =
    left_map (run tables checking read g ts) (λ a us. f a) ∙ run_is_walk known read rec H g e ts
run_is_walk known read rec H (node f g) e ts =
    left_map (run tables checking read g ts) (λ a us. f a (span_between ts us))
    ∙ run_is_walk known read rec H g e ts
run_is_walk known read rec H (checked f g) e ts = absurd cc
run_is_walk known read rec H (symbol n) e ts = H n e ts
run_is_walk known read rec H (left_chain f g h) e ts =
    let w = and_true (is_plain known g) (is_plain known h) e in
    left_bind (run tables checking read g ts) (λ a us. loop f (first tables h)
    (run tables checking read h) ts (length us) a us) (λ ds. turns (first tables h) (walk rec h) ds)
    (λ a us. loop_is f (first tables h) (run tables checking read h) (walk rec h)
    (run_is_walk known read rec H h w.1) ts (length us) a us
    ∙ ap (λ (k : ℕ). turns_in k (first tables h) (walk rec h) (classes_of us))
    (sym (length-map us (λ (t : Token). t.class))))
    ∙ ap (λ (z : Option (List ℕ)). z >>= λ ds. turns (first tables h) (walk rec h) ds)
    (run_is_walk known read rec H g w.0 ts)
