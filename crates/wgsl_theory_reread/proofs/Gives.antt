-- What holds of the values that a right side derives from tokens of which something holds, by the
-- ways to write it.
use Rattle.std.proofs.Common.{◌≡◌, ℕ, true, subst, List, Option, inl, inr}
use Rattle.grammar.specs.Tokens.{Token, Span, Fault, span_between}
use Rattle.grammar.specs.Grammar.{Grammar.empty, Grammar.token, Grammar.sequence, Grammar.choice, Grammar.mapped, Grammar.node, Grammar.checked, Grammar.symbol, Grammar.left_chain, Mode.checking, Chain, Chain.base, Chain.more, Means, is_among}
use Rattle.grammar.specs.Notation.{one_token, ◌then◌, ◌or◌, ◌gives◌, ◌makes◌, ◌with_check◌, ◌▹◌, ◌◃◌, ◌means◌}
use Rattle.wgsl_model.specs.Grammar.Symbols.{Symbol, Value, Rule}
use Rattle.wgsl_theory_grammar.proofs.Faults.Avoids.{AllOf}

-- from tokens of which W holds a symbol derives a value of which S holds, and W holds of the tokens
-- after it
abbrev pub Given : (Token → Type 0) → ((n : Symbol) → Value n → Type 0) → (n : Symbol) → Value n
    → List Token → List Token → Type 0
Given W S n v xs ys = AllOf W xs → AllOf W ys × S n v

-- the same of a right side
pub record GivesBy (W : Token → Type 0) (S : (n : Symbol) → Value n → Type 0) {A : Type 0}
    (g : Rule A) (P : A → Type 0) : Type 0 where
  pub sound : (v : A) (xs ys : List Token) → Means checking (Given W S) g v xs ys → AllOf W xs → AllOf W ys × P v

module _ {W : Token → Type 0} {S : (n : Symbol) → Value n → Type 0} where
  pub token_sound : (s : List ℕ) (P : Token → Type 0)
      → ((t : Token) → is_among t.class s ≡ true → W t → P t) → GivesBy W S (token s) P
  token_sound s P f = record { sound = λ v xs ys d h. (let here = subst (AllOf W) d.1 h in (here.1, f v d.0 here.0)) }

  pub symbol_sound : (n : Symbol) → GivesBy W S (symbol n) (S n)
  symbol_sound n = record { sound = λ v xs ys d h. d h }

  pub none_sound : {A : Type 0} (a : A) (P : A → Type 0) → P a → GivesBy W S (empty a) P
  none_sound a P p = record { sound = λ v xs ys d h. (subst (AllOf W) d.1 h, subst P d.0 p) }

  pub then_sound : {A B : Type 0} {g : Rule A} {k : Rule B} {P : A → Type 0} {Q : B → Type 0}
      → GivesBy W S g P → GivesBy W S k Q → GivesBy W S (g then k) (λ p. P p.0 × Q p.1)
  then_sound G K = record {
    sound = λ v xs ys d h.
        (let a = G.sound v.0 xs d.0 d.1 h in let b = K.sound v.1 d.0 ys d.2 a.0 in (b.0, (a.1, b.1)));
  }

  pub or_sound : {A : Type 0} {g k : Rule A} {P : A → Type 0} → GivesBy W S g P → GivesBy W S k P
      → GivesBy W S (g or k) P
  or_sound {A} {g} {k} {P} G K = record { sound = go } where
    go : (v : A) (xs ys : List Token) → Means checking (Given W S) (g or k) v xs ys → AllOf W xs → AllOf W ys × P v
    go v xs ys (inl d) h = G.sound v xs ys d h
    go v xs ys (inr d) h = K.sound v xs ys d h

  pub gives_sound : {A B : Type 0} {g : Rule A} {P : A → Type 0} → GivesBy W S g P
      → (f : A → B) (Q : B → Type 0) → ((a : A) → P a → Q (f a)) → GivesBy W S (g gives f) Q
  gives_sound G f Q t =
      record { sound = λ v xs ys d h. (let a = G.sound d.0 xs ys d.2 h in (a.0, subst Q d.1 (t d.0 a.1))) }

  pub makes_sound : {A B : Type 0} {g : Rule A} {P : A → Type 0} → GivesBy W S g P
      → (f : A → Span → B) (Q : B → Type 0) → ((a : A) (s : Span) → P a → Q (f a s))
      → GivesBy W S (g makes f) Q
  makes_sound G f Q t = record {
    sound = λ v xs ys d h. (let a = G.sound d.0 xs ys d.2 h in (a.0, subst Q d.1 (t d.0 (span_between xs ys) a.1)));
  }

  -- what is checked too
  pub check_sound : {A : Type 0} {g : Rule A} {P : A → Type 0} → GivesBy W S g P
      → (f : A → Span → Option Fault) → GivesBy W S (g with_check f) P
  check_sound G f = record { sound = λ v xs ys d h. G.sound v xs ys d.1 h }

  pub weaker_sound : {A : Type 0} {g : Rule A} {P : A → Type 0} → GivesBy W S g P → (Q : A → Type 0)
      → ((a : A) → P a → Q a) → GivesBy W S g Q
  weaker_sound G Q t = record { sound = λ v xs ys d h. (let a = G.sound v xs ys d h in (a.0, t v a.1)) }

  pub chain_sound : {A B : Type 0} {g : Rule A} {k : Rule B} {P : A → Type 0} {Q : B → Type 0}
      → GivesBy W S g P → GivesBy W S k Q → (f : A → B → Span → A)
      → ((a : A) (b : B) (s : Span) → P a → Q b → P (f a b s))
      → GivesBy W S (left_chain f g k) P
  chain_sound {A} {B} {g} {k} {P} {Q} G K f t = record { sound = λ v xs ys d h. go xs v ys d h } where
    go : (xs : List Token) (v : A) (ys : List Token)
        → Chain f (Means checking (Given W S) g) (Means checking (Given W S) k) xs v ys → AllOf W xs
        → AllOf W ys × P v
    go xs _ _ (base a ys d) h = G.sound a xs ys d h
    go xs _ _ (more a b ys zs c d) h =
        let x = go xs a ys c h in let y = K.sound b ys zs d x.0 in (y.0, t a b (span_between xs zs) x.1 y.1)

  -- nothing is asked of the value
  pub anything : {A : Type 0} (g : Rule A) → GivesBy W S g (λ (v : A). Unit {0})
  anything (empty a) = none_sound a (λ v. Unit {0}) tt
  anything (token s) = token_sound s (λ v. Unit {0}) (λ t m h. tt)
  anything (sequence g h) = weaker_sound (then_sound (anything g) (anything h)) (λ v. Unit {0}) (λ v p. tt)
  anything (choice g h) = or_sound (anything g) (anything h)
  anything (mapped f g) = gives_sound (anything g) f (λ v. Unit {0}) (λ v p. tt)
  anything (node f g) = makes_sound (anything g) f (λ v. Unit {0}) (λ v s p. tt)
  anything (checked f g) = check_sound (anything g) f
  anything (symbol n) = weaker_sound (symbol_sound n) (λ v. Unit {0}) (λ v p. tt)
  anything (left_chain f g h) = chain_sound (anything g) (anything h) f (λ a b s p q. tt)

  -- a sign before a part, after it, or for a value
  pub sign_before : {A : Type 0} (c : ℕ) {g : Rule A} {P : A → Type 0} → GivesBy W S g P → GivesBy W S (c ▹ g) P
  sign_before c {P = P} G = gives_sound (then_sound (anything (one_token c)) G) (λ p. p.1) P (λ p h. h.1)

  pub sign_after : {A : Type 0} (c : ℕ) {g : Rule A} {P : A → Type 0} → GivesBy W S g P → GivesBy W S (g ◃ c) P
  sign_after c {P = P} G = gives_sound (then_sound G (anything (one_token c))) (λ p. p.0) P (λ p h. h.0)

  pub means_sound : {A : Type 0} (c : ℕ) (a : A) (P : A → Type 0) → P a → GivesBy W S (c means a) P
  means_sound c a P p = gives_sound (anything (one_token c)) (λ t. a) P (λ t h. p)
