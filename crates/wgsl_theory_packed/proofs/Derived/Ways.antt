-- The numbers in what a right side derives from tokens that fit, by the ways to write it.
use Rattle.std.proofs.Common.{ℕ, zero, suc, ◌-◌, ◌^◌, ◌<◌, subst, List, [], ◌∷◌, ◌++◌, length, Some, None, arith}
use Rattle.std.specs.Option.{IfSome}
use Rattle.grammar.specs.Tokens.{Token, Span, last_end, span_of, first_tokens, span_between}
use Rattle.grammar.specs.Grammar.{Grammar.left_chain, Mode.checking, Chain, Chain.base, Chain.more, Means}
use Rattle.grammar.specs.Notation.{◌makes◌, optional, many, several, separated, list, list_or_none}
use Rattle.wgsl_model.specs.Grammar.Symbols.{Symbol, Value, Rule}
use Rattle.wgsl_theory_reread.proofs.Gives.{Given, GivesBy, none_sound, or_sound, gives_sound, chain_sound, sign_before, sign_after}
use Rattle.wgsl_theory_packed.specs.Fits.{Every, SpanFits}
use Rattle.wgsl_theory_packed.proofs.Derived.Tokens.{TokenFits, AllFit}

first_fit : (n : ℕ) (xs : List Token) → AllFit xs → AllFit (first_tokens n xs)
first_fit zero xs h = tt
first_fit (suc n) [] h = tt
first_fit (suc n) (t ∷ xs) h = (h.0, first_fit n xs h.1)

last_fits : (place : ℕ) (xs : List Token) → place < 2 ^ 64 → AllFit xs → last_end place xs < 2 ^ 64
last_fits place [] small h = small
last_fits place (t ∷ xs) small h = last_fits t.end xs h.0.end h.1

span_fits : (xs : List Token) → AllFit xs → SpanFits (span_of xs)
span_fits [] h = (omega arith, omega arith)
span_fits (t ∷ xs) h = (h.0.start, last_fits t.end xs h.0.end h.1)

between_fits : (xs ys : List Token) → AllFit xs → SpanFits (span_between xs ys)
between_fits xs ys h = span_fits _ (first_fit (length xs - length ys) xs h)

pub every_more : {A : Type 0} (P : A → Type 0) (xs : List A) (x : A) → Every P xs → P x → Every P (xs ++ (x ∷ []))
every_more P [] x h k = (k, tt)
every_more P (y ∷ xs) x h k = (h.0, every_more P xs x h.1 k)

module _ {S : (n : Symbol) → Value n → Type 0} where
  -- with the span, which fits
  pub makes_fits : {A B : Type 0} {g : Rule A} {P : A → Type 0} → GivesBy TokenFits S g P
      → (f : A → Span → B) (Q : B → Type 0) → ((a : A) (s : Span) → SpanFits s → P a → Q (f a s))
      → GivesBy TokenFits S (g makes f) Q
  makes_fits G f Q t = record {
    sound = λ v xs ys d h. (let a = G.sound d.0 xs ys d.2 h in
        (a.0, subst Q d.1 (t d.0 (span_between xs ys) (between_fits xs ys h) a.1)));
  }

  pub chain_fits : {A B : Type 0} {g : Rule A} {k : Rule B} {P : A → Type 0} {Q : B → Type 0}
      → GivesBy TokenFits S g P → GivesBy TokenFits S k Q → (f : A → B → Span → A)
      → ((a : A) (b : B) (s : Span) → SpanFits s → P a → Q b → P (f a b s))
      → GivesBy TokenFits S (left_chain f g k) P
  chain_fits {A} {B} {g} {k} {P} {Q} G K f t = record { sound = λ v xs ys d h. go xs v ys d h } where
    go : (xs : List Token) (v : A) (ys : List Token)
        → Chain f (Means checking (Given TokenFits S) g) (Means checking (Given TokenFits S) k) xs v ys
        → AllFit xs → AllFit ys × P v
    go xs _ _ (base a ys d) h = G.sound a xs ys d h
    go xs _ _ (more a b ys zs c d) h =
        let x = go xs a ys c h in let y = K.sound b ys zs d x.0 in
        (y.0, t a b (span_between xs zs) (between_fits xs zs h) x.1 y.1)

  pub optional_fits : {A : Type 0} {g : Rule A} {P : A → Type 0} → GivesBy TokenFits S g P
      → GivesBy TokenFits S (optional g) (λ o. IfSome o P)
  optional_fits {A = A} {P = P} G = or_sound (gives_sound G (λ (a : A). Some a) (λ o. IfSome o P) (λ a p. p))
      (none_sound None (λ o. IfSome o P) tt)

  pub many_fit : {A : Type 0} {g : Rule A} {P : A → Type 0} → GivesBy TokenFits S g P
      → GivesBy TokenFits S (many g) (Every P)
  many_fit {A = A} {P = P} G = chain_sound (none_sound [] (Every P) tt) G
      (λ (xs : List A) (x : A) s. xs ++ (x ∷ [])) (λ xs x s h k. every_more P xs x h k)

  pub several_fit : {A : Type 0} {g : Rule A} {P : A → Type 0} → GivesBy TokenFits S g P
      → GivesBy TokenFits S (several g) (Every P)
  several_fit {A = A} {P = P} G = chain_sound (gives_sound G (λ (x : A). x ∷ []) (Every P) (λ a p. (p, tt))) G
      (λ (xs : List A) (x : A) s. xs ++ (x ∷ [])) (λ xs x s h k. every_more P xs x h k)

  separated_fit : {A : Type 0} (c : ℕ) {g : Rule A} {P : A → Type 0} → GivesBy TokenFits S g P
      → GivesBy TokenFits S (separated c g) (Every P)
  separated_fit {A = A} c {P = P} G =
      chain_sound (gives_sound G (λ (x : A). x ∷ []) (Every P) (λ a p. (p, tt))) (sign_before c G)
      (λ (xs : List A) (x : A) s. xs ++ (x ∷ [])) (λ xs x s h k. every_more P xs x h k)

  pub list_fits : {A : Type 0} (c : ℕ) {g : Rule A} {P : A → Type 0} → GivesBy TokenFits S g P
      → GivesBy TokenFits S (list c g) (Every P)
  list_fits c G = or_sound (separated_fit c G) (sign_after c (separated_fit c G))

  pub list_or_none_fits : {A : Type 0} (c : ℕ) {g : Rule A} {P : A → Type 0} → GivesBy TokenFits S g P
      → GivesBy TokenFits S (list_or_none c g) (Every P)
  list_or_none_fits c {P = P} G = or_sound (list_fits c G) (none_sound [] (Every P) tt)
