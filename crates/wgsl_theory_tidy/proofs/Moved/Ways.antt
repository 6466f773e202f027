-- What a right side derives is derived wherever the tokens are, by the ways to write it.
use Rattle.std.proofs.Common.{◌≡◌, ℕ, List, [], ◌∷◌, ◌++◌, map, Option, Some, None, refl, sym, ap, ap₂, subst, ◌∙◌, inl, inr}
use Rattle.std.specs.Option.{option_map}
use Rattle.grammar.specs.Tokens.{Token, Span, Fault, span_between}
use Rattle.grammar.specs.Grammar.{Grammar.empty, Grammar.token, Grammar.symbol, Grammar.left_chain, Mode.checking, Chain, Chain.base, Chain.more, Means}
use Rattle.grammar.specs.Notation.{one_token, ◌then◌, ◌or◌, ◌gives◌, ◌makes◌, ◌with_check◌, ◌▹◌, ◌◃◌, ◌means◌, optional, many, several, separated, list, list_or_none}
use Rattle.wgsl_model.specs.Grammar.Symbols.{Symbol, Rule}
use Rattle.wgsl_theory_reread.specs.CanonicalUnits.{without_place}
use Rattle.wgsl_theory_reread.proofs.Again.{D}
use Rattle.wgsl_theory_reread.proofs.Ways.{found_as, found_in, first_of, class_of, map_after}
use Rattle.wgsl_theory_tidy.proofs.Moved.Alike.{Alike, Moves, Moved}

-- what a right side derives is derived wherever the tokens are
pub record MovesBy {A : Type 0} (g : Rule A) (like : A → A → Type 0) : Type 0 where
  pub moved : (v : A) (xs ys : List Token) → Means checking Moved g v xs ys → Moves (Means checking D g) like v xs ys

-- ---- one token, a symbol, and nothing
pub token_moves : (s : List ℕ) → MovesBy (token s) (λ w v. without_place w ≡ without_place v)
token_moves s = record {
  moved = λ v xs ys d us e.
      let first = first_of (without_place v) (map without_place ys) us (e ∙ ap (map without_place) d.1) in
      record {
        value = first.token;
        rest = first.rest;
        kinds = first.kinds;
        like = first.kind;
        derived = (class_of (without_place v) first.token s first.kind d.0, first.whole);
      };
}

pub sign_moves : (c : ℕ) → MovesBy (one_token c) (λ w v. without_place w ≡ without_place v)
sign_moves c = token_moves (c ∷ [])

pub symbol_moves : (n : Symbol) → MovesBy (symbol n) (Alike n)
symbol_moves n = record { moved = λ v xs ys d us e. d us e }

pub none_moves : {A : Type 0} (a : A) {like : A → A → Type 0} → like a a → MovesBy (empty a) like
none_moves a {like} t = record {
  moved = λ v xs ys d us e. record {
    value = a;
    rest = us;
    kinds = e ∙ ap (map without_place) d.1;
    like = subst (like a) d.0 t;
    derived = (refl, refl);
  };
}

-- ---- one after another, or one of two
pub then_moves : {A B : Type 0} {g : Rule A} {h : Rule B} {like_1 : A → A → Type 0} {like_2 : B → B → Type 0}
    → MovesBy g like_1 → MovesBy h like_2 → MovesBy (g then h) (λ w v. like_1 w.0 v.0 × like_2 w.1 v.1)
then_moves G H = record {
  moved = λ v xs ys d us e.
      let a = G.moved v.0 xs d.0 d.1 us e in
      let b = H.moved v.1 d.0 ys d.2 a.rest a.kinds in
      record {
        value = (a.value, b.value);
        rest = b.rest;
        kinds = b.kinds;
        like = (a.like, b.like);
        derived = (a.rest, a.derived, b.derived);
      };
}

pub or_moves : {A : Type 0} {g h : Rule A} {like : A → A → Type 0} → MovesBy g like → MovesBy h like
    → MovesBy (g or h) like
or_moves {A} {g} {h} {like} G H = record { moved = go } where
  go : (v : A) (xs ys : List Token) → Means checking Moved (g or h) v xs ys
      → Moves (Means checking D (g or h)) like v xs ys
  go v xs ys (inl d) us e = found_in (λ a rest i. inl i) (G.moved v xs ys d us e)
  go v xs ys (inr d) us e = found_in (λ a rest i. inr i) (H.moved v xs ys d us e)

-- ---- values
pub gives_moves : {A B : Type 0} {g : Rule A} {f : A → B} {like : A → A → Type 0} {same : B → B → Type 0}
    → MovesBy g like → ((w v : A) → like w v → same (f w) (f v)) → MovesBy (g gives f) same
gives_moves {A} {B} {g} {f} {like} {same} G t = record {
  moved = λ v xs ys d. subst (λ (z : B). Moves (Means checking D (g gives f)) same z xs ys) d.1 (λ us e.
      found_as (λ a rest. f a) (λ a rest i. (a, refl, i)) (λ a rest h. t a d.0 h) (G.moved d.0 xs ys d.2 us e));
}

pub makes_moves : {A B : Type 0} {g : Rule A} {f : A → Span → B} {like : A → A → Type 0} {same : B → B → Type 0}
    → MovesBy g like → ((w v : A) (s r : Span) → like w v → same (f w s) (f v r)) → MovesBy (g makes f) same
makes_moves {A} {B} {g} {f} {like} {same} G t = record {
  moved = λ v xs ys d. subst (λ (z : B). Moves (Means checking D (g makes f)) same z xs ys) d.1 (λ us e.
      found_as (λ a rest. f a (span_between us rest)) (λ a rest i. (a, refl, i))
      (λ a rest h. t a d.0 (span_between us rest) (span_between xs ys) h) (G.moved d.0 xs ys d.2 us e));
}

-- what passes a check, and another likeness of it: whether a value passes does not depend on its
-- spans
pub check_moves : {A : Type 0} {g : Rule A} {f : A → Span → Option Fault} {like same : A → A → Type 0}
    → MovesBy g like → ((w v : A) (s r : Span) → like w v → f v r ≡ None → (f w s ≡ None) × same w v)
    → MovesBy (g with_check f) same
check_moves G t = record {
  moved = λ v xs ys d us e.
      let a = G.moved v xs ys d.1 us e in
      let passes = t a.value v (span_between us a.rest) (span_between xs ys) a.like d.0 in
      record { value = a.value; rest = a.rest; kinds = a.kinds; like = passes.1; derived = (passes.0, a.derived) };
}

-- another likeness
pub alike_moves : {A : Type 0} {g : Rule A} {like same : A → A → Type 0} → MovesBy g like
    → ((w v : A) → like w v → same w v) → MovesBy g same
alike_moves G t = record {
  moved = λ v xs ys d us e. found_as (λ a rest. a) (λ a rest i. i) (λ a rest h. t a v h) (G.moved v xs ys d us e);
}

-- ---- a sign or a keyword, before a part, after it, or for a value
pub before_moves : {A : Type 0} (c : ℕ) {g : Rule A} {like : A → A → Type 0} → MovesBy g like → MovesBy (c ▹ g) like
before_moves c G = gives_moves (then_moves (token_moves (c ∷ [])) G) (λ w v h. h.1)

pub after_moves : {A : Type 0} (c : ℕ) {g : Rule A} {like : A → A → Type 0} → MovesBy g like → MovesBy (g ◃ c) like
after_moves c G = gives_moves (then_moves G (token_moves (c ∷ []))) (λ w v h. h.0)

pub means_moves : {A : Type 0} (c : ℕ) {a : A} {like : A → A → Type 0} → like a a → MovesBy (c means a) like
means_moves c t = gives_moves (token_moves (c ∷ [])) (λ w v h. t)

-- ---- a part that may be left out
pub optional_moves : {A B : Type 0} {g : Rule A} {bare : A → B} → MovesBy g (λ w v. bare w ≡ bare v)
    → MovesBy (optional g) (λ w v. option_map bare w ≡ option_map bare v)
optional_moves {A} {B} G = or_moves (gives_moves G (λ w v h. ap (λ (z : B). Some z) h)) (none_moves None refl)

-- ---- one after another
pub chain_moves : {A B : Type 0} {f : A → B → Span → A} {g : Rule A} {h : Rule B}
    {like : A → A → Type 0} {like_item : B → B → Type 0}
    → MovesBy g like → MovesBy h like_item
    → ((w v : A) (x y : B) (s r : Span) → like w v → like_item x y → like (f w x s) (f v y r))
    → MovesBy (left_chain f g h) like
chain_moves {A} {B} {f} {g} {h} {like} {like_item} G H t = record { moved = λ v xs ys d. go xs v ys d } where
  go : (xs : List Token) (v : A) (ys : List Token)
      → Chain f (Means checking Moved g) (Means checking Moved h) xs v ys
      → Moves (Means checking D (left_chain f g h)) like v xs ys
  go xs _ _ (base a ys d) us e = found_in (λ x rest i. base x rest i) (G.moved a xs ys d us e)
  go xs _ _ (more a b ys zs c d) us e =
      let x = go xs a ys c us e in
      let y = H.moved b ys zs d x.rest x.kinds in
      record {
        value = f x.value y.value (span_between us y.rest);
        rest = y.rest;
        kinds = y.kinds;
        like = t x.value a y.value b (span_between us y.rest) (span_between xs zs) x.like y.like;
        derived = more x.value y.value x.rest y.rest x.derived y.derived;
      }

-- one more item
items_after : {A B : Type 0} (bare : A → B) (w v : List A) (x y : A) → map bare w ≡ map bare v
    → bare x ≡ bare y → map bare (w ++ (x ∷ [])) ≡ map bare (v ++ (y ∷ []))
items_after {A} {B} bare w v x y h k = map_after bare w x
    ∙ ap₂ (λ (z : List B) (u : B). z ++ (u ∷ [])) h k ∙ sym (map_after bare v y)

-- a first item
one_moves : {A B : Type 0} {g : Rule A} {bare : A → B} → MovesBy g (λ w v. bare w ≡ bare v)
    → MovesBy (g gives λ (x : A). x ∷ []) (λ w v. map bare w ≡ map bare v)
one_moves {A} {B} G = gives_moves G (λ w v h. ap (λ (z : B). z ∷ []) h)

pub many_moves : {A B : Type 0} {g : Rule A} {bare : A → B} → MovesBy g (λ w v. bare w ≡ bare v)
    → MovesBy (many g) (λ w v. map bare w ≡ map bare v)
many_moves {bare = bare} G = chain_moves (none_moves [] refl) G (λ w v x y s r h k. items_after bare w v x y h k)

pub several_moves : {A B : Type 0} {g : Rule A} {bare : A → B} → MovesBy g (λ w v. bare w ≡ bare v)
    → MovesBy (several g) (λ w v. map bare w ≡ map bare v)
several_moves {bare = bare} G = chain_moves (one_moves G) G (λ w v x y s r h k. items_after bare w v x y h k)

separated_moves : {A B : Type 0} (c : ℕ) {g : Rule A} {bare : A → B}
    → MovesBy g (λ w v. bare w ≡ bare v) → MovesBy (separated c g) (λ w v. map bare w ≡ map bare v)
separated_moves c {bare = bare} G = chain_moves (one_moves G) (before_moves c G)
    (λ w v x y s r h k. items_after bare w v x y h k)

pub list_moves : {A B : Type 0} (c : ℕ) {g : Rule A} {bare : A → B}
    → MovesBy g (λ w v. bare w ≡ bare v) → MovesBy (list c g) (λ w v. map bare w ≡ map bare v)
list_moves c G = or_moves (separated_moves c G) (after_moves c (separated_moves c G))

pub list_or_none_moves : {A B : Type 0} (c : ℕ) {g : Rule A} {bare : A → B}
    → MovesBy g (λ w v. bare w ≡ bare v) → MovesBy (list_or_none c g) (λ w v. map bare w ≡ map bare v)
list_or_none_moves c G = or_moves (list_moves c G) (none_moves [] refl)
