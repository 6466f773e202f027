-- How a right side is read again, by the ways to write it.
use Rattle.std.proofs.Common.{◌≡◌, ℕ, true, List, [], ◌∷◌, ◌++◌, map, Option, Some, None, refl, sym, ap, ap₂, subst, ◌∙◌, inl, inr}
use Rattle.std.specs.Option.{option_map}
use Rattle.grammar.specs.Tokens.{Token, Span, span_between}
use Rattle.grammar.specs.Grammar.{Grammar.empty, Grammar.left_chain, Mode.checking, Chain, Chain.base, Chain.more, Means, is_among}
use Rattle.grammar.specs.Notation.{one_token, ◌then◌, ◌or◌, ◌gives◌, ◌makes◌, ◌▹◌, ◌◃◌, ◌means◌, optional, many, several, separated, list, list_or_none}
use Rattle.wgsl_model.specs.Tokens.ClassTable.{SymComma}
use Rattle.wgsl_model.specs.Tokens.Kind.{Kind, plain}
use Rattle.wgsl_model.specs.Grammar.Symbols.{Rule}
use Rattle.wgsl_theory_reread.specs.CanonicalExpressions.{Writer, optional_tokens, all_tokens, further_tokens, list_tokens}
use Rattle.wgsl_theory_reread.specs.CanonicalUnits.{without_place}
use Rattle.wgsl_theory_reread.proofs.Words.{AllWords}
use Rattle.wgsl_theory_reread.proofs.Again.{D, Again, Found, Finds}

-- a value that is read again, and the words after it
abbrev pub Outcome : {A : Type 0} → Rule A → Writer A → (A → A → Type 0) → A → List Token → Type 0
Outcome g writes like v ys = AllWords ys × Finds (Means checking D g) (λ w. like w v) (writes v)

-- what a right side derives is read again
pub record Reads {A : Type 0} (g : Rule A) (writes : Writer A) (like : A → A → Type 0) : Type 0 where
  pub again : (v : A) (xs ys : List Token) → Means checking Again g v xs ys → AllWords xs → Outcome g writes like v ys

-- a list without its first
abbrev after_first : List Kind → List Kind
after_first [] = []
after_first (k ∷ ks) = ks

-- ---- one token
-- the first token of a list whose kinds begin with a kind
pub record First (k : Kind) (ks : List Kind) (ts : List Token) : Type 0 where
  pub token : Token
  pub rest : List Token
  pub whole : ts ≡ token ∷ rest
  pub kind : without_place token ≡ k
  pub kinds : map without_place rest ≡ ks

pub first_of : (k : Kind) (ks : List Kind) (ts : List Token) → map without_place ts ≡ k ∷ ks → First k ks ts
first_of k ks [] e = absurd (cc)
first_of k ks (t ∷ ts) e = record { token = t; rest = ts; whole = refl; kind = cc; kinds = cc }

-- the first token has its class
pub class_of : (k : Kind) (t : Token) (s : List ℕ) → without_place t ≡ k → is_among k.class s ≡ true
    → is_among t.class s ≡ true
class_of k t s e h = subst (λ (z : Kind). is_among z.class s ≡ true) (sym e) h

-- the words after a token
pub words_after : (t : Token) (xs ys : List Token) → xs ≡ t ∷ ys → AllWords xs → AllWords ys
words_after t xs ys e h = (subst AllWords e h).1

-- ---- one after another, or one of two
pub then_reads : {A B : Type 0} {g : Rule A} {h : Rule B} {writes_1 : Writer A}
    {writes_2 : Writer B} {like_1 : A → A → Type 0} {like_2 : B → B → Type 0}
    → Reads g writes_1 like_1 → Reads h writes_2 like_2
    → Reads (g then h) (λ p rest. writes_1 p.0 (writes_2 p.1 rest)) (λ p q. like_1 p.0 q.0 × like_2 p.1 q.1)
then_reads {writes_2 = writes_2} G H = record {
  again = λ v xs ys d words.
      let first = G.again v.0 xs d.0 d.1 words in
      let second = H.again v.1 d.0 ys d.2 first.0 in (
        second.0,
        λ us ks e.
            let a = first.1 us (writes_2 v.1 ks) e in
            let b = second.1 a.rest ks a.kinds in
            record {
              value = (a.value, b.value);
              rest = b.rest;
              kinds = b.kinds;
              like = (a.like, b.like);
              derived = (a.rest, a.derived, b.derived);
            },
      );
}

-- what is found, turned into another value
pub found_as : {A B : Type 0} {P : A → List Token → List Token → Type 0} {Q : B → List Token → List Token → Type 0}
    {Like : A → Type 0} {Same : B → Type 0} {us : List Token} {ks : List Kind} (f : A → List Token → B)
    → ((a : A) (rest : List Token) → P a us rest → Q (f a rest) us rest)
    → ((a : A) (rest : List Token) → Like a → Same (f a rest)) → Found P Like us ks → Found Q Same us ks
found_as f to t a = record {
  value = f a.value a.rest;
  rest = a.rest;
  kinds = a.kinds;
  like = t a.value a.rest a.like;
  derived = to a.value a.rest a.derived;
}

-- and what derives no less finds it too
pub found_in : {A : Type 0} {P Q : A → List Token → List Token → Type 0} {Like : A → Type 0}
    {us : List Token} {ks : List Kind} → ((a : A) (rest : List Token) → P a us rest → Q a us rest)
    → Found P Like us ks → Found Q Like us ks
found_in to a = found_as (λ a rest. a) to (λ a rest h. h) a

pub or_reads : {A : Type 0} {g h : Rule A} {writes : Writer A} {like : A → A → Type 0}
    → Reads g writes like → Reads h writes like → Reads (g or h) writes like
or_reads {A} {g} {h} {writes} {like} G H = record { again = go } where
  go : (v : A) (xs ys : List Token) → Means checking Again (g or h) v xs ys → AllWords xs
      → Outcome (g or h) writes like v ys
  go v xs ys (inl d) words =
      let found = G.again v xs ys d words in
      (found.0, λ us ks e. found_in (λ a rest i. inl i) (found.1 us ks e))
  go v xs ys (inr d) words =
      let found = H.again v xs ys d words in
      (found.0, λ us ks e. found_in (λ a rest i. inr i) (found.1 us ks e))

-- ---- values
-- a value is turned into another, and something is known of it
pub known_reads : {A B : Type 0} {g : Rule A} {f : A → B} {writes : Writer A} {made : Writer B}
    {like : A → A → Type 0} {same : B → B → Type 0} {Fact : A → Type 0}
    → Reads g writes like
    → ((v : A) (xs ys : List Token) → Means checking Again g v xs ys → AllWords xs → Fact v)
    → ((a : A) → Fact a → (rest : List Kind) → made (f a) rest ≡ writes a rest)
    → ((w a : A) → like w a → same (f w) (f a)) → Reads (g gives f) made same
known_reads {A} {B} {g} {f} {writes} {made} {like} {same} G known s t = record {
  again = λ v xs ys d words.
      subst (λ (z : B). Outcome (g gives f) made same z ys) d.1 (
      let found = G.again d.0 xs ys d.2 words in (
        found.0,
        λ us ks e. found_as (λ a rest. f a) (λ a rest i. (a, refl, i)) (λ a rest h. t a d.0 h)
            (found.1 us ks (e ∙ s d.0 (known d.0 xs ys d.2 words) ks)),
      )
      );
}

pub gives_reads : {A B : Type 0} {g : Rule A} {f : A → B} {writes : Writer A} {made : Writer B}
    {like : A → A → Type 0} {same : B → B → Type 0}
    → Reads g writes like → ((a : A) (rest : List Kind) → made (f a) rest ≡ writes a rest)
    → ((w a : A) → like w a → same (f w) (f a)) → Reads (g gives f) made same
gives_reads {A} G s t = known_reads {Fact = λ (a : A). Unit {0}} G (λ v xs ys d words. tt) (λ a known rest. s a rest) t

pub makes_reads : {A B : Type 0} {g : Rule A} {f : A → Span → B} {writes : Writer A}
    {made : Writer B} {like : A → A → Type 0} {same : B → B → Type 0}
    → Reads g writes like
    → ((a : A) (span : Span) (rest : List Kind) → made (f a span) rest ≡ writes a rest)
    → ((w a : A) (s r : Span) → like w a → same (f w s) (f a r)) → Reads (g makes f) made same
makes_reads {A} {B} {g} {f} {writes} {made} {like} {same} G s t = record {
  again = λ v xs ys d words.
      subst (λ (z : B). Outcome (g makes f) made same z ys) d.1 (
      let found = G.again d.0 xs ys d.2 words in (
        found.0,
        λ us ks e.
            found_as (λ a rest. f a (span_between us rest)) (λ a rest i. (a, refl, i))
            (λ a rest h. t a d.0 (span_between us rest) (span_between xs ys) h)
            (found.1 us ks (e ∙ s d.0 (span_between xs ys) ks)),
      )
      );
}

-- the same, with other writes of the values that are derived and another likeness
pub fact_reads : {A : Type 0} {g : Rule A} {writes made : Writer A} {like same : A → A → Type 0} {Fact : A → Type 0}
    → Reads g writes like → ((v : A) (xs ys : List Token) → Means checking Again g v xs ys → Fact v)
    → ((v : A) → Fact v → (rest : List Kind) → made v rest ≡ writes v rest)
    → ((w v : A) → like w v → same w v)
    → Reads g made same
fact_reads G known s t = record {
  again = λ v xs ys d words.
      let found = G.again v xs ys d words in (
        found.0,
        λ us ks e. found_as (λ a rest. a) (λ a rest i. i) (λ a rest h. t a v h)
            (found.1 us ks (e ∙ s v (known v xs ys d) ks)),
      );
}

pub equal_reads : {A : Type 0} {g : Rule A} {writes made : Writer A} {like same : A → A → Type 0}
    → Reads g writes like → ((v : A) (rest : List Kind) → made v rest ≡ writes v rest)
    → ((w v : A) → like w v → same w v) → Reads g made same
equal_reads {A} G s t = fact_reads {Fact = λ (a : A). Unit {0}} G (λ v xs ys d. tt) (λ v known rest. s v rest) t

-- ---- a sign or a keyword, before a part, after it, or for a value
pub sign_reads : (c : ℕ) → is_among c (c ∷ []) ≡ true → Reads (one_token c) (λ v rest. plain c ∷ rest) (λ w v. Unit {0})
sign_reads c known = record {
  again = λ v xs ys d words. (
    words_after v xs ys d.1 words,
    λ us ks e.
        let first = first_of (plain c) ks us e in
        record {
          value = first.token;
          rest = first.rest;
          kinds = first.kinds;
          like = tt;
          derived = (class_of (plain c) first.token (c ∷ []) first.kind known, first.whole);
        },
  );
}

pub before_reads : {A : Type 0} (c : ℕ) {g : Rule A} {writes : Writer A} {like : A → A → Type 0}
    → is_among c (c ∷ []) ≡ true → Reads g writes like
    → Reads (c ▹ g) (λ v rest. plain c ∷ writes v rest) like
before_reads c known G = gives_reads (then_reads (sign_reads c known) G) (λ a rest. refl) (λ w a h. h.1)

pub after_reads : {A : Type 0} (c : ℕ) {g : Rule A} {writes : Writer A} {like : A → A → Type 0}
    → is_among c (c ∷ []) ≡ true → Reads g writes like
    → Reads (g ◃ c) (λ v rest. writes v (plain c ∷ rest)) like
after_reads c known G = gives_reads (then_reads G (sign_reads c known)) (λ a rest. refl) (λ w a h. h.0)

pub means_reads : {A : Type 0} (c : ℕ) {a : A} {writes : Writer A} {like : A → A → Type 0}
    → is_among c (c ∷ []) ≡ true → ((rest : List Kind) → writes a rest ≡ plain c ∷ rest) → like a a
    → Reads (c means a) writes like
means_reads c known s t = gives_reads (sign_reads c known) (λ a rest. s rest) (λ w a h. t)

-- ---- nothing, and a part that may be left out
pub none_reads : {A : Type 0} {a : A} {writes : Writer A} {like : A → A → Type 0}
    → ((rest : List Kind) → writes a rest ≡ rest) → like a a → Reads (empty a) writes like
none_reads {A} {a} {writes} {like} s t = record {
  again = λ v xs ys d words.
      subst (λ (z : A). Outcome (empty a) writes like z ys) d.0 (
        subst AllWords d.1 words,
        λ us ks e. record { value = a; rest = us; kinds = e ∙ s ks; like = t; derived = (refl, refl) },
      );
}

pub optional_reads : {A B : Type 0} {g : Rule A} {writes : Writer A} {bare kept : A → B}
    → Reads g writes (λ w v. bare w ≡ kept v)
    → Reads (optional g) (optional_tokens writes) (λ w v. option_map bare w ≡ option_map kept v)
optional_reads {A} {bare = bare} {kept = kept} G = or_reads
    (gives_reads G (λ a rest. refl) (λ w a h. ap (λ z. Some z) h))
    (none_reads (λ rest. refl) refl)

-- an optional sign is left out
pub no_sign_reads : {c : ℕ} → Reads (optional (one_token c)) (λ v rest. rest) (λ w v. Unit {0})
no_sign_reads {c} = record { again = go } where
  none : (us : List Token) (ks : List Kind) → map without_place us ≡ ks
      → Found (Means checking D (optional (one_token c))) (λ w. Unit {0}) us ks
  none us ks e = record { value = None; rest = us; kinds = e; like = tt; derived = inr (refl, refl) }

  go : (v : Option Token) (xs ys : List Token) → Means checking Again (optional (one_token c)) v xs ys
      → AllWords xs → Outcome (optional (one_token c)) (λ v rest. rest) (λ w v. Unit {0}) v ys
  go v xs ys (inl d) words = (words_after d.0 xs ys d.2.1 words, none)
  go v xs ys (inr d) words = (subst AllWords d.1 words, none)

-- ---- one after another
pub all_after : {A : Type 0} (writes : Writer A) (xs : List A) (x : A) (rest : List Kind)
    → all_tokens writes (xs ++ (x ∷ [])) rest ≡ all_tokens writes xs (writes x rest)
all_after writes [] x rest = refl
all_after writes (y ∷ xs) x rest = ap (writes y) (all_after writes xs x rest)

pub map_after : {A B : Type 0} (f : A → B) (xs : List A) (x : A) → map f (xs ++ (x ∷ [])) ≡ map f xs ++ (f x ∷ [])
map_after f [] x = refl
map_after f (y ∷ xs) x = ap (λ z. f y ∷ z) (map_after f xs x)

-- a left chain
pub chain_reads : {A B : Type 0} {f : A → B → Span → A} {g : Rule A} {h : Rule B}
    {writes : Writer A} {item : Writer B} {like : A → A → Type 0} {like_item : B → B → Type 0}
    → Reads g writes like → Reads h item like_item
    → ((a : A) (b : B) (span : Span) (rest : List Kind) → writes (f a b span) rest ≡ writes a (item b rest))
    → ((w v : A) (x y : B) (s r : Span) → like w v → like_item x y → like (f w x s) (f v y r))
    → Reads (left_chain f g h) writes like
chain_reads {A} {B} {f} {g} {h} {writes} {item} {like} {like_item} G H s t =
    record { again = λ v xs ys d words. go xs v ys d words }
  where
    go : (xs : List Token) (v : A) (ys : List Token)
        → Chain f (Means checking Again g) (Means checking Again h) xs v ys → AllWords xs
        → Outcome (left_chain f g h) writes like v ys
    go xs _ _ (base a ys d) words =
        let found = G.again a xs ys d words in
        (found.0, λ us ks e. found_in (λ x rest i. base x rest i) (found.1 us ks e))
    go xs _ _ (more a b ys zs c d) words =
        let before = go xs a ys c words in
        let last = H.again b ys zs d before.0 in (
          last.0,
          λ us ks e.
              let x = before.1 us (item b ks) (e ∙ s a b (span_between xs zs) ks) in
              let y = last.1 x.rest ks x.kinds in
              record {
                value = f x.value y.value (span_between us y.rest);
                rest = y.rest;
                kinds = y.kinds;
                like = t x.value a y.value b (span_between us y.rest) (span_between xs zs) x.like y.like;
                derived = more x.value y.value x.rest y.rest x.derived y.derived;
              },
        )

pub many_reads : {A B : Type 0} {g : Rule A} {writes : Writer A} {bare kept : A → B}
    → Reads g writes (λ w v. bare w ≡ kept v)
    → Reads (many g) (all_tokens writes) (λ w v. map bare w ≡ map kept v)
many_reads {A} {B} {g} {writes} {bare} {kept} G = chain_reads (none_reads (λ rest. refl) refl) G
    (λ a b span rest. all_after writes a b rest)
    (λ w v x y s r h k. map_after bare w x ∙ ap₂ (λ (z : List B) (u : B). z ++ (u ∷ [])) h k
    ∙ sym (map_after kept v y))

pub several_reads : {A B : Type 0} {g : Rule A} {writes : Writer A} {bare kept : A → B}
    → Reads g writes (λ w v. bare w ≡ kept v)
    → Reads (several g) (all_tokens writes) (λ w v. map bare w ≡ map kept v)
several_reads {A} {B} {g} {writes} {bare} {kept} G =
    chain_reads (gives_reads G (λ a rest. refl) (λ w a h. ap (λ (z : B). z ∷ []) h)) G
    (λ a b span rest. all_after writes a b rest)
    (λ w v x y s r h k. map_after bare w x ∙ ap₂ (λ (z : List B) (u : B). z ++ (u ∷ [])) h k
    ∙ sym (map_after kept v y))

-- ---- with a comma between each two
abbrev pub HasItem : {A : Type 0} → List A → Type 0
HasItem [] = ⊥
HasItem (x ∷ xs) = Unit {0}

-- a list that is derived item by item, the first without a comma
pub has_item : {A : Type 0} (P Q : A → List Token → List Token → Type 0) (xs : List Token)
    (v : List A) (ys : List Token)
    → Chain (λ (l : List A) (x : A) s. l ++ (x ∷ [])) (λ l us vs. (a : A) × (a ∷ [] ≡ l) × P a us vs) Q xs v ys
    → HasItem v
has_item {A} P Q xs _ _ (base v ys d) = subst HasItem d.1 tt
has_item {A} P Q xs _ _ (more v x us ys d i) = following v where
  following : (l : List A) → HasItem (l ++ (x ∷ []))
  following [] = tt
  following (y ∷ l) = tt

-- items that each are after a comma, without the first comma
abbrev pub items_tokens : {A : Type 0} → Writer A → Writer (List A)
items_tokens writes xs rest = after_first (further_tokens writes xs rest)

pub items_after : {A : Type 0} (writes : Writer A) (xs : List A) (x : A) (rest : List Kind)
    → items_tokens writes (xs ++ (x ∷ [])) rest ≡ items_tokens writes xs (plain SymComma ∷ writes x rest)
items_after {A} writes xs x rest = ap after_first (further xs) where
  further : (l : List A)
      → further_tokens writes (l ++ (x ∷ [])) rest ≡ further_tokens writes l (plain SymComma ∷ writes x rest)
  further [] = refl
  further (y ∷ l) = ap (λ z. plain SymComma ∷ writes y z) (further l)

pub items_written : {A : Type 0} (writes : Writer A) (xs : List A) → HasItem xs → (rest : List Kind)
    → list_tokens writes xs rest ≡ items_tokens writes xs rest
items_written writes [] h rest = absurd h
items_written writes (x ∷ xs) h rest = refl

pub separated_reads : {A B : Type 0} {g : Rule A} {writes : Writer A} {bare kept : A → B}
    → Reads g writes (λ w v. bare w ≡ kept v)
    → Reads (separated SymComma g) (list_tokens writes) (λ w v. map bare w ≡ map kept v)
separated_reads {A} {B} {g} {writes} {bare} {kept} G =
    fact_reads {Fact = HasItem} (chain_reads {writes = items_tokens writes}
    (gives_reads G (λ a rest. refl) (λ w a h. ap (λ (z : B). z ∷ []) h))
    (before_reads SymComma refl G) (λ a b span rest. items_after writes a b rest)
    (λ w v x y s r h k. map_after bare w x ∙ ap₂ (λ (z : List B) (u : B). z ++ (u ∷ [])) h k
    ∙ sym (map_after kept v y)))
    (λ v xs ys d. has_item (Means checking Again g) (Means checking Again (SymComma ▹ g)) xs v ys d)
    (items_written writes) (λ w v h. h)

-- the comma that may follow the last item is left out
pub list_reads : {A B : Type 0} {g : Rule A} {writes : Writer A} {bare kept : A → B}
    → Reads g writes (λ w v. bare w ≡ kept v)
    → Reads (list SymComma g) (list_tokens writes) (λ w v. map bare w ≡ map kept v)
list_reads {A} {B} {g} {writes} {bare} {kept} G = record { again = go } where
  like : List A → List A → Type 0
  like w v = map bare w ≡ map kept v

  shorter : (v : List A) (ys : List Token) → Outcome (separated SymComma g) (list_tokens writes) like v ys
      → Outcome (list SymComma g) (list_tokens writes) like v ys
  shorter v ys found = (found.0, λ us ks e. found_in (λ a rest i. inl i) (found.1 us ks e))

  go : (v : List A) (xs ys : List Token) → Means checking Again (list SymComma g) v xs ys
      → AllWords xs → Outcome (list SymComma g) (list_tokens writes) like v ys
  go v xs ys (inl d) words = shorter v ys ((separated_reads G).again v xs ys d words)
  go v xs ys (inr d) words =
      let found = (separated_reads G).again d.0.0 xs d.2.0 d.2.1 words in
      subst (λ (z : List A). Outcome (list SymComma g) (list_tokens writes) like z ys) d.1
      (shorter d.0.0 ys (words_after d.0.1 d.2.0 ys d.2.2.1 found.0, found.1))

pub list_or_none_reads : {A B : Type 0} {g : Rule A} {writes : Writer A} {bare kept : A → B}
    → Reads g writes (λ w v. bare w ≡ kept v)
    → Reads (list_or_none SymComma g) (list_tokens writes) (λ w v. map bare w ≡ map kept v)
list_or_none_reads G = or_reads (list_reads G) (none_reads (λ rest. refl) refl)
