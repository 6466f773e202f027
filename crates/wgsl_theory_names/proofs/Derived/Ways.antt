-- What a right side derives of renamed tokens, by the ways to write it.
use Rattle.std.proofs.Common.{◌≡◌, ℕ, List, [], ◌∷◌, ◌++◌, map, Option, Some, None, refl, sym, ap, subst, ◌∙◌, inl, inr}
use Rattle.std.specs.Option.{option_map}
use Rattle.grammar.specs.Tokens.{Token, Span, Fault, span_between}
use Rattle.grammar.specs.Grammar.{Grammar.empty, Grammar.token, Grammar.sequence, Grammar.choice, Grammar.mapped, Grammar.node, Grammar.checked, Grammar.symbol, Grammar.left_chain, Mode.checking, Chain, Chain.base, Chain.more, Means}
use Rattle.grammar.specs.Notation.{one_token, ◌then◌, ◌or◌, ◌gives◌, ◌makes◌, ◌with_check◌, ◌▹◌, ◌◃◌, ◌means◌, optional, many, several, separated, list, list_or_none}
use Rattle.wgsl_model.specs.Grammar.Symbols.{Symbol, Rule}
use Rattle.wgsl_theory_reread.proofs.Again.{D}
use Rattle.wgsl_theory_reread.proofs.Ways.{map_after}
use Rattle.wgsl_model_names.specs.Renamed.{Renaming}
use Rattle.wgsl_model_names.specs.RenamedTokens.{AreRenamedTokens, FixesUnderscore}
use Rattle.wgsl_theory_names.proofs.Derived.Renews.{kept, Renamed, Renewed, Renews, Renames, same_span}

-- what a right side derives, it derives of renamed tokens, like it was
pub record RenamesBy (f : Renaming) {A : Type 0} (g : Rule A) (like : A → A → Type 0) : Type 0 where
  pub renames : FixesUnderscore f → (v : A) (xs ys : List Token) → Means checking (Renames f) g v xs ys
      → Renews f (Means checking D g) like v xs ys

-- one more item
items_after : {A : Type 0} (change : A → A) (w v : List A) (x y : A) → w ≡ map change v
    → x ≡ change y → w ++ (x ∷ []) ≡ map change (v ++ (y ∷ []))
items_after change w v x y h k = (λ i. h i ++ (k i ∷ [])) ∙ sym (map_after change v y)

module _ {f : Renaming} where
  -- ---- one token, a symbol, and nothing
  pub token_renames : (s : List ℕ) → RenamesBy f (token s) (λ w v. w ≡ kept v)
  token_renames s = record {
    renames = λ fixes v xs ys d zs e. record {
      value = v;
      tokens = v ∷ zs;
      renamed = subst (λ (ts : List Token). AreRenamedTokens f ts (v ∷ zs)) (sym d.1) (inl refl, e);
      like = refl;
      derived = (d.0, refl);
    };
  }

  pub sign_renames : (c : ℕ) → RenamesBy f (one_token c) (λ w v. w ≡ kept v)
  sign_renames c = token_renames (c ∷ [])

  pub symbol_renames : (n : Symbol) → RenamesBy f (symbol n) (Renamed f n)
  symbol_renames n = record { renames = λ fixes v xs ys d. d.1 }

  pub none_renames : {A : Type 0} (a : A) {like : A → A → Type 0} → like a a → RenamesBy f (empty a) like
  none_renames a {like} t = record {
    renames = λ fixes v xs ys d zs e. record {
      value = a;
      tokens = zs;
      renamed = subst (λ (ts : List Token). AreRenamedTokens f ts zs) (sym d.1) e;
      like = subst (like a) d.0 t;
      derived = (refl, refl);
    };
  }

  -- ---- one after another, or one of two
  pub then_renames : {A B : Type 0} {g : Rule A} {h : Rule B} {like_1 : A → A → Type 0} {like_2 : B → B → Type 0}
      → RenamesBy f g like_1 → RenamesBy f h like_2 → RenamesBy f (g then h) (λ w v. like_1 w.0 v.0 × like_2 w.1 v.1)
  then_renames G H = record {
    renames = λ fixes v xs ys d zs e.
        let b = H.renames fixes v.1 d.0 ys d.2 zs e in
        let a = G.renames fixes v.0 xs d.0 d.1 b.tokens b.renamed in
        record {
          value = (a.value, b.value);
          tokens = a.tokens;
          renamed = a.renamed;
          like = (a.like, b.like);
          derived = (b.tokens, a.derived, b.derived);
        };
  }

  -- another likeness, or another derivation
  renewed_as : {A B : Type 0} {P : A → List Token → List Token → Type 0} {Q : B → List Token → List Token → Type 0}
      {Like : A → Type 0} {Same : B → Type 0} {xs zs : List Token} (k : A → B)
      → ((a : A) (ts : List Token) → P a ts zs → Q (k a) ts zs) → ((a : A) → Like a → Same (k a))
      → Renewed f P Like xs zs → Renewed f Q Same xs zs
  renewed_as k derive like r = record {
    value = k r.value;
    tokens = r.tokens;
    renamed = r.renamed;
    like = like r.value r.like;
    derived = derive r.value r.tokens r.derived;
  }

  pub or_renames : {A : Type 0} {g h : Rule A} {like : A → A → Type 0} → RenamesBy f g like → RenamesBy f h like
      → RenamesBy f (g or h) like
  or_renames {A} {g} {h} {like} G H = record { renames = go } where
    go : FixesUnderscore f → (v : A) (xs ys : List Token) → Means checking (Renames f) (g or h) v xs ys
        → Renews f (Means checking D (g or h)) like v xs ys
    go fixes v xs ys (inl d) zs e = renewed_as (λ a. a) (λ a ts i. inl i) (λ a t. t) (G.renames fixes v xs ys d zs e)
    go fixes v xs ys (inr d) zs e = renewed_as (λ a. a) (λ a ts i. inr i) (λ a t. t) (H.renames fixes v xs ys d zs e)

  -- ---- values
  pub gives_renames : {A B : Type 0} {g : Rule A} {k : A → B} {like : A → A → Type 0} {same : B → B → Type 0}
      → RenamesBy f g like → ((w v : A) → like w v → same (k w) (k v)) → RenamesBy f (g gives k) same
  gives_renames {A} {B} {g} {k} {like} {same} G t = record {
    renames = λ fixes v xs ys d. subst (λ (z : B). Renews f (Means checking D (g gives k)) same z xs ys) d.1
        (λ zs e. renewed_as k (λ a ts i. (a, refl, i)) (λ a h. t a d.0 h) (G.renames fixes d.0 xs ys d.2 zs e));
  }

  pub makes_renames : {A B : Type 0} {g : Rule A} {k : A → Span → B} {like : A → A → Type 0} {same : B → B → Type 0}
      → RenamesBy f g like → ((w v : A) (s : Span) → like w v → same (k w s) (k v s))
      → RenamesBy f (g makes k) same
  makes_renames {A} {B} {g} {k} {like} {same} G t = record {
    renames = λ fixes v xs ys d. subst (λ (z : B). Renews f (Means checking D (g makes k)) same z xs ys) d.1 (λ zs e.
        let a = G.renames fixes d.0 xs ys d.2 zs e in
        let span = same_span f xs ys a.tokens zs a.renamed e in
        record {
          value = k a.value (span_between a.tokens zs);
          tokens = a.tokens;
          renamed = a.renamed;
          like = subst (λ (s : Span). same (k a.value s) (k d.0 (span_between xs ys))) (sym span)
              (t a.value d.0 (span_between xs ys) a.like);
          derived = (a.value, refl, a.derived);
        });
  }

  -- what passes a check, and another likeness of it
  pub check_renames : {A : Type 0} {g : Rule A} {k : A → Span → Option Fault} {like same : A → A → Type 0}
      → RenamesBy f g like → ((w v : A) (s : Span) → like w v → k v s ≡ None → (k w s ≡ None) × same w v)
      → RenamesBy f (g with_check k) same
  check_renames {k = k} G t = record {
    renames = λ fixes v xs ys d zs e.
        let a = G.renames fixes v xs ys d.1 zs e in
        let span = same_span f xs ys a.tokens zs a.renamed e in
        let passes = t a.value v (span_between xs ys) a.like d.0 in
        record {
          value = a.value;
          tokens = a.tokens;
          renamed = a.renamed;
          like = passes.1;
          derived = (ap (k a.value) span ∙ passes.0, a.derived);
        };
  }

  -- another likeness
  pub alike_renames : {A : Type 0} {g : Rule A} {like same : A → A → Type 0} → RenamesBy f g like
      → ((w v : A) → like w v → same w v) → RenamesBy f g same
  alike_renames G t = record {
    renames = λ fixes v xs ys d zs e.
        renewed_as (λ a. a) (λ a ts i. i) (λ a h. t a v h) (G.renames fixes v xs ys d zs e);
  }

  -- ---- a sign or a keyword, before a part, after it, or for a value
  pub before_renames : {A : Type 0} (c : ℕ) {g : Rule A} {like : A → A → Type 0} → RenamesBy f g like
      → RenamesBy f (c ▹ g) like
  before_renames c G = gives_renames (then_renames (token_renames (c ∷ [])) G) (λ w v h. h.1)

  pub after_renames : {A : Type 0} (c : ℕ) {g : Rule A} {like : A → A → Type 0} → RenamesBy f g like
      → RenamesBy f (g ◃ c) like
  after_renames c G = gives_renames (then_renames G (token_renames (c ∷ []))) (λ w v h. h.0)

  pub means_renames : {A : Type 0} (c : ℕ) {a : A} {like : A → A → Type 0} → like a a → RenamesBy f (c means a) like
  means_renames c t = gives_renames (token_renames (c ∷ [])) (λ w v h. t)

  -- ---- a part that may be left out
  pub optional_renames : {A : Type 0} {g : Rule A} {change : A → A} → RenamesBy f g (λ w v. w ≡ change v)
      → RenamesBy f (optional g) (λ w v. w ≡ option_map change v)
  optional_renames {A} G = or_renames (gives_renames G (λ w v h. ap (λ (z : A). Some z) h)) (none_renames None refl)

  -- ---- one after another
  pub chain_renames : {A B : Type 0} {k : A → B → Span → A} {g : Rule A} {h : Rule B}
      {like : A → A → Type 0} {like_item : B → B → Type 0}
      → RenamesBy f g like → RenamesBy f h like_item
      → ((w v : A) (x y : B) (s : Span) → like w v → like_item x y → like (k w x s) (k v y s))
      → RenamesBy f (left_chain k g h) like
  chain_renames {A} {B} {k} {g} {h} {like} {like_item} G H t = record {
    renames = λ fixes v xs ys d. go fixes xs v ys d;
  } where
    go : FixesUnderscore f → (xs : List Token) (v : A) (ys : List Token)
        → Chain k (Means checking (Renames f) g) (Means checking (Renames f) h) xs v ys
        → Renews f (Means checking D (left_chain k g h)) like v xs ys
    go fixes xs _ _ (base a ys d) zs e =
        renewed_as (λ x. x) (λ x ts i. base x zs i) (λ x l. l) (G.renames fixes a xs ys d zs e)
    go fixes xs _ _ (more a b ys us c d) zs e =
        let y = H.renames fixes b ys us d zs e in
        let x = go fixes xs a ys c y.tokens y.renamed in
        let span = same_span f xs us x.tokens zs x.renamed e in
        record {
          value = k x.value y.value (span_between x.tokens zs);
          tokens = x.tokens;
          renamed = x.renamed;
          like = subst (λ (s : Span). like (k x.value y.value s) (k a b (span_between xs us))) (sym span)
              (t x.value a y.value b (span_between xs us) x.like y.like);
          derived = more x.value y.value y.tokens zs x.derived y.derived;
        }

  -- a first item
  one_renames : {A : Type 0} {g : Rule A} {change : A → A} → RenamesBy f g (λ w v. w ≡ change v)
      → RenamesBy f (g gives λ (x : A). x ∷ []) (λ w v. w ≡ map change v)
  one_renames {A} G = gives_renames G (λ w v h. ap (λ (z : A). z ∷ []) h)

  pub many_renames : {A : Type 0} {g : Rule A} {change : A → A} → RenamesBy f g (λ w v. w ≡ change v)
      → RenamesBy f (many g) (λ w v. w ≡ map change v)
  many_renames {change = change} G =
      chain_renames (none_renames [] refl) G (λ w v x y s h k. items_after change w v x y h k)

  pub several_renames : {A : Type 0} {g : Rule A} {change : A → A} → RenamesBy f g (λ w v. w ≡ change v)
      → RenamesBy f (several g) (λ w v. w ≡ map change v)
  several_renames {change = change} G =
      chain_renames (one_renames G) G (λ w v x y s h k. items_after change w v x y h k)

  separated_renames : {A : Type 0} (c : ℕ) {g : Rule A} {change : A → A}
      → RenamesBy f g (λ w v. w ≡ change v) → RenamesBy f (separated c g) (λ w v. w ≡ map change v)
  separated_renames c {change = change} G = chain_renames (one_renames G) (before_renames c G)
      (λ w v x y s h k. items_after change w v x y h k)

  pub list_renames : {A : Type 0} (c : ℕ) {g : Rule A} {change : A → A}
      → RenamesBy f g (λ w v. w ≡ change v) → RenamesBy f (list c g) (λ w v. w ≡ map change v)
  list_renames c G = or_renames (separated_renames c G) (after_renames c (separated_renames c G))

  pub list_or_none_renames : {A : Type 0} (c : ℕ) {g : Rule A} {change : A → A}
      → RenamesBy f g (λ w v. w ≡ change v) → RenamesBy f (list_or_none c g) (λ w v. w ≡ map change v)
  list_or_none_renames c G = or_renames (list_renames c G) (none_renames [] refl)

  -- ---- what keeps its names
  pub kept_by : {A : Type 0} (g : Rule A) → RenamesBy f g (λ w v. w ≡ v)
  kept_by (empty a) = none_renames a refl
  kept_by (token s) = token_renames s
  kept_by (sequence g h) = alike_renames (then_renames (kept_by g) (kept_by h)) (λ w v e i. (e.0 i, e.1 i))
  kept_by (choice g h) = or_renames (kept_by g) (kept_by h)
  kept_by (mapped k g) = gives_renames (kept_by g) (λ w v e. ap k e)
  kept_by (node k g) = makes_renames (kept_by g) (λ w v s e i. k (e i) s)
  kept_by (checked k g) = check_renames (kept_by g) (λ w v s e none. ((λ i. k (e i) s) ∙ none, e))
  kept_by (symbol n) = record { renames = λ fixes v xs ys d. d.0 }
  kept_by (left_chain k g h) = chain_renames (kept_by g) (kept_by h) (λ w v x y s e l i. k (e i) (l i) s)
