-- The brackets, template lists and blocks of a module are closed in the reverse of the order in
-- which they are opened.
use Rattle.std.proofs.Common.{◌≡◌, ℕ, zero, suc, ◌&&◌, eqb, eqb-true, Bool, true, false, cond, refl, sym, ap, subst, ◌∙◌, List, [], ◌∷◌, ◌++◌, append_assoc, Option, Some, None, inl, inr}
use Rattle.std.proofs.lemmas.Bool.{true≢false}
use Rattle.grammar.specs.Tokens.{Token, Span}
use Rattle.grammar.specs.Grammar.{Grammar, Grammar.empty, Grammar.token, Grammar.sequence, Grammar.choice, Grammar.mapped, Grammar.node, Grammar.checked, Grammar.symbol, Grammar.left_chain, Mode.unchecked, Chain, Chain.base, Chain.more, Means, Within, IsSentence, is_among}
use Rattle.wgsl_model.specs.Tokens.ClassTable.{SymParenLeft, SymParenRight, SymBracketLeft, SymBracketRight, SymBraceLeft, SymBraceRight, TemplateArgsStart, TemplateArgsEnd}
use Rattle.wgsl_model.specs.Grammar.Symbols.{Symbol, Symbol.unit, Symbol.diagnostic_severity, Value}
use Rattle.wgsl_model.specs.Grammar.Written.{written}
use Rattle.wgsl_theory_grammar.proofs.Tokens.Classes.{all_pass, passes_on}

-- ---- what a token does to what is open

-- it opens or closes a bracket, or a template list or a block; or it does neither
pub data Effect : Type 0 where
  opens closes : Bool → Effect
  none : Effect

-- what a token of a class does; true is for `(`, `[`, `)` and `]`
abbrev pub effect : ℕ → Effect
effect class =
    cond (is_among class (SymParenLeft ∷ SymBracketLeft ∷ [])) (opens true)
    (cond (is_among class (SymParenRight ∷ SymBracketRight ∷ [])) (closes true)
    (cond (is_among class (TemplateArgsStart ∷ SymBraceLeft ∷ [])) (opens false)
    (cond (is_among class (TemplateArgsEnd ∷ SymBraceRight ∷ [])) (closes false) none)))

-- what is open after it; the innermost is first
abbrev pub closed_by : Bool → Bool → List Bool → Option (List Bool)
closed_by true true ms = Some ms
closed_by false false ms = Some ms
closed_by b m ms = None

abbrev pub opened_after : Effect → List Bool → Option (List Bool)
opened_after (opens b) ms = Some (b ∷ ms)
opened_after (closes b) [] = None
opened_after (closes b) (m ∷ ms) = closed_by b m ms
opened_after none ms = Some ms

-- what is open before tokens, and after them; others follow
pub data Leads (after : List Bool) (rest : List Token) : List Bool → List Token → Type 0 where
  none_left : Leads after rest after rest
  one_more : (before next : List Bool) (t : Token) (ts : List Token)
      → opened_after (effect t.class) before ≡ Some next → Leads after rest next ts
      → Leads after rest before (t ∷ ts)

both_lead : (b c : List Bool) (ys zs : List Token) (a : List Bool) (xs : List Token)
    → Leads b ys a xs → Leads c zs b ys → Leads c zs a xs
both_lead b c ys zs _ _ (none_left) k = k
both_lead b c ys zs _ _ (one_more a n t ts e l) k = one_more a n t ts e (both_lead b c ys zs n ts l k)

-- ---- what a right side does

-- what a symbol opens and leaves open: the severity of a diagnostic is read with the `(` before it
abbrev left_open : Symbol → List Bool
left_open diagnostic_severity = true ∷ []
left_open n = []

abbrev is_neither : Effect → Bool
is_neither none = true
is_neither e = false

abbrev is_none : ℕ → Bool
is_none class = is_neither (effect class)

-- a token of one of these classes
abbrev one_of : List ℕ → List Bool → Option (List Bool)
one_of (c ∷ []) ms = opened_after (effect c) ms
one_of s ms = cond (all_pass is_none s) (Some ms) None

abbrev same_flag : Bool → Bool → Bool
same_flag true b = b
same_flag false true = false
same_flag false false = true

abbrev same_flags : List Bool → List Bool → Bool
same_flags [] [] = true
same_flags (m ∷ ms) (n ∷ ns) = same_flag m n && same_flags ms ns
same_flags ms ns = false

abbrev agreed : Option (List Bool) → Option (List Bool) → Option (List Bool)
agreed (Some a) (Some b) = cond (same_flags a b) (Some a) None
agreed a b = None

abbrev followed : Option (List Bool) → (List Bool → Option (List Bool)) → Option (List Bool)
followed (Some a) f = f a
followed None f = None

abbrev run : {A : Type 0} → Grammar Symbol Value A → List Bool → Option (List Bool)
run (empty a) ms = Some ms
run (token s) ms = one_of s ms
run (sequence g h) ms = followed (run g ms) (run h)
run (choice g h) ms = agreed (run g ms) (run h ms)
run (mapped f g) ms = run g ms
run (node f g) ms = run g ms
run (checked f g) ms = run g ms
run (symbol n) ms = Some (left_open n ++ ms)
run (left_chain f g h) ms = followed (run g ms) (λ ns. agreed (Some ns) (run h ns))

check : (n : Symbol) → run (written n) [] ≡ Some (left_open n)
check unit = refl
check n = refl

-- ---- what it does to what is open before

after_framed : (e : Effect) (a b ms : List Bool) → opened_after e a ≡ Some b → opened_after e (a ++ ms) ≡ Some (b ++ ms)
after_framed (opens m) a b ms h = let same : m ∷ a ≡ b = cc in ap (λ x. Some (x ++ ms)) same
after_framed (closes m) [] b ms h = absurd cc
after_framed (closes true) (true ∷ a) b ms h = let same : a ≡ b = cc in ap (λ x. Some (x ++ ms)) same
after_framed (closes false) (false ∷ a) b ms h = let same : a ≡ b = cc in ap (λ x. Some (x ++ ms)) same
after_framed (closes true) (false ∷ a) b ms h = absurd cc
after_framed (closes false) (true ∷ a) b ms h = absurd cc
after_framed (none) a b ms h = let same : a ≡ b = cc in ap (λ x. Some (x ++ ms)) same

flags_same : (a b : List Bool) → same_flags a b ≡ true → a ≡ b
flags_same [] [] h = refl
flags_same [] (n ∷ ns) h = absurd (true≢false (sym h))
flags_same (m ∷ ms) [] h = absurd (true≢false (sym h))
flags_same (true ∷ ms) (true ∷ ns) h = ap (λ x. true ∷ x) (flags_same ms ns h)
flags_same (false ∷ ms) (false ∷ ns) h = ap (λ x. false ∷ x) (flags_same ms ns h)
flags_same (true ∷ ms) (false ∷ ns) h = absurd (true≢false (sym h))
flags_same (false ∷ ms) (true ∷ ns) h = absurd (true≢false (sym h))

-- two that agree
agreed_both : (x y : Option (List Bool)) (b : List Bool) → agreed x y ≡ Some b → (x ≡ Some b) × (y ≡ Some b)
agreed_both None y b h = absurd cc
agreed_both (Some a) None b h = absurd cc
agreed_both (Some a) (Some c) b h = go (same_flags a c) refl h
  where
    go : (t : Bool) → same_flags a c ≡ t → cond t (Some a) None ≡ Some b → (Some a ≡ Some b) × (Some c ≡ Some b)
    go true e k = (k, ap Some (sym (flags_same a c e)) ∙ k)
    go false e k = absurd cc

-- one after another
followed_both : (x : Option (List Bool)) (f : List Bool → Option (List Bool)) (b : List Bool)
    → followed x f ≡ Some b → (a : List Bool) × (x ≡ Some a) × (f a ≡ Some b)
followed_both None f b h = absurd cc
followed_both (Some a) f b h = (a, refl, h)

neither_is : (e : Effect) → is_neither e ≡ true → e ≡ none
neither_is (opens b) h = absurd (true≢false (sym h))
neither_is (closes b) h = absurd (true≢false (sym h))
neither_is (none) h = refl

-- a token of one of some classes does what they all do
one_class : (c d : ℕ) → is_among c (d ∷ []) ≡ true → c ≡ d
one_class c d = go (eqb c d) refl
  where
    go : (t : Bool) → eqb c d ≡ t → cond t true false ≡ true → c ≡ d
    go true e h = eqb-true c d e
    go false e h = absurd (true≢false (sym h))

no_effect : (c : ℕ) (s : List ℕ) (a b : List Bool) → is_among c s ≡ true
    → cond (all_pass is_none s) (Some a) None ≡ Some b → opened_after (effect c) a ≡ Some b
no_effect c s a b m = go (all_pass is_none s) refl
  where
    go : (t : Bool) → all_pass is_none s ≡ t → cond t (Some a) None ≡ Some b → opened_after (effect c) a ≡ Some b
    go true e h = ap (λ f. opened_after f a) (neither_is (effect c) (passes_on is_none c s e m)) ∙ h
    go false e h = absurd cc

one_does : (c : ℕ) (s : List ℕ) (a b : List Bool) → is_among c s ≡ true → one_of s a ≡ Some b
    → opened_after (effect c) a ≡ Some b
one_does c [] a b m h = absurd (true≢false (sym m))
one_does c (d ∷ []) a b m h = ap (λ e. opened_after (effect e) a) (one_class c d m) ∙ h
one_does c (d ∷ (e ∷ es)) a b m h = no_effect c (d ∷ (e ∷ es)) a b m h

-- what tokens lead to, where an item that leaves open what is open comes any number of times
chain_leads : {A B : Type 0} (f : A → B → Span → A) (P : A → List Token → List Token → Type 0)
    (Q : B → List Token → List Token → Type 0) (a b : List Bool)
    → ((v : A) (xs ys : List Token) → P v xs ys → Leads b ys a xs)
    → ((v : B) (xs ys : List Token) → Q v xs ys → Leads b ys b xs)
    → (xs : List Token) (v : A) (ys : List Token) → Chain f P Q xs v ys → Leads b ys a xs
chain_leads f P Q a b p q xs _ _ (base v ys d) = p v xs ys d
chain_leads f P Q a b p q xs _ _ (more v w ys zs c d) = both_lead b b ys zs a xs
    (chain_leads f P Q a b p q xs v ys c) (q w ys zs d)

module _ (D : (n : Symbol) → Value n → List Token → List Token → Type 0)
    (known : (n : Symbol) (v : Value n) (xs ys : List Token) → D n v xs ys → (ms : List Bool)
    → Leads (left_open n ++ ms) ys ms xs) where
  sound : {A : Type 0} (g : Grammar Symbol Value A) (v : A) (xs ys : List Token) (a b ms : List Bool)
      → run g a ≡ Some b → Means unchecked D g v xs ys → Leads (b ++ ms) ys (a ++ ms) xs
  sound (empty u) v xs ys a b ms h d =
      let same : a ≡ b = cc in subst (λ zs. Leads (b ++ ms) zs (a ++ ms) xs) d.1
      (subst (λ c. Leads (c ++ ms) xs (a ++ ms) xs) same none_left)
  sound (token s) v xs ys a b ms h d =
      subst (λ zs. Leads (b ++ ms) ys (a ++ ms) zs) (sym d.1) (one_more (a ++ ms) (b ++ ms) v ys
      (after_framed (effect v.class) a b ms (one_does v.class s a b d.0 h)) none_left)
  sound (sequence g h) v xs ys a b ms e d =
      let f = followed_both (run g a) (run h) b e in
      both_lead (f.0 ++ ms) (b ++ ms) d.0 ys (a ++ ms) xs (sound g v.0 xs d.0 a f.0 ms f.1 d.1)
      (sound h v.1 d.0 ys f.0 b ms f.2 d.2)
  sound (choice g h) v xs ys a b ms e (inl d) = sound g v xs ys a b ms (agreed_both (run g a) (run h a) b e).0 d
  sound (choice g h) v xs ys a b ms e (inr d) = sound h v xs ys a b ms (agreed_both (run g a) (run h a) b e).1 d
  sound (mapped f g) v xs ys a b ms h d = sound g d.0 xs ys a b ms h d.2
  sound (node f g) v xs ys a b ms h d = sound g d.0 xs ys a b ms h d.2
  sound (checked f g) v xs ys a b ms h d = sound g v xs ys a b ms h d.1
  sound (symbol n) v xs ys a b ms h d =
      let same : left_open n ++ a ≡ b = cc in
      subst (λ c. Leads c ys (a ++ ms) xs)
      (sym (append_assoc (left_open n) a ms) ∙ ap (λ c. c ++ ms) same) (known n v xs ys d (a ++ ms))
  sound (left_chain f g h) v xs ys a b ms e d =
      let q = followed_both (run g a) (λ ns. agreed (Some ns) (run h ns)) b e in
      let r = agreed_both (Some q.0) (run h q.0) b q.2 in
      let same : q.0 ≡ b = cc in
      chain_leads f (Means unchecked D g) (Means unchecked D h) (a ++ ms) (b ++ ms)
      (λ u us zs c. sound g u us zs a b ms (q.1 ∙ ap Some same) c)
      (λ u us zs c. sound h u us zs b b ms (subst (λ x. run h x ≡ Some b) same r.1) c)
      xs v ys d

within_leads : (k : ℕ) (n : Symbol) (v : Value n) (xs ys : List Token)
    → Within unchecked written k n v xs ys → (ms : List Bool) → Leads (left_open n ++ ms) ys ms xs
within_leads zero n v xs ys h ms = absurd h
within_leads (suc k) n v xs ys h ms = sound (Within unchecked written k) (within_leads k)
    (written n) v xs ys [] (left_open n) ms (check n) h

-- the tokens of a module open and close what they do in order
pub nested_tokens : (ts : List Token) → IsSentence written unit ts → Leads [] [] [] ts
nested_tokens ts h = within_leads h.1.0 unit h.0 ts [] h.1.1 []
