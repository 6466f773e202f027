-- In a module `@` comes before a name: before no brace and no `;`.
use Rattle.std.proofs.Common.{◌≡◌, ℕ, zero, suc, ◌&&◌, ◌==◌, eqb, eqb-true, Bool, true, false, cond, not, refl, sym, ap, ap₂, subst, ◌∙◌, List, [], ◌∷◌, map, Option, Some, None, inl, inr}
use Rattle.std.proofs.lemmas.Bool.{true≢false, and_parts, not-true}
use Rattle.grammar.specs.Tokens.{Token, Span}
use Rattle.grammar.specs.Grammar.{Grammar, Grammar.empty, Grammar.token, Grammar.sequence, Grammar.choice, Grammar.mapped, Grammar.node, Grammar.checked, Grammar.symbol, Grammar.left_chain, Mode.unchecked, Chain, Chain.base, Chain.more, Means, Within, IsSentence, is_among}
use Rattle.wgsl_model.specs.Tokens.ClassTable.{SymAttr}
use Rattle.wgsl_model.specs.Tokens.Kind.{Kind}
use Rattle.wgsl_model.specs.Grammar.Symbols.{Symbol, Symbol.unit, Value}
use Rattle.wgsl_model.specs.Grammar.Written.{written}
use Rattle.wgsl_model_tidy.specs.Kept.{unplaced}
use Rattle.wgsl_theory_grammar.proofs.Tokens.Classes.{all_pass, passes_on}
use Rattle.wgsl_laws.specs.Indents.{ends_item}

-- ---- tokens one after another

-- whether a token of a class is `@`, if it may come there, after `@` or not
abbrev then : Bool → ℕ → Option Bool
then after class = cond (after && ends_item class) None (Some (class == SymAttr))

-- from tokens, after `@` or not, to a rest
data Leads (last : Bool) (rest : List Token) : Bool → List Token → Type 0 where
  none_left : Leads last rest last rest
  one_more : (after next : Bool) (t : Token) (ts : List Token) → then after t.class ≡ Some next
      → Leads last rest next ts → Leads last rest after (t ∷ ts)

both_lead : (b c : Bool) (ys zs : List Token) (a : Bool) (xs : List Token)
    → Leads b ys a xs → Leads c zs b ys → Leads c zs a xs
both_lead b c ys zs _ _ (none_left) k = k
both_lead b c ys zs _ _ (one_more a n t ts e l) k = one_more a n t ts e (both_lead b c ys zs n ts l k)

-- ---- what a right side leads to

-- neither `@` nor one that may not come there
abbrev is_other : Bool → ℕ → Bool
is_other after class = not (class == SymAttr) && not (after && ends_item class)

-- a token of one of these classes
abbrev one_of : List ℕ → Bool → Option Bool
one_of (c ∷ []) after = then after c
one_of s after = cond (all_pass (is_other after) s) (Some false) None

abbrev agreed : Option Bool → Option Bool → Option Bool
agreed (Some false) (Some false) = Some false
agreed a b = None

abbrev followed : Option Bool → (Bool → Option Bool) → Option Bool
followed (Some a) f = f a
followed None f = None

-- a symbol comes after another token than `@`, and ends with one
abbrev of_symbol : Bool → Option Bool
of_symbol true = None
of_symbol false = Some false

abbrev run : {A : Type 0} → Grammar Symbol Value A → Bool → Option Bool
run (empty a) after = Some after
run (token s) after = one_of s after
run (sequence g h) after = followed (run g after) (run h)
run (choice g h) after = agreed (run g after) (run h after)
run (mapped f g) after = run g after
run (node f g) after = run g after
run (checked f g) after = run g after
run (symbol n) after = of_symbol after
run (left_chain f g h) after = followed (run g after) (λ b. agreed (Some b) (run h b))

check : (n : Symbol) → run (written n) false ≡ Some false
check unit = refl
check n = refl

-- ---- so it is of all that is derived

agreed_both : (x y : Option Bool) (b : Bool) → agreed x y ≡ Some b → (x ≡ Some b) × (y ≡ Some b)
agreed_both None y b h = absurd cc
agreed_both (Some true) y b h = absurd cc
agreed_both (Some false) None b h = absurd cc
agreed_both (Some false) (Some true) b h = absurd cc
agreed_both (Some false) (Some false) b h = (h, h)

followed_both : (x : Option Bool) (f : Bool → Option Bool) (b : Bool)
    → followed x f ≡ Some b → (a : Bool) × (x ≡ Some a) × (f a ≡ Some b)
followed_both None f b h = absurd cc
followed_both (Some a) f b h = (a, refl, h)

symbol_leads : (a b : Bool) → of_symbol a ≡ Some b → (a ≡ false) × (b ≡ false)
symbol_leads true b h = absurd cc
symbol_leads false b h = let same : false ≡ b = cc in (refl, sym same)

one_class : (c d : ℕ) → is_among c (d ∷ []) ≡ true → c ≡ d
one_class c d = go (eqb c d) refl
  where
    go : (t : Bool) → eqb c d ≡ t → cond t true false ≡ true → c ≡ d
    go true e h = eqb-true c d e
    go false e h = absurd (true≢false (sym h))

-- a token of one of some classes that are all other ones
then_other : (after : Bool) (c : ℕ) → is_other after c ≡ true → then after c ≡ Some false
then_other after c h =
    let parts = and_parts (not (c == SymAttr)) (not (after && ends_item c)) h in
    ap₂ (λ x y. cond x None (Some y)) (not-true (after && ends_item c) parts.1) (not-true (c == SymAttr) parts.0)

others_do : (c : ℕ) (s : List ℕ) (a b : Bool) → is_among c s ≡ true
    → cond (all_pass (is_other a) s) (Some false) None ≡ Some b → then a c ≡ Some b
others_do c s a b m = go (all_pass (is_other a) s) refl
  where
    go : (t : Bool) → all_pass (is_other a) s ≡ t → cond t (Some false) None ≡ Some b → then a c ≡ Some b
    go true e h = then_other a c (passes_on (is_other a) c s e m) ∙ h
    go false e h = absurd cc

one_does : (c : ℕ) (s : List ℕ) (a b : Bool) → is_among c s ≡ true → one_of s a ≡ Some b → then a c ≡ Some b
one_does c [] a b m h = absurd (true≢false (sym m))
one_does c (d ∷ []) a b m h = ap (then a) (one_class c d m) ∙ h
one_does c (d ∷ (e ∷ es)) a b m h = others_do c (d ∷ (e ∷ es)) a b m h

chain_leads : {A B : Type 0} (f : A → B → Span → A) (P : A → List Token → List Token → Type 0)
    (Q : B → List Token → List Token → Type 0) (a b : Bool)
    → ((v : A) (xs ys : List Token) → P v xs ys → Leads b ys a xs)
    → ((v : B) (xs ys : List Token) → Q v xs ys → Leads b ys b xs)
    → (xs : List Token) (v : A) (ys : List Token) → Chain f P Q xs v ys → Leads b ys a xs
chain_leads f P Q a b p q xs _ _ (base v ys d) = p v xs ys d
chain_leads f P Q a b p q xs _ _ (more v w ys zs c d) = both_lead b b ys zs a xs
    (chain_leads f P Q a b p q xs v ys c) (q w ys zs d)

module _ (D : (n : Symbol) → Value n → List Token → List Token → Type 0)
    (known : (n : Symbol) (v : Value n) (xs ys : List Token) → D n v xs ys → Leads false ys false xs) where
  sound : {A : Type 0} (g : Grammar Symbol Value A) (v : A) (xs ys : List Token) (a b : Bool)
      → run g a ≡ Some b → Means unchecked D g v xs ys → Leads b ys a xs
  sound (empty u) v xs ys a b h d =
      let same : a ≡ b = cc in subst (λ zs. Leads b zs a xs) d.1 (subst (λ c. Leads c xs a xs) same none_left)
  sound (token s) v xs ys a b h d = subst (Leads b ys a) (sym d.1)
      (one_more a b v ys (one_does v.class s a b d.0 h) none_left)
  sound (sequence g h) v xs ys a b e d =
      let f = followed_both (run g a) (run h) b e in
      both_lead f.0 b d.0 ys a xs (sound g v.0 xs d.0 a f.0 f.1 d.1) (sound h v.1 d.0 ys f.0 b f.2 d.2)
  sound (choice g h) v xs ys a b e (inl d) = sound g v xs ys a b (agreed_both (run g a) (run h a) b e).0 d
  sound (choice g h) v xs ys a b e (inr d) = sound h v xs ys a b (agreed_both (run g a) (run h a) b e).1 d
  sound (mapped f g) v xs ys a b h d = sound g d.0 xs ys a b h d.2
  sound (node f g) v xs ys a b h d = sound g d.0 xs ys a b h d.2
  sound (checked f g) v xs ys a b h d = sound g v xs ys a b h d.1
  sound (symbol n) v xs ys a b h d =
      let s = symbol_leads a b h in
      subst (λ c. Leads b ys c xs) (sym s.0) (subst (λ c. Leads c ys false xs) (sym s.1) (known n v xs ys d))
  sound (left_chain f g h) v xs ys a b e d =
      let q = followed_both (run g a) (λ c. agreed (Some c) (run h c)) b e in
      let r = agreed_both (Some q.0) (run h q.0) b q.2 in
      let same : q.0 ≡ b = cc in
      chain_leads f (Means unchecked D g) (Means unchecked D h) a b
      (λ u us zs c. sound g u us zs a b (q.1 ∙ ap Some same) c)
      (λ u us zs c. sound h u us zs b b (subst (λ x. run h x ≡ Some b) same r.1) c)
      xs v ys d

within_leads : (k : ℕ) (n : Symbol) (v : Value n) (xs ys : List Token)
    → Within unchecked written k n v xs ys → Leads false ys false xs
within_leads zero n v xs ys h = absurd h
within_leads (suc k) n v xs ys h =
    sound (Within unchecked written k) (within_leads k) (written n) v xs ys false false (check n) h

-- ---- the tokens of a module

-- none of these kinds that comes after `@` ends an item; they come after `@` or not
abbrev pub AreNames : Bool → List Kind → Type 0
AreNames after [] = Unit {0}
AreNames after (k ∷ ks) = ((after && ends_item k.class) ≡ false) × AreNames (k.class == SymAttr) ks

names_of : (after : Bool) (ts : List Token) → Leads false [] after ts → AreNames after (map unplaced ts)
names_of _ _ (none_left) = tt
names_of after _ (one_more _ next t ts e l) = go (after && ends_item t.class) refl e (names_of next ts l)
  where
    go : (b : Bool) → (after && ends_item t.class) ≡ b → cond b None (Some (t.class == SymAttr)) ≡ Some next
        → AreNames next (map unplaced ts)
        → ((after && ends_item t.class) ≡ false) × AreNames (t.class == SymAttr) (map unplaced ts)
    go true f h n = absurd cc
    go false f h n =
        let same : next ≡ (t.class == SymAttr) = cc in (f, subst (λ b. AreNames b (map unplaced ts)) same n)

pub module_names : (ts : List Token) → IsSentence written unit ts → AreNames false (map unplaced ts)
module_names ts h = names_of false ts (within_leads h.1.0 unit h.0 ts [] h.1.1)
