-- Tokens in which template lists and what is between parentheses are in place of others: this
-- goes both ways and part by part, and how such tokens begin.
use Rattle.std.proofs.Common.{◌≡◌, ◌↔◌, ◌⊎◌, ℕ, true, false, List, [], ◌∷◌, ◌++◌, inl, inr, refl, sym, ap, subst, ◌∙◌, append_assoc}
use Rattle.grammar.specs.Tokens.{Token}
use Rattle.grammar.specs.Grammar.{Mode.checking, Derives, is_among}
use Rattle.grammar.proofs.Reading.Sets.{clash}
use Rattle.grammar.proofs.Faults.Anchors.{tail_of}
use Rattle.wgsl_model.specs.Tokens.ClassTable.{SymParenLeft, SymParenRight, TemplateArgsStart, TemplateArgsEnd}
use Rattle.wgsl_model.specs.Trees.Expressions.{ExpressionNode}
use Rattle.wgsl_model.specs.Grammar.Symbols.{Symbol.expression}
use Rattle.wgsl_model.specs.Grammar.Written.{written}
use Rattle.wgsl_theory_grammar.proofs.Tokens.Decided.{IsList}
use Rattle.wgsl_theory_templates.proofs.Changes.Nested.{same_head}

-- a list of expressions between its marks
abbrev pub IsTemplate : Token → List Token → Token → Type 0
IsTemplate start ts end = (start.class ≡ TemplateArgsStart) × (end.class ≡ TemplateArgsEnd) × IsList ts

-- and between parentheses
abbrev pub IsGroup : Token → List Token → Token → Type 0
IsGroup start ts end = (start.class ≡ SymParenLeft) × (end.class ≡ SymParenRight) × IsList ts

-- one expression
abbrev pub IsOne : List Token → Type 0
IsOne ts = (v : ExpressionNode) × Derives checking written expression v ts

-- a template list and a template list, or two lists between parentheses of which both or none are
-- one expression
abbrev pub AreAlike : Token → List Token → Token → Token → List Token → Token → Type 0
AreAlike s us e t vs f = (IsTemplate s us e × IsTemplate t vs f)
    ⊎ (IsGroup s us e × IsGroup t vs f × (IsOne us ↔ IsOne vs))

-- two lists of tokens: a token is in place of one of its class, and what is between two tokens
-- in place of what is alike
pub data Swapped : List Token → List Token → Type 0 where
  no_tokens : Swapped [] []
  one_token : (t u : Token) (xs ys : List Token) → t.class ≡ u.class → Swapped xs ys → Swapped (t ∷ xs) (u ∷ ys)
  one_enclosed : (s e t f : Token) (us vs xs ys : List Token) → AreAlike s us e t vs f
      → Swapped xs ys → Swapped (s ∷ (us ++ (e ∷ xs))) (t ∷ (vs ++ (f ∷ ys)))

-- each token in place of itself
pub unswapped : (xs : List Token) → Swapped xs xs
unswapped [] = no_tokens
unswapped (t ∷ xs) = one_token t t xs xs refl (unswapped xs)

-- the other way round
alike_back : (s e t f : Token) (us vs : List Token) → AreAlike s us e t vs f → AreAlike t vs f s us e
alike_back s e t f us vs (inl (a, b)) = inl (b, a)
alike_back s e t f us vs (inr (a, b, o)) = inr (b, a, (o.1, o.0))

pub swapped_back : (xs ys : List Token) → Swapped xs ys → Swapped ys xs
swapped_back _ _ no_tokens = no_tokens
swapped_back _ _ (one_token t u xs ys c s) = one_token u t ys xs (sym c) (swapped_back xs ys s)
swapped_back _ _ (one_enclosed s e t f us vs xs ys a m) = one_enclosed t f s e vs us ys xs
    (alike_back s e t f us vs a) (swapped_back xs ys m)

-- with more after
enclosed_after : (t e : Token) (us xs zs : List Token) → t ∷ (us ++ (e ∷ (xs ++ zs))) ≡ (t ∷ (us ++ (e ∷ xs))) ++ zs
enclosed_after t e us xs zs = ap (λ (l : List Token). t ∷ l) (sym (append_assoc us (e ∷ xs) zs))

pub both_swapped : (xs ys : List Token) → Swapped xs ys → (ps qs : List Token) → Swapped ps qs
    → Swapped (xs ++ ps) (ys ++ qs)
both_swapped _ _ no_tokens ps qs m = m
both_swapped _ _ (one_token t u xs ys c s) ps qs m = one_token t u (xs ++ ps) (ys ++ qs) c
    (both_swapped xs ys s ps qs m)
both_swapped _ _ (one_enclosed s e t f us vs xs ys a n) ps qs m =
    subst (λ (l : List Token). Swapped l ((t ∷ (vs ++ (f ∷ ys))) ++ qs)) (enclosed_after s e us xs ps)
    (subst (λ (l : List Token). Swapped (s ∷ (us ++ (e ∷ (xs ++ ps)))) l) (enclosed_after t f vs ys qs)
    (one_enclosed s e t f us vs (xs ++ ps) (ys ++ qs) a (both_swapped xs ys n ps qs m)))

-- ---- how they begin
pub none_swapped : (xs zs : List Token) → Swapped xs zs → xs ≡ [] → zs ≡ []
none_swapped _ _ no_tokens w = refl
none_swapped _ _ (one_token t u xs ys c s) w = absurd cc
none_swapped _ _ (one_enclosed s e t f us vs xs ys a m) w = absurd cc

-- what is in place of tokens that begin with t: a token of its class, or what is alike where t
-- begins what is between two tokens
pub data Begins (t : Token) (ts zs : List Token) : Type 0 where
  with_token : (u : Token) (us : List Token) → zs ≡ u ∷ us → t.class ≡ u.class → Swapped ts us → Begins t ts zs
  with_enclosed : (e u f : Token) (us vs xs ys : List Token) → ts ≡ us ++ (e ∷ xs)
      → zs ≡ u ∷ (vs ++ (f ∷ ys)) → AreAlike t us e u vs f → Swapped xs ys → Begins t ts zs

pub begins : (xs zs : List Token) → Swapped xs zs → (t : Token) (ts : List Token) → xs ≡ t ∷ ts → Begins t ts zs
begins _ _ no_tokens t ts w = absurd cc
begins _ _ (one_token u v us vs c s) t ts w =
    with_token v vs refl (ap (λ (x : Token). x.class) (sym (same_head u t us ts w)) ∙ c)
    (subst (λ (l : List Token). Swapped l vs) (tail_of u t us ts w) s)
begins _ _ (one_enclosed s e u f us vs xs ys a m) t ts w =
    with_enclosed e u f us vs xs ys (sym (tail_of s t (us ++ (e ∷ xs)) ts w)) refl
    (subst (λ (x : Token). AreAlike x us e u vs f) (same_head s t (us ++ (e ∷ xs)) ts w) a) m

-- the classes that begin what is between two tokens
abbrev pub starts : List ℕ
starts = TemplateArgsStart ∷ SymParenLeft ∷ []

alike_starts : (s e t f : Token) (us vs : List Token) → AreAlike s us e t vs f → is_among s.class starts ≡ true
alike_starts s e t f us vs (inl (a, b)) = ap (λ (x : ℕ). is_among x starts) a.0
alike_starts s e t f us vs (inr (a, b, o)) = ap (λ (x : ℕ). is_among x starts) a.0

-- in place of a token that begins no such thing
pub begins_alike : (xs zs : List Token) → Swapped xs zs → (t : Token) (ts : List Token)
    → xs ≡ t ∷ ts → is_among t.class starts ≡ false
    → (u : Token) × (us : List Token) × (zs ≡ u ∷ us) × (t.class ≡ u.class) × Swapped ts us
begins_alike xs zs s t ts w n = elim (begins xs zs s t ts w) [
  | with_token u us e c m ↦ (u, us, e, c, m)
  | with_enclosed e u f us vs ps qs i j a m ↦ clash _ (alike_starts t e u f us vs a) n
]
