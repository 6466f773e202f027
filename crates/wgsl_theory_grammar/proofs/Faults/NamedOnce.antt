-- One fault alone is named, and none where a tree is derived.
use Rattle.std.proofs.Common.{◌≡◌, ℕ, zero, suc, ◌<◌, ◌≤◌, List, [], ◌∷◌, ◌++◌, length, ◌⊎◌, inl, inr, refl, sym, ap, ap₂, subst, ◌∙◌, append-nil, arith, length-append}
use Rattle.grammar.specs.Tokens.{Token, Fault}
use Rattle.grammar.specs.Grammar.{Mode.checking, Derives, IsSentence, IsViable}
use Rattle.grammar.specs.Endings.{Ending, Ending.finished, Ending.carried}
use Rattle.grammar.proofs.Reading.Depth.{loosen}
use Rattle.grammar.proofs.Faults.Outcomes.{no_fault}
use Rattle.wgsl_model.specs.Faults.Kinds.{unexpected_token}
use Rattle.wgsl_model.specs.Grammar.Symbols.{Dialect, Dialect.parsed, Dialect.recognized, Symbol, Value}
use Rattle.wgsl_model.specs.Grammar.Written.{rules, written}
use Rattle.wgsl_model.specs.Grammar.Small.{small}
use Rattle.wgsl_model.specs.Faults.Checked.{IsCheckedFault}
use Rattle.wgsl_model.specs.Faults.NamedFault.{NoFaultBefore, IsNamed, IsNamed.checked_first, IsNamed.unexpected_first, IsNamed.carried_last, IsNamed.missing_last, IsNamedUnchecked, IsNamedUnchecked.unchecked_unexpected, IsNamedUnchecked.unchecked_carried, IsNamedUnchecked.unchecked_missing, IsNamedSmall}
use Rattle.wgsl_theory_grammar.specs.Factored.{FactoredSymbol.of, body}
use Rattle.wgsl_theory_grammar.specs.Tables.{rank_limit, tables}
use Rattle.wgsl_theory_grammar.specs.Apart.{apart}
use Rattle.wgsl_theory_grammar.proofs.Outcomes.{tested}
use Rattle.wgsl_theory_grammar.proofs.Faults.PlainFaults.{plain_is_fault}
use Rattle.wgsl_theory_grammar.proofs.Faults.FaultEnds.{one_fault}
use Rattle.wgsl_theory_grammar.proofs.Forms.Links.{written_is_factored}
use Rattle.wgsl_theory_grammar.proofs.WrittenTree.{viable_front, sentence_is_viable, checked_is_viable}

-- two ends of a list that are equally long
same_end : (p q us vs : List Token) → p ++ us ≡ q ++ vs → length us ≡ length vs → us ≡ vs
same_end [] [] us vs e l = e
same_end [] (t ∷ q) us vs e l =
    let f = ap (λ (x : List Token). length x) e in absurd (omega (arith, f, l, length-append q vs))
same_end (t ∷ p) [] us vs e l =
    let f = ap (λ (x : List Token). length x) e in absurd (omega (arith, f, l, length-append p us))
same_end (t ∷ p) (u ∷ q) us vs e l = let f : p ++ us ≡ q ++ vs = cc in same_end p q us vs f l

-- a front that goes past a token has the front up to it
past : (q : List Token) (t : Token) (vs p us : List Token) → q ++ (t ∷ vs) ≡ p ++ us
    → length us ≤ length vs → (b : List Token) × (p ≡ (q ++ (t ∷ [])) ++ b)
past [] t vs [] us e l = let f = ap (λ (x : List Token). length x) e in absurd (omega (arith, f, l))
past [] t vs (u ∷ p) us e l = let f : u ≡ t = cc in (p, ap (λ (x : Token). x ∷ p) f)
past (x ∷ q) t vs [] us e l =
    let f = ap (λ (x : List Token). length x) e in absurd (omega (arith, f, l, length-append q (t ∷ vs)))
past (x ∷ q) t vs (u ∷ p) us e l =
    let f : u ≡ x = cc in let r : q ++ (t ∷ vs) ≡ p ++ us = cc in
    let w = past q t vs p us r l in (w.0, ap₂ (λ (y : Token) (z : List Token). y ∷ z) f w.1)

-- no front that begins a sentence goes past a token with which none goes on
not_past : (L : Dialect) (n : Symbol) (ts q : List Token) (t : Token) (vs p us : List Token)
    → ts ≡ q ++ (t ∷ vs) → (IsViable (rules L) n (q ++ (t ∷ [])) → ⊥) → ts ≡ p ++ us
    → IsViable (rules L) n p → length us ≤ length vs → ⊥
not_past L n ts q t vs p us e none f v l =
    let w = past q t vs p us (sym e ∙ f) l in
    none (viable_front L n (q ++ (t ∷ [])) w.0 (subst (IsViable (rules L) n) w.1 v))

order : (m n : ℕ) → (m ≡ n) ⊎ ((m < n) ⊎ (n < m))
order zero zero = inl refl
order zero (suc n) = inr (inl (omega arith))
order (suc m) zero = inr (inr (omega arith))
order (suc m) (suc n) = elim (order m n) [
  | inl h ↦ inl (ap suc h)
  | inr h ↦ elim h [ inl l ↦ inr (inl (omega (arith, l))) | inr l ↦ inr (inr (omega (arith, l))) ]
]

same_carried : (x y : Fault) (e : Ending) → e ≡ carried x → e ≡ carried y → x ≡ y
same_carried x y e p q = let r : carried x ≡ carried y = sym p ∙ q in cc

not_both : (x : Fault) (e : Ending) → e ≡ carried x → e ≡ finished → ⊥
not_both x e p q = let r : finished ≡ carried x = sym q ∙ p in cc

-- a checked fault and an unexpected token exclude one another
first_or_unexpected : (n : Symbol) (ts : List Token) (ending : Ending) (p us : List Token) (x : Fault)
    → ts ≡ p ++ us → IsViable written n p → IsCheckedFault ts ending x us
    → (q vs : List Token) (t : Token) → ts ≡ q ++ (t ∷ vs)
    → (IsViable written n (q ++ (t ∷ [])) → ⊥) → NoFaultBefore ts ending (suc (length vs)) → ⊥
first_or_unexpected n ts ending p us x e v f q vs t g none m = elim (order (length us) (length vs)) [
  | inl l ↦ not_past parsed n ts q t vs p us g none e v (omega (arith, l))
  | inr h ↦ elim h [ inl l ↦ not_past parsed n ts q t vs p us g none e v (omega (arith, l)) | inr l ↦ m x us f l ]
]

-- not all tokens begin a sentence where none goes on with one of them
all_or_unexpected : (L : Dialect) (n : Symbol) (ts : List Token) → IsViable (rules L) n ts
    → (q vs : List Token) (t : Token) → ts ≡ q ++ (t ∷ vs) → (IsViable (rules L) n (q ++ (t ∷ [])) → ⊥) → ⊥
all_or_unexpected L n ts v q vs t e none = not_past L n ts q t vs ts [] e none (sym (append-nil ts)) v (omega arith)

-- one token alone is the first with which none goes on
one_unexpected : (L : Dialect) (n : Symbol) (ts p us q vs : List Token) (t u : Token)
    → ts ≡ p ++ (t ∷ us) → IsViable (rules L) n p → (IsViable (rules L) n (p ++ (t ∷ [])) → ⊥)
    → ts ≡ q ++ (u ∷ vs) → IsViable (rules L) n q → (IsViable (rules L) n (q ++ (u ∷ [])) → ⊥) → t ≡ u
one_unexpected L n ts p us q vs t u e v none e' v' none' = elim (order (length us) (length vs)) [
  | inl l ↦ let r : t ∷ us ≡ u ∷ vs = same_end p q (t ∷ us) (u ∷ vs) (sym e ∙ e') (ap suc l) in let h : t ≡ u = cc in h
  | inr h ↦ elim h [
    | inl l ↦ absurd (not_past L n ts q u vs p (t ∷ us) e' none' e v l)
    | inr l ↦ absurd (not_past L n ts p t us q (u ∷ vs) e none e' v' l)
  ]
]

-- at most one fault is named
pub named_once : (n : Symbol) (ts : List Token) (ending : Ending) (x y : Fault)
    → IsNamed n ts ending x → IsNamed n ts ending y → x ≡ y
named_once n ts ending _ _ (checked_first p us x e v f m) (checked_first q vs y e' v' g k) =
    elim (order (length us) (length vs)) [
      | inl l ↦ one_fault ts ending x y us f
          (subst (IsCheckedFault ts ending y) (sym (same_end p q us vs (sym e ∙ e') l)) g)
      | inr h ↦ elim h [ inl l ↦ absurd (m y vs g l) | inr l ↦ absurd (k x us f l) ]
    ]
named_once n ts ending _ _ (checked_first p us x e v f m) (unexpected_first q vs t e' v' none k) =
    absurd (first_or_unexpected n ts ending p us x e v f q vs t e' none k)
named_once n ts ending _ _ (checked_first p us x e v f m) (carried_last y v' k c) = absurd (k x us f (omega arith))
named_once n ts ending _ _ (checked_first p us x e v f m) (missing_last v' s k c) = absurd (k x us f (omega arith))
named_once n ts ending _ _ (unexpected_first q vs t e' v' none k) (checked_first p us x e v f m) =
    absurd (first_or_unexpected n ts ending p us x e v f q vs t e' none k)
named_once n ts ending _ _ (unexpected_first p us t e v none m) (unexpected_first q vs u e' v' none' k) =
    ap unexpected_token (one_unexpected parsed n ts p us q vs t u e v none e' v' none')
named_once n ts ending _ _ (unexpected_first q vs t e' v' none k) (carried_last y v m c) =
    absurd (all_or_unexpected parsed n ts v q vs t e' none)
named_once n ts ending _ _ (unexpected_first q vs t e' v' none k) (missing_last v s m c) =
    absurd (all_or_unexpected parsed n ts v q vs t e' none)
named_once n ts ending _ _ (carried_last y v' k c) (checked_first p us x e v f m) = absurd (k x us f (omega arith))
named_once n ts ending _ _ (carried_last y v m c) (unexpected_first q vs t e' v' none k) =
    absurd (all_or_unexpected parsed n ts v q vs t e' none)
named_once n ts ending _ _ (carried_last x v m c) (carried_last y v' k d) = same_carried x y ending c d
named_once n ts ending _ _ (carried_last x v m c) (missing_last v' s k d) = absurd (not_both x ending c d)
named_once n ts ending _ _ (missing_last v' s k c) (checked_first p us x e v f m) = absurd (k x us f (omega arith))
named_once n ts ending _ _ (missing_last v s m c) (unexpected_first q vs t e' v' none k) =
    absurd (all_or_unexpected parsed n ts v q vs t e' none)
named_once n ts ending _ _ (missing_last v' s k d) (carried_last x v m c) = absurd (not_both x ending c d)
named_once n ts ending _ _ (missing_last v s k c) (missing_last v' s' m d) = refl

-- tokens that ended of themselves and derive a tree have no fault that is named
pub named_excludes : (n : Symbol) (ts : List Token) (x : Fault) → IsNamed n ts finished x
    → (v : Value n) → Derives checking written n v ts → ⊥
named_excludes n ts _ (checked_first p us x e w f m) v d =
    no_fault tables body rank_limit apart tested (of n) v ts
    (written_is_factored parsed checking n v ts [] d) x us (plain_is_fault ts finished x us f)
named_excludes n ts _ (unexpected_first q vs t e w none k) v d = all_or_unexpected parsed n ts
    (checked_is_viable parsed n v ts d) q vs t e none
named_excludes n ts _ (carried_last x w m c) v d = not_both x finished c refl
named_excludes n ts _ (missing_last w s m c) v d = s (v, loosen checking written n v ts [] d)

-- at most one fault is named where nothing is checked
pub unchecked_once : (L : Dialect) (n : Symbol) (ts : List Token) (ending : Ending) (x y : Fault)
    → IsNamedUnchecked L n ts ending x → IsNamedUnchecked L n ts ending y → x ≡ y
unchecked_once L n ts ending _ _ (unchecked_unexpected p us t e v none) (unchecked_unexpected q vs u e' v' none') =
    ap unexpected_token (one_unexpected L n ts p us q vs t u e v none e' v' none')
unchecked_once L n ts ending _ _ (unchecked_unexpected q vs t e v' none) (unchecked_carried y v c) =
    absurd (all_or_unexpected L n ts v q vs t e none)
unchecked_once L n ts ending _ _ (unchecked_unexpected q vs t e v' none) (unchecked_missing v s c) =
    absurd (all_or_unexpected L n ts v q vs t e none)
unchecked_once L n ts ending _ _ (unchecked_carried y v c) (unchecked_unexpected q vs t e v' none) =
    absurd (all_or_unexpected L n ts v q vs t e none)
unchecked_once L n ts ending _ _ (unchecked_carried x v c) (unchecked_carried y v' d) = same_carried x y ending c d
unchecked_once L n ts ending _ _ (unchecked_carried x v c) (unchecked_missing v' s d) = absurd (not_both x ending c d)
unchecked_once L n ts ending _ _ (unchecked_missing v s c) (unchecked_unexpected q vs t e v' none) =
    absurd (all_or_unexpected L n ts v q vs t e none)
unchecked_once L n ts ending _ _ (unchecked_missing v' s d) (unchecked_carried x v c) = absurd (not_both x ending c d)
unchecked_once L n ts ending _ _ (unchecked_missing v s c) (unchecked_missing v' s' d) = refl

-- tokens that ended of themselves and are a sentence have no fault that is named there
pub unchecked_excludes : (L : Dialect) (n : Symbol) (ts : List Token) (x : Fault)
    → IsNamedUnchecked L n ts finished x → IsSentence (rules L) n ts → ⊥
unchecked_excludes L n ts _ (unchecked_unexpected q vs t e w none) i = all_or_unexpected L n ts
    (sentence_is_viable L n ts i) q vs t e none
unchecked_excludes L n ts _ (unchecked_carried x w c) i = not_both x finished c refl
unchecked_excludes L n ts _ (unchecked_missing w s c) i = s i

-- the same of a text of the dialect
pub named_alone_excludes : (n : Symbol) (ts : List Token) (x : Fault) → IsNamedSmall n ts finished x
    → (v : Value n) → Derives checking small n v ts → ⊥
named_alone_excludes n ts x h v d = unchecked_excludes recognized n ts x h (v, loosen checking small n v ts [] d)
