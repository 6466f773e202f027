-- What a search finds among spans that are from right to left.
use Rattle.std.proofs.Common.{◌≡◌, ℕ, zero, suc, ◌<◌, ◌≤◌, true, cond, List, [], ◌∷◌, ◌++◌, Some, None, Result, Ok, Err, length, get_or, refl, sym, subst, ◌∙◌, eqb, eqb-true, inl, inr, arith}
use Rattle.std.specs.List.Sorted.{IsSearchInRange, IsBinarySearchResult, IsNonDecreasingBy}
use Rattle.std.specs.Ordering.{nat_cmp, ordering_index}
use Rattle.std.proofs.lemmas.Bool.{ltb-true, cases_lt, and_from}
use Rattle.std.proofs.lemmas.Bool.Decides.{nat_tests}
use Rattle.std.proofs.lemmas.Cmp.{ranked}
use Rattle.grammar.proofs.Reading.Sets.{and_true, cases}
use Rattle.wgsl_span.specs.declared.Span.{Span}
use Rattle.wgsl_lex_templates.specs.Spans.{end_from, is_before_all, all_before, are_backward}

-- ---- one span more at the end
all_before_added : (place : ℕ) (spans : List Span) (x : Span) → all_before place spans ≡ true
    → all_before place (x ∷ []) ≡ true → all_before place (spans ++ x ∷ []) ≡ true
all_before_added place [] x e f = f
all_before_added place (span ∷ spans) x e f =
    let t = and_true _ (all_before place spans) e in and_from _
    (all_before place (spans ++ x ∷ [])) t.0 (all_before_added place spans x t.1 f)

-- one that starts before all
pub backward_added : (spans : List Span) (x : Span) → are_backward spans ≡ true
    → is_before_all x.start spans ≡ true → are_backward (spans ++ x ∷ []) ≡ true
backward_added [] x e f = refl
backward_added (span ∷ spans) x e f =
    let t = and_true (all_before span.start spans) (are_backward spans) e in
    let u = and_true _ (is_before_all x.start spans) f in
    and_from (all_before span.start (spans ++ x ∷ [])) (are_backward (spans ++ x ∷ []))
    (all_before_added span.start spans x t.0 (and_from _ true u.0 refl)) (backward_added spans x t.1 u.1)

-- ---- the span at a place in the list
below_at : (place : ℕ) (spans : List Span) (i : ℕ) (d : Span) → all_before place spans ≡ true
    → i < length spans → (get_or spans i d).start < place
below_at place [] i d e l = absurd (omega arith)
below_at place (span ∷ spans) zero d e l = ltb-true span.start place (and_true _ (all_before place spans) e).0
below_at place (span ∷ spans) (suc i) d e l = below_at place spans i d
    (and_true _ (all_before place spans) e).1 (omega arith)

starts_fall : (spans : List Span) (i j : ℕ) (d : Span) → are_backward spans ≡ true → i < j
    → j < length spans → (get_or spans j d).start < (get_or spans i d).start
starts_fall [] i j d e l m = absurd (omega arith)
starts_fall (span ∷ spans) i zero d e l m = absurd (omega arith)
starts_fall (span ∷ spans) zero (suc j) d e l m = below_at span.start spans j d
    (and_true (all_before span.start spans) (are_backward spans) e).0 (omega arith)
starts_fall (span ∷ spans) (suc i) (suc j) d e l m = starts_fall spans i j d
    (and_true (all_before span.start spans) (are_backward spans) e).1 (omega arith) (omega arith)

chosen_here : {A : Type 0} (a b : ℕ) (x y : A) → a ≡ b → cond (eqb a b) x y ≡ x
chosen_here a b x y e = grind (arith, nat_tests)

chosen_there : {A : Type 0} (a b : ℕ) (x y : A) → (a ≡ b → ⊥) → cond (eqb a b) x y ≡ y
chosen_there a b x y n = grind (arith, nat_tests)

end_at : (spans : List Span) (k i : ℕ) (d : Span) → are_backward spans ≡ true → i < length spans
    → (get_or spans i d).start ≡ k → end_from spans k ≡ Some (get_or spans i d).end
end_at [] k i d e l s = absurd (omega arith)
end_at (span ∷ spans) k zero d e l s = chosen_here span.start k _ _ s
end_at (span ∷ spans) k (suc i) d e l s =
    let t = and_true (all_before span.start spans) (are_backward spans) e in
    let less = below_at span.start spans i d t.0 (omega arith) in
    chosen_there span.start k _ _ (λ same. omega (arith, less, s, same)) ∙ end_at spans k i d t.1 (omega arith) s

end_nowhere : (spans : List Span) (k : ℕ) (d : Span)
    → ((i : ℕ) → i < length spans → (get_or spans i d).start ≡ k → ⊥) → end_from spans k ≡ None
end_nowhere [] k d n = refl
end_nowhere (span ∷ spans) k d n = chosen_there span.start k _ _ (λ same. n 0 (omega arith) same)
    ∙ end_nowhere spans k d (λ i l. n (suc i) (omega arith))

-- ---- a binary search by the start
rises : (k a b : ℕ) → b ≤ a → ordering_index (nat_cmp k a) ≤ ordering_index (nat_cmp k b)
rises k a b l = grind (arith, nat_tests)

fall : (spans : List Span) (i j : ℕ) (d : Span) → are_backward spans ≡ true → i ≤ j
    → j < length spans → (get_or spans j d).start ≤ (get_or spans i d).start
fall spans i j d e l m = elim (cases (eqb i j)) [
  | inl q ↦ let same : i ≡ j = eqb-true i j q in
      subst (λ x. (get_or spans j d).start ≤ (get_or spans x d).start) (sym same) (omega arith)
  | inr q ↦ let less : i < j = grind (arith, nat_tests) in
      let f = starts_fall spans i j d e less m in omega arith
]

comparisons_rise : (spans : List Span) (k : ℕ) → are_backward spans ≡ true
    → IsNonDecreasingBy (λ span. ordering_index (nat_cmp k span.start)) spans
comparisons_rise spans k e i j d l m = rises k _ _ (fall spans i j d e l m)

-- what was found
abbrev pub Finds : List Span → ℕ → Result ℕ ℕ → Type 0
Finds spans k (Ok at) = (at < length spans) × ((d : Span) → end_from spans k ≡ Some (get_or spans at d).end)
Finds spans k (Err at) = end_from spans k ≡ None

no_span : Span
no_span = record { start = 0; end = 0 }

pub searched : (spans : List Span) (k : ℕ) (r : Result ℕ ℕ) → are_backward spans ≡ true
    → IsSearchInRange r (length spans) → IsBinarySearchResult (λ span. nat_cmp k span.start) spans r
    → Finds spans k r
searched spans k (Ok at) e l h =
    (l, λ d. end_at spans k at d e l (sym (ranked k (get_or spans at d).start _ (sym (h d)))))
searched spans k (Err at) e l h =
    let parted = h (comparisons_rise spans k e) in
    end_nowhere spans k no_span (λ i m same. elim (cases_lt i at) [
      | inl less ↦ let before : k < (get_or spans i no_span).start = ranked k _ _
          (sym (parted.0 i no_span (omega arith) less)) in omega (arith, before, same)
      | inr more ↦ let following : (get_or spans i no_span).start < k = ranked k _ _
          (sym (parted.1 i no_span more m)) in omega (arith, following, same)
    ])
