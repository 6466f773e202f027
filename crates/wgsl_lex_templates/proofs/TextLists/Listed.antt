-- The lists of a text, one `<` after the other from the right.
use Rattle.std.proofs.Common.{◌≡◌, ◌↔◌, ◌⊎◌, ℕ, ◌+◌, ◌<◌, ◌≤◌, true, false, eqb, eqb-true, cond, List, [], ◌∷◌, ◌++◌, Some, None, length, inl, inr, refl, sym, ap, subst, ◌∙◌, append_assoc, arith}
use Rattle.std.specs.Prelude.{◌==◌}
use Rattle.std.proofs.lemmas.List.{length-append}
use Rattle.std.proofs.lemmas.List.Sums.{sum_by-append}
use Rattle.std.proofs.lemmas.Bool.{lt-ltb, ltb-true}
use Rattle.std.proofs.lemmas.Bool.Decides.{nat_tests}
use Rattle.grammar.proofs.Reading.Sets.{and_true, cases, clash}
use Rattle.wgsl_model.specs.Tokens.Places.{place, width}
use Rattle.wgsl_span.specs.declared.Span.{Span}
use Rattle.wgsl_theory_grammar.proofs.Tokens.Widths.{past}
use Rattle.wgsl_lex_templates.specs.Spans.{end_from, is_before_all}
use Rattle.wgsl_lex_templates.specs.Lists.{ListEnds, IsListIn, TellLists, AreLists, less_than_signs}
use Rattle.wgsl_theory_grammar.proofs.Tokens.Places.{same_place}

-- no `<` is in a text
abbrev pub HasNoLess : List ℕ → Type 0
HasNoLess text = (before following : List ℕ) → text ≡ before ++ (60 ∷ following) → ⊥

-- in two parts of which the first has none, it is in the second
pub in_second : (xs ys before following : List ℕ) → HasNoLess xs → xs ++ ys ≡ before ++ (60 ∷ following)
    → (front : List ℕ) × (ys ≡ front ++ (60 ∷ following))
in_second [] ys before following n e = (before, e)
in_second (x ∷ xs) ys [] following n e = let same : x ≡ 60 = cc in absurd (n [] xs (ap (λ c. c ∷ xs) same))
in_second (x ∷ xs) ys (b ∷ before) following n e =
    let tails : xs ++ ys ≡ before ++ (60 ∷ following) = cc in
    in_second xs ys before following (λ f g same. n (x ∷ f) g (ap (λ l. x ∷ l) same)) tails

-- lists that are known of the end of a text are told of it
pub told : (total : ℕ) (spans : List Span) (done : List ℕ) → width done ≤ total
    → AreLists total spans done → TellLists total spans done
told total spans done fits are before following end e = (
  (λ some.
      let h = (are (place total (60 ∷ following)) end).0 some in
      let same = same_place total done before h.0 (60 ∷ following) (60 ∷ h.1) fits e h.2 h.3 in
      subst (λ x. ListEnds total x end) (sym same) h.4),
  (λ ends. (are (place total (60 ∷ following)) end).1 (before, following, e, refl, ends)),
)

-- and so with more before them that has no `<`
pub told_more : (total : ℕ) (spans : List Span) (back done : List ℕ) → HasNoLess back
    → TellLists total spans done → TellLists total spans (back ++ done)
told_more total spans back done n tell before following end e =
    let s = in_second back done before following n e in tell s.0 following end s.1

-- ---- the lists of a text from its last `<` on, which is tried
-- a list in it is at that `<` or after it
cut_list : (total : ℕ) (back done : List ℕ) (start end : ℕ) → HasNoLess back
    → IsListIn total (60 ∷ (back ++ done)) start end
    → ((start ≡ place total (60 ∷ (back ++ done))) × ListEnds total (60 ∷ (back ++ done)) end)
    ⊎ IsListIn total done start end
cut_list total back done start end n ([], following, e, s, l) =
    let same : back ++ done ≡ following = cc in
    inl (subst (λ x. start ≡ place total (60 ∷ x)) (sym same) s, subst (λ x. ListEnds total (60 ∷ x) end) (sym same) l)
cut_list total back done start end n (b ∷ before, following, e, s, l) =
    let tails : back ++ done ≡ before ++ (60 ∷ following) = cc in
    let h = in_second back done before following n tails in inr (h.0, following, h.1, s, l)

-- and a list after it is a list of the whole
longer_list : (total : ℕ) (front done : List ℕ) (start end : ℕ) → IsListIn total done start end
    → IsListIn total (front ++ done) start end
longer_list total front done start end (before, following, e, s, l) =
    (front ++ before, following, ap (λ x. front ++ x) e ∙ sym (append_assoc front before (60 ∷ following)), s, l)

-- it starts after that `<`
starts_after : (total : ℕ) (back done : List ℕ) (start end : ℕ) → width (60 ∷ (back ++ done)) ≤ total
    → IsListIn total done start end → place total (60 ∷ (back ++ done)) < start
starts_after total back done start end fits (before, following, e, s, l) =
    let whole : 60 ∷ (back ++ done) ≡ (60 ∷ (back ++ before)) ++ (60 ∷ following) =
    ap (λ x. 60 ∷ (back ++ x)) e ∙ ap (λ x. 60 ∷ x) (sym (append_assoc back before (60 ∷ following))) in
    omega (arith, s, fits, past (60 ∷ (back ++ done)) (60 ∷ following) (60, back ++ before, whole))

-- so that `<` is before the starts of all
before_all_by : (start : ℕ) (spans : List Span)
    → ((k end : ℕ) → end_from spans k ≡ Some end → start < k) → is_before_all start spans ≡ true
before_all_by start [] h = refl
before_all_by start (span ∷ spans) h =
    let here : end_from (span ∷ spans) span.start ≡ Some span.end = grind (arith, nat_tests) in
    let less = lt-ltb start span.start (h span.start span.end here) in
    let rest = before_all_by start spans (λ k end e. later k end e (cases (eqb span.start k))) in
    rw (less, rest) refl
  where
    later : (k end : ℕ) → end_from spans k ≡ Some end
        → (eqb span.start k ≡ true) ⊎ (eqb span.start k ≡ false) → start < k
    later k end e (inl q) = h k span.end (rw q refl)
    later k end e (inr q) = h k end (rw q e)

pub before_all : (total : ℕ) (spans : List Span) (back done : List ℕ) → width (60 ∷ (back ++ done)) ≤ total
    → AreLists total spans done → is_before_all (place total (60 ∷ (back ++ done))) spans ≡ true
before_all total spans back done fits are = before_all_by _ spans
    (λ k end e. starts_after total back done k end fits ((are k end).0 e))

-- ---- one span more
added_other : (spans : List Span) (span : Span) (k : ℕ) → (span.start ≡ k → ⊥)
    → end_from (spans ++ span ∷ []) k ≡ end_from spans k
added_other [] span k n = grind (arith, nat_tests)
added_other (s ∷ spans) span k n = ap (λ x. cond (eqb s.start k) (Some s.end) x) (added_other spans span k n)

added_here : (spans : List Span) (span : Span) → is_before_all span.start spans ≡ true
    → end_from (spans ++ span ∷ []) span.start ≡ Some span.end
added_here [] span b = grind (arith, nat_tests)
added_here (s ∷ spans) span b =
    let t = and_true _ (is_before_all span.start spans) b in let less = ltb-true span.start s.start t.0 in
    let rest = added_here spans span t.1 in grind (arith, nat_tests)

-- where no list begins at that `<`
pub none_more : (total : ℕ) (spans : List Span) (back done : List ℕ) → HasNoLess back
    → ((end : ℕ) → ListEnds total (60 ∷ (back ++ done)) end → ⊥) → AreLists total spans done
    → AreLists total spans (60 ∷ (back ++ done))
none_more total spans back done n none are start end = (
  (λ e. longer_list total (60 ∷ back) done start end ((are start end).0 e)),
  (λ l. elim (cut_list total back done start end n l) [
    | inl here ↦ absurd (none end here.1)
    | inr later ↦ (are start end).1 later
  ]),
)

some_same : (a b : ℕ) → Some a ≡ Some b → a ≡ b
some_same a b e = cc

eqb_same : (a b : ℕ) → a ≡ b → eqb a b ≡ true
eqb_same a b e = grind (arith, nat_tests)

-- where one does
pub one_more : (total : ℕ) (spans : List Span) (back done : List ℕ) (at : ℕ) → HasNoLess back
    → width (60 ∷ (back ++ done)) ≤ total
    → ((end : ℕ) → (at ≡ end) ↔ ListEnds total (60 ∷ (back ++ done)) end) → AreLists total spans done
    → AreLists total (spans ++ record { start = place total (60 ∷ (back ++ done)); end = at } ∷ [])
    (60 ∷ (back ++ done))
one_more total spans back done at n fits one are start end =
    go (cases (eqb first start))
  where
    first : ℕ
    first = place total (60 ∷ (back ++ done))

    span : Span
    span = record { start = first; end = at }

    all : is_before_all first spans ≡ true
    all = before_all total spans back done fits are

    go : (eqb first start ≡ true) ⊎ (eqb first start ≡ false)
        → end_from (spans ++ span ∷ []) start ≡ Some end ↔ IsListIn total (60 ∷ (back ++ done)) start end
    go (inl q) =
        let same : first ≡ start = eqb-true first start q in
        let here : end_from (spans ++ span ∷ []) start ≡ Some at =
        ap (end_from (spans ++ span ∷ [])) (sym same) ∙ added_here spans span all in (
          (λ e. let ends : at ≡ end = some_same at end (sym here ∙ e) in
              ([], back ++ done, refl, sym same, (one end).0 ends)),
          (λ l. elim (cut_list total back done start end n l) [
            | inl h ↦ here ∙ ap Some ((one end).1 h.1)
            | inr later ↦ let less = starts_after total back done start end fits later in
                absurd (omega (arith, less, same))
          ]),
        )
    go (inr q) =
        let other : first ≡ start → ⊥ = (λ same. clash _ (eqb_same first start same) q) in
        let moved = added_other spans span start other in (
          (λ e. longer_list total (60 ∷ back) done start end ((are start end).0 (sym moved ∙ e))),
          (λ l. elim (cut_list total back done start end n l) [
            | inl h ↦ absurd (other (sym h.0))
            | inr later ↦ moved ∙ (are start end).1 later
          ]),
        )

-- ---- at the ends
pub no_lists : (total : ℕ) (spans : List Span) → spans ≡ [] → AreLists total spans []
no_lists total spans none start end = (
  (λ e. let no : None ≡ Some end = sym (ap (λ s. end_from s start) none) ∙ e in absurd cc),
  (λ (before, following, e, s, l). absurd (omega (arith, ap length e, length-append before (60 ∷ following)))),
)

-- a front without a `<` has no list
pub all_lists : (total : ℕ) (spans : List Span) (left done : List ℕ) → HasNoLess left
    → AreLists total spans done → AreLists total spans (left ++ done)
all_lists total spans left done n are start end = (
  (λ e. longer_list total left done start end ((are start end).0 e)),
  (λ (before, following, e, s, l). let h = in_second left done before following n e in (are start end).1
      (h.0, following, h.1, s, l)),
)

-- one `<` more
pub one_sign_more : (back done : List ℕ) → less_than_signs done + 1 ≤ less_than_signs (60 ∷ (back ++ done))
one_sign_more back done =
    let all = sum_by-append (λ c. cond (c == 60) 1 0) back done in
    let first : less_than_signs (60 ∷ (back ++ done)) ≡ 1 + less_than_signs (back ++ done) =
    sum_by-append (λ c. cond (c == 60) 1 0) (60 ∷ []) (back ++ done) in
    omega (arith, all, first)

-- ---- what is left, and what is done
-- the lists after what is left of a source are known, with at most as many attempts as there are
-- `<`
pub record Done (total : ℕ) (source left : List ℕ) (spans : List Span) (attempts : ℕ) : Type 0 where
  pub following : List ℕ
  pub parts : source ≡ left ++ following
  pub lists : AreLists total spans following
  pub few : attempts ≤ less_than_signs following
