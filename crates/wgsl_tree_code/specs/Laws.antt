-- Sameness of codes is an equivalence, and says that they are equal but for spans.
use Rattle.std.specs.Prelude.{ℕ, Bool, true, false, List, [], ◌∷◌, Some, None, ◌≡◌, ◌==◌, ◌&&◌, ◌↔◌, Option}
use Rattle.std.proofs.Common.{refl, sym, ap, ◌∙◌, true≢false, eqb-true}
use Rattle.std.specs.Ordering.{int_eq}
use Rattle.std.specs.Bool.{beq}
use Rattle.std.specs.Cmp.{bool_eq_equiv, int_eq_equiv, signed_Decides, IsPartialEquivalence, IsEquivalence, nat_eq_equiv, partial_equiv_from_equiv, on_equiv}
use Rattle.std.specs.Cmp.Lexicographic.{pointwise, nat_list_eq_equiv}
use Rattle.wgsl_tree_code.specs.Code.{Code, absent, boolean, number, text, list, node, Codes, no_codes, code_before, Fields, no_fields, field}
use Rattle.wgsl_tree_code.specs.Same.{spanless, identical, identical_items, identical_fields, same}

pub both : (a b : Bool) → a && b ≡ true → (a ≡ true) × (b ≡ true)
both true b e = (refl, e)
both false b e = absurd (true≢false (sym e))

mutual
  identical_refl : (c : Code) → identical c c ≡ true
  identical_refl absent = refl
  identical_refl (boolean b) = bool_eq_equiv.refl b
  identical_refl (number n) = int_eq_equiv.refl n
  identical_refl (text s) = nat_list_eq_equiv.refl s
  identical_refl (list cs) = items_refl cs
  identical_refl (node fs) = fields_refl fs

  items_refl : (cs : Codes) → identical_items cs cs ≡ true
  items_refl no_codes = refl
  items_refl (code_before c cs) = λ i. identical_refl c i && items_refl cs i

  fields_refl : (fs : Fields) → identical_fields fs fs ≡ true
  fields_refl no_fields = refl
  fields_refl (field name c no_fields) = λ i. nat_list_eq_equiv.refl name i && identical_refl c i
  fields_refl (field name c (field other d fs)) =
      λ i. nat_list_eq_equiv.refl name i && (identical_refl c i && fields_refl (field other d fs) i)

same_list : (s t : List ℕ) → pointwise ◌==◌ s t ≡ true → s ≡ t
same_list [] [] e = refl
same_list [] (y ∷ t) e = absurd (true≢false (sym e))
same_list (x ∷ s) [] e = absurd (true≢false (sym e))
same_list (x ∷ s) (y ∷ t) e =
    let h = both (x == y) (pointwise ◌==◌ s t) e in λ i. eqb-true x y h.0 i ∷ same_list s t h.1 i

same_bool : (a b : Bool) → beq a b ≡ true → a ≡ b
same_bool true true e = refl
same_bool false false e = refl
same_bool true false e = absurd (true≢false (sym e))
same_bool false true e = absurd (true≢false (sym e))

decided_symm : (a b : Bool) → (a ≡ true → b ≡ true) → (b ≡ true → a ≡ true) → a ≡ b
decided_symm true b f g = sym (f refl)
decided_symm false true f g = absurd (true≢false (sym (g refl)))
decided_symm false false f g = refl

abbrev value_or : {X : Type 0} → X → Option X → X
value_or x None = x
value_or x (Some y) = y

mutual
  -- codes that are one are equal
  pub identical_equal : (c d : Code) → identical c d ≡ true → c ≡ d
  identical_equal absent absent e = refl
  identical_equal (boolean a) (boolean b) e = ap boolean (same_bool a b e)
  identical_equal (number m) (number n) e = ap number ((signed_Decides m n).0 e)
  identical_equal (text s) (text t) e = ap text (same_list s t e)
  identical_equal (list cs) (list ds) e = ap list (items_equal cs ds e)
  identical_equal (node fs) (node gs) e = ap node (fields_equal fs gs e)
  identical_equal c d e = absurd (true≢false (sym e))

  items_equal : (cs ds : Codes) → identical_items cs ds ≡ true → cs ≡ ds
  items_equal no_codes no_codes e = refl
  items_equal (code_before c cs) (code_before d ds) e =
      let h = both (identical c d) (identical_items cs ds) e in
      λ i. code_before (identical_equal c d h.0 i) (items_equal cs ds h.1 i)
  items_equal cs ds e = absurd (true≢false (sym e))

  fields_equal : (fs gs : Fields) → identical_fields fs gs ≡ true → fs ≡ gs
  fields_equal no_fields no_fields e = refl
  fields_equal (field name c no_fields) (field other d no_fields) e =
      let h = both (pointwise ◌==◌ name other) (identical c d) e in
      λ i. field (same_list name other h.0 i) (identical_equal c d h.1 i) no_fields
  fields_equal (field name c (field n1 c1 fs)) (field other d (field m1 d1 gs)) e =
      let h = both (pointwise ◌==◌ name other)
      (identical c d && identical_fields (field n1 c1 fs) (field m1 d1 gs)) e in
      let k = both (identical c d) (identical_fields (field n1 c1 fs) (field m1 d1 gs)) h.1 in
      λ i. field (same_list name other h.0 i) (identical_equal c d k.0 i)
      (fields_equal (field n1 c1 fs) (field m1 d1 gs) k.1 i)
  fields_equal fs gs e = absurd (true≢false (sym e))

-- codes that are the same are equal without their spans
pub same_equal : (c d : Code) → same c d ≡ true → spanless c ≡ spanless d
same_equal c d e = identical_equal (spanless c) (spanless d) e

pub equal_same : (c d : Code) → spanless c ≡ spanless d → same c d ≡ true
equal_same c d e = ap (identical (spanless c)) (sym e) ∙ identical_refl (spanless c)

identical_symm : (c d : Code) → identical c d ≡ identical d c
identical_symm c d = decided_symm (identical c d) (identical d c)
    (λ e. ap (λ w. identical d w) (identical_equal c d e) ∙ identical_refl d)
    (λ e. ap (λ w. identical c w) (identical_equal d c e) ∙ identical_refl c)

identical_equivalence : IsEquivalence identical
identical_equivalence = record {
  refl = identical_refl;
  symm = identical_symm;
  congr = λ x y z e. ap (λ w. identical w z) (identical_equal x y e);
}

pub same_equivalence : IsEquivalence same
same_equivalence = on_equiv spanless identical_equivalence

pub same_partial : IsPartialEquivalence same
same_partial = partial_equiv_from_equiv same_equivalence

some_equal : {X : Type 0} (x y : X) → Some x ≡ Some y → x ≡ y
some_equal x y e = ap (value_or x) e

-- where a tree is read back from its code, and its code without spans is that of the tree without
-- them, sameness of
-- codes is equality of the trees without spans
pub same_is : {Tree : Type 0} (code : Tree → Code) (tree : Code → Option Tree) (bare : Tree → Tree)
    → ((t : Tree) → tree (code t) ≡ Some t) → ((t : Tree) → spanless (code t) ≡ code (bare t))
    → (a b : Tree) → (same (code a) (code b) ≡ true) ↔ (bare a ≡ bare b)
same_is code tree bare read spanless_is a b = (
  λ e. some_equal (bare a) (bare b) (sym (read (bare a)) ∙ ap tree
      (sym (spanless_is a) ∙ same_equal (code a) (code b) e ∙ spanless_is b) ∙ read (bare b)),
  λ e. equal_same (code a) (code b) (spanless_is a ∙ ap code e ∙ sym (spanless_is b)),
)
