-- What is printed before the rest, place by place.
use Rattle.std.proofs.Common.{◌≡◌, ℕ, zero, suc, ◌+◌, ◌-◌, ◌<◌, ◌≤◌, refl, sym, ap, ◌∙◌, subst, true, List, [], ◌∷◌, ◌++◌, length, take, drop, get_or, Some, append_assoc, arith}
use Rattle.std.specs.List.{list_all}
use Rattle.std.proofs.lemmas.Bool.{and_parts}
use denote.Bor.{Bor}
use Rattle.wgsl_print_packed.specs.Printing.{joined}
use Rattle.grammar.specs.Tokens.{Span}
use Rattle.wgsl_writer.specs.Depth.{spaces}
use Rattle.wgsl_model_packed.specs.Printing.{Notation, PrintsBy, plain, line_break, deeper, back, text, span, rule, is_plain, is_rule, in_place, packed_text, packed_span, text_in}

module _ {notation : Notation} {left : List ℕ} where
  -- the same of equal texts and forms
  pub same_prints : (depth : ℕ) {places places' form form' printed printed' : List ℕ} → places ≡ places' → form ≡ form'
      → printed ≡ printed' → PrintsBy notation depth places form printed left → PrintsBy notation depth places' form' printed' left
  same_prints depth {places} {places'} {form} {form'} {printed} {printed'} a b d p =
      subst (λ (z : List ℕ). PrintsBy notation depth places' form' z left) d
      (subst (λ (z : List ℕ). PrintsBy notation depth places' z printed left) b
      (subst (λ (z : List ℕ). PrintsBy notation depth z form printed left) a p))

  -- bytes at the front that are printed as they are
  pub first_printed : (depth : ℕ) (form first places end : List ℕ) → list_all is_plain first ≡ true
      → PrintsBy notation depth places form end left → PrintsBy notation depth (first ++ places) form (first ++ end) left
  first_printed depth form [] places end all p = p
  first_printed depth form (b ∷ first) places end all p =
      let both = and_parts (is_plain b) (list_all is_plain first) all in
      plain both.0 (first_printed depth form first places end both.1 p)

  pub rule_printed : (depth place number : ℕ) (form form' places rest content first inner outer outer' end : List ℕ)
      → form ≡ number ∷ form' → is_rule place ≡ true → text_in notation.texts number ≡ Some content
      → in_place place content ≡ first ++ inner → list_all is_plain first ≡ true → places ≡ place ∷ rest
      → outer' ≡ rest ++ outer → PrintsBy notation depth (inner ++ outer') form' end left
      → PrintsBy notation depth (places ++ outer) form (first ++ end) left
  rule_printed depth place number form form' places rest content first inner outer outer' end e one is same all at kept p =
      same_prints depth (ap (λ (z : List ℕ). z ++ outer) (sym at)) (sym e) refl
      (rule one is (same_prints depth
      (sym (append_assoc first inner outer') ∙ ap (λ (z : List ℕ). z ++ outer') (sym same)
      ∙ ap (λ (z : List ℕ). in_place place content ++ z) kept) refl refl
      (first_printed depth form' first (inner ++ outer') end all p)))

  pub text_printed : (depth : ℕ) (form form' places rest bytes outer end : List ℕ)
      → form ≡ packed_text bytes ++ form' → places ≡ 35 ∷ rest → PrintsBy notation depth (rest ++ outer) form' end left
      → PrintsBy notation depth (places ++ outer) form (notation.text depth bytes ++ end) left
  text_printed depth form form' places rest bytes outer end e at p =
      same_prints depth (ap (λ (z : List ℕ). z ++ outer) (sym at)) (sym e) refl (text bytes p)

  pub span_printed : (depth : ℕ) (form form' places rest outer end : List ℕ) (s : Span)
      → form ≡ packed_span s ++ form' → places ≡ 37 ∷ rest → PrintsBy notation depth (rest ++ outer) form' end left
      → PrintsBy notation depth (places ++ outer) form (notation.span s ++ end) left
  span_printed depth form form' places rest outer end s e at p =
      same_prints depth (ap (λ (z : List ℕ). z ++ outer) (sym at)) (sym e) refl (span s p)

  pub line_printed : (depth : ℕ) (form places rest outer end : List ℕ)
      → places ≡ 10 ∷ rest → PrintsBy notation depth (rest ++ outer) form end left
      → PrintsBy notation depth (places ++ outer) form ((10 ∷ spaces depth) ++ end) left
  line_printed depth form places rest outer end at p =
      same_prints depth (ap (λ (z : List ℕ). z ++ outer) (sym at)) refl refl (line_break p)

  pub deeper_printed : (depth levels : ℕ) (form places rest outer end : List ℕ) → levels ≡ depth + 1
      → places ≡ 94 ∷ rest → PrintsBy notation levels (rest ++ outer) form end left
      → PrintsBy notation depth (places ++ outer) form end left
  deeper_printed depth levels form places rest outer end more at p =
      let e : levels ≡ suc depth = omega (arith, more) in
      same_prints depth (ap (λ (z : List ℕ). z ++ outer) (sym at)) refl refl
      (deeper (subst (λ (d : ℕ). PrintsBy notation d (rest ++ outer) form end left) e p))

  pub back_printed : (depth levels : ℕ) (form places rest outer end : List ℕ) → 1 ≤ depth → levels ≡ depth - 1
      → places ≡ 126 ∷ rest → PrintsBy notation levels (rest ++ outer) form end left
      → PrintsBy notation depth (places ++ outer) form end left
  back_printed depth levels form places rest outer end some less at p =
      let e : suc levels ≡ depth = omega (arith, some, less) in
      subst (λ (d : ℕ). PrintsBy notation d (places ++ outer) form end left) e
      (same_prints (suc levels) (ap (λ (z : List ℕ). z ++ outer) (sym at)) refl refl (back p))

  pub plain_printed : (depth n : ℕ) (form places outer end : List ℕ) → n ≤ length places
      → ((k : ℕ) → k < n → is_plain (get_or places k 0) ≡ true)
      → PrintsBy notation depth (drop n places ++ outer) form end left
      → PrintsBy notation depth (places ++ outer) form (take n places ++ end) left
  plain_printed depth zero form places outer end h all p = p
  plain_printed depth (suc n) form [] outer end h all p = absurd (omega (arith, h))
  plain_printed depth (suc n) form (b ∷ places) outer end h all p = plain (all 0 (omega arith))
      (plain_printed depth n form places outer end (omega (arith, h)) (λ k low. all (suc k) (omega (arith, low))) p)

-- nothing is left of any text
pub no_places : (places : List ℕ) (outer : List (Bor (List ℕ))) → length places ≡ 0 → length outer ≡ 0
    → places ++ joined outer ≡ []
no_places [] [] h k = refl
no_places [] (inner ∷ outer) h k = absurd (omega (arith, k))
no_places (b ∷ places) outer h k = absurd (omega (arith, h))
