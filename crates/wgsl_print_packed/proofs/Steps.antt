-- What a text with places prints, place by place.
use Rattle.std.proofs.Common.{◌+◌, ◌*◌, length-append, ◌≡◌, ℕ, zero, suc, ◌<◌, ◌≤◌, refl, sym, ap, ◌∙◌, subst, true, false, true≢false, List, [], ◌∷◌, ◌++◌, length, take, drop, get_or, append_assoc, Some, arith}
use denote.Bor.{Bor}
use Rattle.std.specs.List.{list_all}
use Rattle.std.proofs.lemmas.Bool.{and_parts}
use Rattle.std.proofs.lemmas.Bool.Decides.{nat_tests}
use Rattle.std.proofs.lemmas.List.{append-nil}
use Rattle.grammar.specs.Tokens.{Span}
use Rattle.wgsl_writer.specs.Depth.{spaces}
use Rattle.wgsl_print_packed.specs.Printing.{joined}
use Rattle.wgsl_print_packed.proofs.Printed.{same_prints}
use Rattle.wgsl_model_packed.specs.Printing.{Notation, PrintsBy, ended, plain, line_break, deeper, back, text, span, rule, is_plain, is_rule, in_place, packed_text, packed_span, text_in}

-- what is printed first, and how the rest is
pub record Then (notation : Notation) (depth : ℕ) (places form first printed left : List ℕ) : Type 0 where
  pub end : List ℕ
  pub whole : printed ≡ first ++ end
  pub prints : PrintsBy notation depth places form end left

abbrev head_of : List ℕ → ℕ
head_of [] = 0
head_of (b ∷ bs) = b

abbrev tail_of : List ℕ → List ℕ
tail_of [] = []
tail_of (b ∷ bs) = bs

-- a plain byte is no place
not_plain : (b c : ℕ) (bs cs : List ℕ) → is_plain b ≡ true → is_plain c ≡ false → b ∷ bs ≡ c ∷ cs → ⊥
not_plain b c bs cs is not e = true≢false (sym is ∙ ap (λ (l : List ℕ). is_plain (head_of l)) e ∙ not)

-- a place for a rule is another byte than one for something else
not_rule : (b c : ℕ) (bs cs : List ℕ) → is_rule b ≡ true → is_rule c ≡ false → b ∷ bs ≡ c ∷ cs → ⊥
not_rule b c bs cs is not e = true≢false (sym is ∙ ap (λ (l : List ℕ). is_rule (head_of l)) e ∙ not)

-- no place for a rule is printed as it is
not_both : (b : ℕ) → is_plain b ≡ true → is_rule b ≡ true → ⊥
not_both b one other = grind (arith, nat_tests)

no_rule : false ≡ true → ⊥
no_rule e = true≢false (sym e)

-- with no places nothing is printed
pub none_left : {notation : Notation} {depth : ℕ} {places form printed left : List ℕ} → PrintsBy notation depth places form printed left
    → places ≡ [] → (printed ≡ []) × (form ≡ left)
none_left ended e = (refl, refl)
none_left (plain is p) e = absurd (cc)
none_left (line_break p) e = absurd (cc)
none_left (deeper p) e = absurd (cc)
none_left (back p) e = absurd (cc)
none_left (text bytes p) e = absurd (cc)
none_left (span s p) e = absurd (cc)
none_left (rule one is p) e = absurd (cc)

-- a text that is next in the form
pub record TextNext (notation : Notation) (depth : ℕ) (places form printed left : List ℕ) : Type 0 where
  pub bytes : List ℕ
  pub more : List ℕ
  pub taken : form ≡ packed_text bytes ++ more
  pub then : Then notation depth places more (notation.text depth bytes) printed left

-- a span that is next in the form
pub record SpanNext (notation : Notation) (depth : ℕ) (places form printed left : List ℕ) : Type 0 where
  pub span : Span
  pub more : List ℕ
  pub taken : form ≡ packed_span span ++ more
  pub then : Then notation depth places more (notation.span span) printed left

-- a rule whose number is next in the form
pub record RuleNext (notation : Notation) (depth place : ℕ) (places form printed left : List ℕ) : Type 0 where
  pub number : ℕ
  pub more : List ℕ
  pub text : List ℕ
  pub taken : form ≡ number ∷ more
  pub found : text_in notation.texts number ≡ Some text
  pub prints : PrintsBy notation depth (in_place place text ++ places) more printed left

-- ---- the first place

pub plain_next : {notation : Notation} (depth b : ℕ) (rest : List ℕ) {all form printed left : List ℕ} → is_plain b ≡ true
    → PrintsBy notation depth all form printed left → all ≡ b ∷ rest → Then notation depth rest form (b ∷ []) printed left
plain_next {notation} depth b rest h (plain {b = c} {places = places} {form = form} {printed = printed} {left = left} is p) e =
    let first : c ≡ b = ap head_of e in
    let others : places ≡ rest = ap tail_of e in
    record {
      end = printed;
      whole = ap (λ x. x ∷ printed) first;
      prints = subst (λ (z : List ℕ). PrintsBy notation depth z form printed left) others p;
    }
plain_next {notation} depth b rest h (rule one is p) e = absurd (not_both b h (ap is_rule (sym (ap head_of e)) ∙ one))
plain_next {notation} depth b rest h _ e = absurd (cc)

pub line_next : {notation : Notation} (depth : ℕ) (rest : List ℕ) {all form printed left : List ℕ}
    → PrintsBy notation depth all form printed left → all ≡ 10 ∷ rest → Then notation depth rest form (10 ∷ spaces depth) printed left
line_next {notation} depth rest (plain is p) e = absurd (not_plain _ _ _ _ is refl e)
line_next {notation} depth rest (line_break {places = places} {form = form} {printed = printed} {left = left} p) e =
    let others : places ≡ rest = ap tail_of e in
    record {
      end = printed;
      whole = refl;
      prints = subst (λ (z : List ℕ). PrintsBy notation depth z form printed left) others p;
    }
line_next {notation} depth rest (rule one is p) e = absurd (not_rule _ _ _ _ one refl e)
line_next {notation} depth rest _ e = let apart = ap head_of e in absurd (omega (arith, apart))

pub text_next : {notation : Notation} (depth : ℕ) (rest : List ℕ) {all form printed left : List ℕ}
    → PrintsBy notation depth all form printed left → all ≡ 35 ∷ rest → TextNext notation depth rest form printed left
text_next {notation} depth rest (plain is p) e = absurd (not_plain _ _ _ _ is refl e)
text_next {notation} depth rest (text {places = places} {form = form} {printed = printed} {left = left} bytes p) e =
    let others : places ≡ rest = ap tail_of e in
    record {
      bytes = bytes;
      more = form;
      taken = refl;
      then = record {
        end = printed;
        whole = refl;
        prints = subst (λ (z : List ℕ). PrintsBy notation depth z form printed left) others p;
      };
    }
text_next {notation} depth rest (rule one is p) e = absurd (not_rule _ _ _ _ one refl e)
text_next {notation} depth rest _ e = let apart = ap head_of e in absurd (omega (arith, apart))

pub span_next : {notation : Notation} (depth : ℕ) (rest : List ℕ) {all form printed left : List ℕ}
    → PrintsBy notation depth all form printed left → all ≡ 37 ∷ rest → SpanNext notation depth rest form printed left
span_next {notation} depth rest (plain is p) e = absurd (not_plain _ _ _ _ is refl e)
span_next {notation} depth rest (span {places = places} {form = form} {printed = printed} {left = left} s p) e =
    let others : places ≡ rest = ap tail_of e in
    record {
      span = s;
      more = form;
      taken = refl;
      then = record {
        end = printed;
        whole = refl;
        prints = subst (λ (z : List ℕ). PrintsBy notation depth z form printed left) others p;
      };
    }
span_next {notation} depth rest (rule one is p) e = absurd (not_rule _ _ _ _ one refl e)
span_next {notation} depth rest _ e = let apart = ap head_of e in absurd (omega (arith, apart))

pub rule_next : {notation : Notation} (depth place : ℕ) (rest : List ℕ) {all form printed left : List ℕ}
    → is_rule place ≡ true → PrintsBy notation depth all form printed left → all ≡ place ∷ rest
    → RuleNext notation depth place rest form printed left
rule_next {notation} depth place rest h (rule {b = b} {n = n} {places = places} {form = form} {printed = printed} {left = left} {text = content} one is p) e =
    let first : b ≡ place = ap head_of e in
    let others : places ≡ rest = ap tail_of e in
    record {
      number = n;
      more = form;
      text = content;
      taken = refl;
      found = is;
      prints = subst (λ (z : ℕ). PrintsBy notation depth (in_place z content ++ rest) form printed left) first
          (subst (λ (z : List ℕ). PrintsBy notation depth (in_place b content ++ z) form printed left) others p);
    }
rule_next {notation} depth place rest h ended e = absurd (cc)
rule_next {notation} depth place rest h (plain {b = b} is p) e = absurd (not_both b is (ap is_rule (ap head_of e) ∙ h))
rule_next {notation} depth place rest h (line_break p) e = absurd (no_rule (ap is_rule (ap head_of e) ∙ h))
rule_next {notation} depth place rest h (deeper p) e = absurd (no_rule (ap is_rule (ap head_of e) ∙ h))
rule_next {notation} depth place rest h (back p) e = absurd (no_rule (ap is_rule (ap head_of e) ∙ h))
rule_next {notation} depth place rest h (text bytes p) e = absurd (no_rule (ap is_rule (ap head_of e) ∙ h))
rule_next {notation} depth place rest h (span s p) e = absurd (no_rule (ap is_rule (ap head_of e) ∙ h))

-- ---- bytes that are printed as they are

pub plain_run : {notation : Notation} (depth n : ℕ) (places after : List ℕ) {form printed left : List ℕ} → n ≤ length places
    → ((k : ℕ) → k < n → is_plain (get_or places k 0) ≡ true)
    → PrintsBy notation depth (places ++ after) form printed left
    → Then notation depth (drop n places ++ after) form (take n places) printed left
plain_run {notation} depth zero places after {printed = printed} h all p = record { end = printed; whole = refl; prints = p }
plain_run {notation} depth (suc n) [] after h all p = absurd (omega (arith, h))
plain_run {notation} depth (suc n) (b ∷ places) after h all p =
    let one = plain_next depth b (places ++ after) (all 0 (omega arith)) p refl in
    let others = plain_run depth n places after (omega (arith, h))
    (λ k low. all (suc k) (omega (arith, low))) one.prints in
    record {
      end = others.end;
      whole = one.whole ∙ ap (λ (z : List ℕ). b ∷ z) others.whole;
      prints = others.prints;
    }

-- bytes at the front that are printed as they are
pub first_next : {notation : Notation} (depth : ℕ) (first after : List ℕ) {form printed left : List ℕ}
    → list_all is_plain first ≡ true → PrintsBy notation depth (first ++ after) form printed left
    → Then notation depth after form first printed left
first_next {notation} depth [] after {printed = printed} all p = record { end = printed; whole = refl; prints = p }
first_next {notation} depth (b ∷ first) after all p =
    let both = and_parts (is_plain b) (list_all is_plain first) all in
    let one = plain_next depth b (first ++ after) both.0 p refl in
    let others = first_next depth first after both.1 one.prints in
    record {
      end = others.end;
      whole = one.whole ∙ ap (λ (z : List ℕ). b ∷ z) others.whole;
      prints = others.prints;
    }

-- what a rule prints in its place, once what it begins with is printed
pub rule_taken : {notation : Notation} (depth place number : ℕ) (form form' places rest content first inner outer outer' : List ℕ)
    {printed left : List ℕ} → form ≡ number ∷ form' → is_rule place ≡ true → text_in notation.texts number ≡ Some content
    → in_place place content ≡ first ++ inner → list_all is_plain first ≡ true → places ≡ place ∷ rest
    → outer' ≡ rest ++ outer → PrintsBy notation depth (places ++ outer) form printed left
    → Then notation depth (inner ++ outer') form' first printed left
rule_taken {notation} depth place number form form' places rest content first inner outer outer' e one is same all at kept p =
    let after = rest ++ outer in
    let next = rule_next depth place after one p (ap (λ (z : List ℕ). z ++ outer) at) in
    let numbers : number ∷ form' ≡ next.number ∷ next.more = sym e ∙ next.taken in
    let number_is : number ≡ next.number = ap head_of numbers in
    let form_is : form' ≡ next.more = ap tail_of numbers in
    let texts : Some content ≡ Some next.text = sym is ∙ ap (text_in notation.texts) number_is ∙ next.found in
    let text_is : content ≡ next.text = cc in
    let places_are = ap (λ (z : List ℕ). in_place place z ++ after) (sym text_is) ∙ ap (λ (z : List ℕ). z ++ after) same
    ∙ append_assoc first inner after ∙ ap (λ (z : List ℕ). first ++ (inner ++ z)) (sym kept) in
    first_next depth first (inner ++ outer') all (same_prints depth places_are (sym form_is) refl next.prints)

-- what was written, and what is written then
pub further : (whole old new end first end' : List ℕ) → whole ≡ old ++ end → end ≡ first ++ end'
    → new ≡ old ++ first → whole ≡ new ++ end'
further whole old new end first end' is cut wrote =
    is ∙ ap (λ (z : List ℕ). old ++ z) cut ∙ sym (append_assoc old first end')
    ∙ ap (λ (z : List ℕ). z ++ end') (sym wrote)

-- ---- texts that are left

pub joined-push : (outer : List (Bor (List ℕ))) (rest : Bor (List ℕ))
    → joined (outer ++ (rest ∷ [])) ≡ rest.now ++ joined outer
joined-push [] rest = sym (append-nil rest.now)
joined-push (first ∷ outer) rest =
    ap (λ (z : List ℕ). z ++ first.now) (joined-push outer rest) ∙ append_assoc rest.now (joined outer) first.now

-- ---- how much is left

-- a text in a place has four bytes more at most
in_place-length : (place : ℕ) (text : List ℕ) → length (in_place place text) ≤ length text + 4
in_place-length place [] = grind (arith, nat_tests)
in_place-length place (b ∷ bs) = grind (arith, nat_tests)

-- the text of a rule has fewer bytes than 256 times what its number takes from the form
pub less_of_rule : (place : ℕ) (form form' places rest content first inner outer outer' : List ℕ) (n n' : ℕ)
    → length form' + 1 ≡ length form → length content < 128 → in_place place content ≡ first ++ inner
    → places ≡ place ∷ rest → outer' ≡ rest ++ outer → n' ≤ n + 1
    → 256 * length form' + (length (inner ++ outer') + n') < 256 * length form + (length (places ++ outer) + n)
less_of_rule place form form' places rest content first inner outer outer' n n' shorter short same is kept more =
    let a : length (inner ++ outer') ≡ length inner + length outer' = length-append inner outer' in
    let b : length (places ++ outer) ≡ length places + length outer = length-append places outer in
    let d : length (rest ++ outer) ≡ length rest + length outer = length-append rest outer in
    let e : length places ≡ suc (length rest) = ap length is in
    let f : length outer' ≡ length (rest ++ outer) = ap length kept in
    let g : length (in_place place content) ≡ length (first ++ inner) = ap length same in
    let h : length (first ++ inner) ≡ length first + length inner = length-append first inner in
    let i = in_place-length place content in
    omega arith

-- a text that is left comes after one of which nothing is
pub places_of_pop : (places : List ℕ) (outer outer' : List (Bor (List ℕ))) (next : Bor (List ℕ))
    → length places ≡ 0 → outer ≡ outer' ++ (next ∷ []) → places ++ joined outer ≡ next.now ++ joined outer'
places_of_pop [] outer outer' next none is = ap joined is ∙ joined-push outer' next
places_of_pop (b ∷ places) outer outer' next none is = absurd (omega (arith, none))

pub less_of_pop : (form places : List ℕ) (outer outer' : List (Bor (List ℕ))) (next : Bor (List ℕ))
    → length places ≡ 0 → outer ≡ outer' ++ (next ∷ [])
    → 256 * length form + (length (next.now ++ joined outer') + length outer')
    < 256 * length form + (length (places ++ joined outer) + length outer)
less_of_pop form places outer outer' next none is =
    let same : length (places ++ joined outer) ≡ length (next.now ++ joined outer') =
    ap length (places_of_pop places outer outer' next none is) in
    let fewer : length outer ≡ length outer' + 1 = ap length is ∙ length-append outer' (next ∷ []) in
    omega arith

-- if nothing is left of any text, all is printed
pub all_printed : {notation : Notation} {depth : ℕ} {form end : List ℕ} (places whole text : List ℕ) (outer : List (Bor (List ℕ)))
    → length places ≡ 0 → length outer ≡ 0 → whole ≡ text ++ end
    → PrintsBy notation depth (places ++ joined outer) form end [] → (text ≡ whole) × (form ≡ [])
all_printed [] whole written [] h k is p =
    let none = none_left p refl in
    (sym (is ∙ ap (λ (z : List ℕ). written ++ z) none.0 ∙ append-nil written), none.1)
all_printed (b ∷ places) whole written outer h k is p = absurd (omega (arith, h))
all_printed places whole written (b ∷ outer) h k is p = absurd (omega (arith, k))
