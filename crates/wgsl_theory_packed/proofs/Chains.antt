-- Components, elements and operations that follow one another: what is leftmost leads to the rest.
use Rattle.std.proofs.Common.{ℕ, ◌≡◌, refl, ap, Bool, true, false, if◌then◌else◌, List, [], ◌∷◌, ◌++◌, Some, codes}
use Rattle.std.proofs.lemmas.List.{append_assoc}
use Rattle.grammar.specs.Tokens.{Span}
use Rattle.wgsl_model.specs.Printed.Indentation.{after_line_ends}
use Rattle.wgsl_writer.specs.Depth.{spaces}
use Rattle.wgsl_writer.proofs.Indents.{after_append}
use Rattle.wgsl_model_packed.specs.Rules.{chain_rule, component_rule, component_of_int_rule, index_rule, binary_rule, nothing_rule}
use Rattle.wgsl_model_packed.specs.Printing.{packed_text, packed_span, text_of_rule, PrintsBy.rule}
use Rattle.wgsl_theory_packed.specs.Shown.{Shows, Ends, Leads}
use Rattle.wgsl_theory_packed.proofs.Shown.{◌before◌, last, last_closed, after_span, shown_of, shown_plain, shown_text}

-- what fills a place leads to what fills the next
pub leads_of_shows : {d : ℕ} {form printed : List ℕ} → Shows d (codes "$") form printed →
    Leads d form printed
leads_of_shows s = record {
  led = λ places more_form more_printed left h.
      s.shown (36 ∷ places) more_form more_printed left h;
}

-- one more link: its rule, a span and what fills the other places, but for the last
one_more : {d : ℕ} {places first begun ended : List ℕ} (n : ℕ) (span form : List ℕ) →
    text_of_rule n ≡ Some (places ++ codes "$") → Leads d first begun → Ends d places (span ++ form) begun ended →
    Leads d ((first ++ (n ∷ span)) ++ form) ended
one_more {d} {places} {first} {begun} {ended} n span form is leads ends = record {
  led = λ rest more_form more_printed left h.
      let gap = spaces d in
      let text = ends.text in
      rw (
        ← ends.whole,
        append_assoc (first ++ (n ∷ span)) form more_form,
        append_assoc first (n ∷ span) (form ++ more_form),
        after_append gap begun text,
        append_assoc (after_line_ends gap begun) (after_line_ends gap text) more_printed,
      )
      (leads.led rest (n ∷ (span ++ (form ++ more_form))) (after_line_ends gap text ++ more_printed) left
      (rule refl is (rw (append_assoc places (codes "$") rest, ← append_assoc span form more_form)
      (ends.shows.shown (36 ∷ rest) more_form more_printed left h))));
}

-- a component, an element and an operation
pub component_leads : {d : ℕ} {first begun : List ℕ} (of_int : Bool) (s : Span) (component : List ℕ) →
    Leads d first begun →
    Leads d ((first ++ ((if of_int then component_of_int_rule else component_rule) ∷ packed_span s))
    ++ packed_text component)
    (begun ++ (if of_int then codes " ." else codes ".") ++ component)
component_leads true s component leads =
    one_more component_of_int_rule (packed_span s) (packed_text component) refl leads
    (after_span s (shown_plain (codes " .") refl before last (shown_text component)))
component_leads false s component leads =
    one_more component_rule (packed_span s) (packed_text component) refl leads
    (after_span s (shown_plain (codes ".") refl before last (shown_text component)))

pub index_leads : {d : ℕ} {first begun form text : List ℕ} (s : Span) → Leads d first begun →
    Shows d (codes "%$") form text →
    Leads d ((first ++ (index_rule ∷ packed_span s)) ++ form) (begun ++ codes "[" ++ text ++ codes "]")
index_leads {form = form} s leads index = one_more index_rule (packed_span s) form refl leads
    (after_span s (shown_plain (codes "[") refl before last_closed index (shown_plain (codes "]") refl)))

pub binary_leads : {d : ℕ} {first begun form text : List ℕ} (s : Span) (operator : List ℕ) →
    Leads d first begun → Shows d (codes "%$") form text →
    Leads d ((first ++ (binary_rule ∷ packed_span s)) ++ (packed_text operator ++ form))
    (begun ++ codes " " ++ operator ++ codes " " ++ text)
binary_leads {form = form} s operator leads right =
    one_more binary_rule (packed_span s) (packed_text operator ++ form) refl leads
    (after_span s (shown_plain (codes " ") refl before shown_text operator
    before shown_plain (codes " ") refl before last right))

-- all links, and nothing after them
pub chain : {d : ℕ} {form printed : List ℕ} → Leads d form printed →
    Shows d (codes "$") (chain_rule ∷ (form ++ (nothing_rule ∷ []))) printed
chain {d} {form} {printed} leads = record {
  shown = λ places more_form more_printed left h.
      rw (append_assoc form (nothing_rule ∷ []) more_form)
      (rule refl refl (leads.led places (nothing_rule ∷ more_form) more_printed left (rule refl refl h)));
}

-- the same where the last link's parts are before that
pub chain_of_two : {d : ℕ} {printed : List ℕ} (one two : List ℕ) → Leads d (one ++ two) printed →
    Shows d (codes "$") (chain_rule ∷ (one ++ (two ++ (nothing_rule ∷ [])))) printed
chain_of_two one two leads =
    shown_of (ap (λ form. chain_rule ∷ form) (append_assoc one two (nothing_rule ∷ []))) (chain leads)

pub chain_of_three : {d : ℕ} {printed : List ℕ} (one two three : List ℕ) →
    Leads d (one ++ (two ++ three)) printed →
    Shows d (codes "$") (chain_rule ∷ (one ++ (two ++ (three ++ (nothing_rule ∷ []))))) printed
chain_of_three one two three leads = shown_of
    (ap (λ form. chain_rule ∷ (one ++ form)) (append_assoc two three (nothing_rule ∷ [])))
    (chain_of_two one (two ++ three) leads)
