-- Whether a source begins with a template list, by the lists of the source.
use Rattle.std.proofs.Common.{◌≡◌, ◌↔◌, ◌∙◌, sym, ap, subst, ℕ, List, ◌++◌, drop, Option, Some, None, IsTrue, refl, arith}
use Rattle.std.specs.Prelude.{is_some}
use Rattle.wgsl_model.specs.Tokens.Kind.{Kind}
use Rattle.wgsl_model.specs.Tokens.Raw.{token, raw}
use Rattle.wgsl_model.specs.Tokens.Templates.{Template}
use Rattle.wgsl_model.specs.Tokens.TokenList.{place, width}
use Rattle.wgsl_span.specs.declared.Span.{Span}
use Rattle.wgsl_theory_grammar.proofs.Tokens.Cuts.{cut_at}
use Rattle.wgsl_theory_grammar.proofs.Tokens.Unique.{marked}
use Rattle.wgsl_lex_templates.specs.Spans.{end_from}
use Rattle.wgsl_lex_templates.specs.Lists.{AreLists}
use Rattle.wgsl_lex_templates.proofs.TextLists.Fronts.{raw_again, less_first}
use Rattle.wgsl_theory_grammar.proofs.Tokens.Places.{same_place}
use Rattle.wgsl_theory_templates.proofs.Swaps.Attempts.{list_front, front_list}
use Rattle.wgsl_lexer.specs.Left.{BeginsWithList}

-- a list that starts where the first token does
found_list : (source from after : List ℕ) (kind : Kind) (spans : List Span) (start end : ℕ)
    → raw source ≡ token kind from after → AreLists (width source) spans source
    → start ≡ place (width source) from → end_from spans start ≡ Some end → BeginsWithList source
found_list source from after kind spans start end r are s e =
    let total = width source in
    let h = (are start end).0 e in
    let cut = cut_at source from after kind r in
    let same = same_place total source h.0 cut.0.0 _ from (omega arith) h.2 cut.0.1 (sym h.3 ∙ s) in
    let q = subst (λ x. Template total x h.4.0 h.4.1) same h.4.2 in
    let f = list_front total from from after kind h.4.0 h.4.1 (raw_again source from after kind r) q in
    (marked total from after f.2.0 f.1, drop 1 f.1, front_list total source from after f.1 kind r f.0 f.2)

-- and the list at the front is one
list_found : (source from after : List ℕ) (kind : Kind) (spans : List Span) (start : ℕ)
    → raw source ≡ token kind from after → AreLists (width source) spans source
    → start ≡ place (width source) from → BeginsWithList source
    → (end : ℕ) × (end_from spans start ≡ Some end)
list_found source from after kind spans start r are s (ts, rest, q) =
    let total = width source in
    let f = list_front total source from after kind ts rest r q in
    let less = less_first source from after kind r f.0 in
    let cut = cut_at source from after kind r in
    let list = front_list total from from after f.1 kind (raw_again source from after kind r) f.0 f.2 in (
      place total (drop 1 f.1),
      (are start (place total (drop 1 f.1))).1 (
        cut.0.0,
        less.0,
        cut.0.1 ∙ ap (λ x. cut.0.0 ++ x) less.1,
        s ∙ ap (place total) less.1,
        (
          marked total from after f.2.0 f.1,
          drop 1 f.1,
          subst (λ x. Template total x (marked total from after f.2.0 f.1) (drop 1 f.1)) less.1 list,
          refl,
        ),
      ),
    )

by_found : (A : Type 0) (found : Option ℕ) → ((end : ℕ) → found ≡ Some end → A)
    → (A → (end : ℕ) × (found ≡ Some end)) → IsTrue (is_some found) ↔ A
by_found A None f g = ((λ x. absurd cc), (λ a. let h = g a in let no = h.1 in absurd cc))
by_found A (Some end) f g = ((λ x. f end refl), (λ a. refl))

pub recognized : (source from after : List ℕ) (kind : Kind) (spans : List Span) (start : ℕ)
    → raw source ≡ token kind from after → AreLists (width source) spans source
    → start ≡ place (width source) from
    → IsTrue (is_some (end_from spans start)) ↔ BeginsWithList source
recognized source from after kind spans start r are s =
    by_found (BeginsWithList source) (end_from spans start)
    (λ end e. found_list source from after kind spans start end r are s e)
    (list_found source from after kind spans start r are s)
