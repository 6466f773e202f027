-- Where template lists end, and what is known of them where no more is known than that they are
-- told.
use Rattle.std.proofs.Common.{◌≡◌, ℕ, suc, ◌+◌, ◌≤◌, List, ◌∷◌, Some, None, inl, inr, drop, length, chars, subst, sym, ap, ◌∙◌, arith}
use Rattle.std.proofs.Math.Logic.{∥∥₁_map, ∥∥₁_elim}
use Rattle.std.specs.Str.{IsUtf8}
use Rattle.std.specs.Coded.{coded_ℕ}
use base.Stored.{Coded-set}
use Rattle.grammar.specs.Tokens.{Token}
use Rattle.wgsl_model.specs.Tokens.Places.{place, width}
use Rattle.wgsl_model.specs.Tokens.Templates.{TemplateRelation, Template, NoTemplate, Inside, at_greater, at_opening, at_closing, at_template, at_other}
use Rattle.wgsl_span.specs.declared.Span.{Span}
use Rattle.wgsl_theory_grammar.proofs.Tokens.Cuts.{EndsWith}
use Rattle.wgsl_theory_grammar.proofs.Tokens.Widths.{within}
use Rattle.wgsl_theory_grammar.proofs.Tokens.Bounds.{template_leaves, inside_leaves}
use Rattle.wgsl_theory_grammar.proofs.Tokens.Decided.{template_decided}
use Rattle.wgsl_theory_grammar.proofs.Tokens.Unique.{template_unique}
use Rattle.wgsl_lex_templates.specs.Spans.{end_from}
use Rattle.wgsl_lex_templates.specs.Lists.{ListEnds, AreLists, AreTold}
use Rattle.wgsl_lex_templates.proofs.TextLists.Begun.{one_wider}
use Rattle.wgsl_lex_templates.proofs.TextLists.Fronts.{greater_first}
use Rattle.wgsl_theory_grammar.proofs.Tokens.Places.{bytes_width}
use Rattle.wgsl_lex_templates.proofs.TextLists.Ends.{tell_end, found_ends, none_found}
use Rattle.wgsl_lex_templates.proofs.TextLists.Listed.{told}

-- ---- where a list ends
-- what ends it begins with `>`
inside_greater : (total : ℕ) (R : TemplateRelation) (depth : ℕ) (text : List ℕ) (ts : List Token) (end : List ℕ)
    → Inside total R depth text ts end → (following : List ℕ) × (end ≡ 62 ∷ following)
inside_greater total R depth text ts end (at_greater t e after kind r g) = greater_first text end after kind r g
inside_greater total R depth text ts end (at_opening d t from after e kind us r g h) =
    inside_greater total R (suc depth) after us end h
inside_greater total R depth text ts end (at_closing d t from after e kind us r g h) =
    inside_greater total R d after us end h
inside_greater total R depth text ts end (at_template d t from after rest e kind us vs r w q h) =
    inside_greater total R depth rest vs end h
inside_greater total R depth text ts end (at_other d t from after e kind us r g n h) =
    inside_greater total R depth after us end h

-- the text after it begins one byte later
pub end_place : (total : ℕ) (text : List ℕ) (ts : List Token) (end : List ℕ) → width text ≤ total
    → Inside total (Template total) 0 text ts end → place total (drop 1 end) ≡ place total end + 1
end_place total text ts end fits i =
    let g = inside_greater total (Template total) 0 text ts end i in
    let e = inside_leaves total (Template total) (template_leaves total) 0 text ts end i in
    let size : width end ≡ width (drop 1 end) + 1 = ap width g.1 ∙ one_wider 62 g.0 (omega arith)
    ∙ ap (λ x. width (drop 1 x) + 1) (sym g.1) in
    omega (arith, size, fits, within text end e)

-- ---- where it is only known that the lists of a text are told
pub known_end : (total : ℕ) (spans : List Span) (text rest : List ℕ) → EndsWith text rest
    → AreTold total spans text → AreTold total spans rest
known_end total spans text rest h known = ∥∥₁_map known (tell_end total spans text rest h)

-- a list that is told begins the text
pub known_some : (total : ℕ) (spans : List Span) (text following : List ℕ) (start end : ℕ)
    → AreTold total spans text → text ≡ 60 ∷ following → start ≡ place total text
    → end_from spans start ≡ Some end → ListEnds total text end
known_some total spans text following start end known first s e = elim (template_decided total text) [
  | inl (ts, rest, q) ↦ (
    ts,
    rest,
    q,
    ∥∥₁_elim known (Coded-set coded_ℕ _ _) (λ tell.
        let h = found_ends total spans text following start end tell first s (sym e) in
        h.3 ∙ ap (place total) (template_unique total text h.0 ts h.1 rest h.2 q).1),
  )
  | inr none ↦ absurd (∥∥₁_elim known (λ x y. absurd x) (λ tell. let h =
      found_ends total spans text following start end tell first s (sym e) in none (h.0, h.1, h.2)))
]

-- and where none is, none does
pub known_none : (total : ℕ) (spans : List Span) (text following : List ℕ) (start : ℕ)
    → AreTold total spans text → text ≡ 60 ∷ following → start ≡ place total text
    → end_from spans start ≡ None → NoTemplate (Template total) text
known_none total spans text following start known first s e ts rest q = ∥∥₁_elim known (λ x y. absurd x)
    (λ tell. none_found total spans text following start tell first s (sym e) ts rest q)

-- the lists of a source are told
pub source_known : (bs : List ℕ) (spans : List Span) → IsUtf8 bs
    → AreLists (width (chars bs)) spans (chars bs) → AreTold (length bs) spans (chars bs)
source_known bs spans u are = subst (λ total. AreTold total spans (chars bs)) (bytes_width bs u)
    ∣ told (width (chars bs)) spans (chars bs) (omega arith) are ∣₁
