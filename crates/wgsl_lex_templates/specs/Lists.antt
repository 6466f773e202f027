-- The template lists of a text.
use Rattle.std.specs.Prelude.{◌≡◌, ◌↔◌, ◌==◌, ℕ, List, ◌∷◌, ◌++◌, Some}
use Rattle.std.specs.List.{count_by}
use Rattle.grammar.specs.Tokens.{Token}
use Rattle.wgsl_model.specs.Tokens.Templates.{Template}
use Rattle.wgsl_model.specs.Tokens.Places.{place}
use Rattle.wgsl_span.specs.declared.Span.{Span}
use Rattle.wgsl_lex_templates.specs.Spans.{end_from}

-- a text that ends a source of a number of bytes begins with a template list, and the text after
-- the list begins at the end
abbrev pub ListEnds : ℕ → List ℕ → ℕ → Type 0
ListEnds total text end = (ts : List Token) × (rest : List ℕ) × Template total text ts rest × (end ≡ place total rest)

-- the same from a `<` in the text, which is at the start
abbrev pub IsListIn : ℕ → List ℕ → ℕ → ℕ → Type 0
IsListIn total text start end = (before following : List ℕ) × (text ≡ before ++ (60 ∷ following))
    × (start ≡ place total (60 ∷ following)) × ListEnds total (60 ∷ following) end

-- of each `<` in a text, the spans tell whether a template list begins there, and where it ends
abbrev pub TellLists : ℕ → List Span → List ℕ → Type 0
TellLists total spans text = (before following : List ℕ) (end : ℕ) → text ≡ before ++ (60 ∷ following)
    → end_from spans (place total (60 ∷ following)) ≡ Some end ↔ ListEnds total (60 ∷ following) end

-- this holds; how is of no account
abbrev pub AreTold : ℕ → List Span → List ℕ → Type 0
AreTold total spans text = ∥ TellLists total spans text ∥₁

-- the spans are the template lists of a text
abbrev pub AreLists : ℕ → List Span → List ℕ → Type 0
AreLists total spans text = (start end : ℕ) → end_from spans start ≡ Some end ↔ IsListIn total text start end

-- how many `<` a text has
abbrev pub less_than_signs : List ℕ → ℕ
less_than_signs text = count_by (λ c. c == 60) text
