-- What is left of a text inside template lists.
use Rattle.std.specs.Prelude.{◌≡◌, ℕ, Bool, true, false, ⊤, List, [], ◌∷◌, drop}
use Rattle.grammar.specs.Tokens.{Token}
use Rattle.grammar.specs.Endings.{Ending, Ending.finished, Ending.carried}
use Rattle.wgsl_model.specs.Tokens.ClassTable.{SymLessThan, TemplateArgsStart, TemplateArgsEnd}
use Rattle.wgsl_model.specs.Tokens.Kind.{Kind, plain, placed}
use Rattle.wgsl_model.specs.Tokens.Raw.{raw, Raw.none_left, Raw.invalid, Raw.token}
use Rattle.wgsl_model.specs.Faults.Kinds.{invalid_token}
use Rattle.wgsl_model.specs.Tokens.Templates.{is_word, NoTemplate, Template}
use Rattle.wgsl_model.specs.Tokens.TokenList.{place}
use Rattle.wgsl_theory_templates.specs.Attempts.{EndsAt}

-- the text is not where the innermost template list ends
abbrev pub IsBeforeEnd : ℕ → List ℕ → List ℕ → Type 0
IsBeforeEnd total [] from = ⊤
IsBeforeEnd total (end ∷ ends) from = place total from ≡ end → ⊥

-- The tokens of a text inside template lists whose ends are known, the innermost first, and how
-- they end; a template list may begin the text where it is after a word.
pub data LeftOf (total : ℕ) : List ℕ → Bool → List ℕ → List Token → Ending → Type 0 where
  left_nothing : (ends : List ℕ) (word : Bool) (text : List ℕ) → raw text ≡ none_left
      → LeftOf total ends word text [] finished
  left_fault : (ends : List ℕ) (word : Bool) (text from after : List ℕ) → raw text ≡ invalid from after
      → LeftOf total ends word text []
      (carried (invalid_token (record { start = place total from; end = place total after })))
  -- the `>` that ends the innermost list is one byte, whatever token it begins
  left_end : (ends : List ℕ) (word : Bool) (text from after : List ℕ) (kind : Kind) (ts : List Token)
      (e : Ending) → raw text ≡ token kind from after → LeftOf total ends false (drop 1 from) ts e
      → LeftOf total (place total from ∷ ends) word text
      (placed (plain TemplateArgsEnd) (place total from) (place total (drop 1 from)) ∷ ts) e
  -- a `<` that begins a list
  left_start : (ends : List ℕ) (text from after end : List ℕ) (kind : Kind) (ts : List Token) (e : Ending)
      → raw text ≡ token kind from after → IsBeforeEnd total ends from → kind.class ≡ SymLessThan
      → EndsAt total after end
      → LeftOf total (place total end ∷ ends) false after ts e → LeftOf total ends true text
      (placed (plain TemplateArgsStart) (place total from) (place total after) ∷ ts) e
  -- every other token
  left_token : (ends : List ℕ) (word : Bool) (text from after : List ℕ) (kind : Kind)
      (ts : List Token) (e : Ending) → raw text ≡ token kind from after
      → IsBeforeEnd total ends from → (word ≡ true → NoTemplate (Template total) text)
      → LeftOf total ends (is_word kind.class) after ts e
      → LeftOf total ends word text (placed kind (place total from) (place total after) ∷ ts) e
