-- What is left of a print.
use Rattle.std.specs.Prelude.{ℕ, List, [], ◌∷◌, ◌++◌, ◌≡◌, ◌+◌, ◌*◌, true, length, map, Result, MatchResult}
use denote.Bor.{Bor}
use Rattle.std.specs.List.{list_all}
use Rattle.wgsl_model_packed.specs.Printing.{PrintsBy, in_place, is_plain}
use Rattle.wgsl_print_packed.specs.Notations.{notation_of}
use Rattle.wgsl_print_packed.specs.declared.error.PackedError.{PackedError}
use Rattle.wgsl_print_packed.specs.declared.error.PackedError.TheVariants as errors
use Rattle.wgsl_print_packed.specs.declared.printer.Printer.{Printer}

-- the texts in a list of them
abbrev pub texts : List (Bor (List ℕ)) → List (List ℕ)
texts = map (λ text. text.now)

-- what is left of texts of rules, each in the one before it
abbrev pub joined : List (Bor (List ℕ)) → List ℕ
joined [] = []
joined (text ∷ texts) = joined texts ++ text.now

-- the places that are still to be filled
abbrev pub places_left : Printer → List ℕ
places_left printer = printer.places.now ++ joined printer.outer.items

-- what is still to be printed is the end of a text
pub record IsLeft (printer : Printer) (text : List ℕ) : Type 0 where
  pub end : List ℕ
  pub whole : text ≡ printer.text.items ++ end
  pub prints : PrintsBy (notation_of printer.notation) printer.depth (places_left printer) printer.form.now end []

-- more is printed, and what the rest prints follows it
pub record HasPrinted (before after : Printer) : Type 0 where
  pub first : List ℕ
  pub wrote : after.text.items ≡ before.text.items ++ first
  pub prints : (end : List ℕ)
      → PrintsBy (notation_of after.notation) after.depth (places_left after) after.form.now end []
      → PrintsBy (notation_of before.notation) before.depth (places_left before) before.form.now (first ++ end) []

-- more of the text is printed, unless an allocation failed
abbrev pub Continues : Printer → Result (Unit {0}) PackedError → Printer → Type 0
Continues before result after = (text : List ℕ) → IsLeft before text →
    MatchResult result (λ _. IsLeft after text) (λ error. error ≡ errors.OutOfMemory)

-- in a place for a rule its text begins with what is printed here, and goes on with some places
pub record Begins (place : ℕ) (text before after places : List ℕ) : Type 0 where
  pub first : List ℕ
  pub wrote : after ≡ before ++ first
  pub plain : list_all is_plain first ≡ true
  pub whole : in_place place text ≡ first ++ places

-- the steps that are left, at most: a rule has fewer than 256 bytes
abbrev pub size : Printer → ℕ
size printer = 256 * length printer.form.now + (length (places_left printer) + length printer.outer.items)
