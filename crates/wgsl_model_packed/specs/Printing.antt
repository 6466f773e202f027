-- What is printed of a packed form: the number of a rule is replaced by the text of the rule, and
-- what fills the places of the text is taken from the form in turn. By the texts of WGSL that is the
-- source of a tree, and by those of JSON its JSON.
use Rattle.std.specs.Prelude.{ℕ, zero, suc, ◌≡◌, ◌==◌, ◌++◌, Bool, false, true, if◌then◌else◌, List, [], ◌∷◌, Option, Some, None, codes, length}
use Rattle.std.specs.Int.{w64, to_le_bytes}
use Rattle.grammar.specs.Tokens.{Span}
use Rattle.wgsl_model.specs.Printed.Indentation.{after_line_ends}
use Rattle.wgsl_writer.specs.Depth.{spaces}
use Rattle.wgsl_model_packed.specs.Json.{escaped, span_json}
use Rattle.wgsl_model_packed.specs.JsonRules.{json_rules}
use Rattle.wgsl_model_packed.specs.Rules.{rules}

-- a number below 2^64: 8 bytes, the lowest first
abbrev pub packed_number : ℕ → List ℕ
packed_number n = to_le_bytes w64 n

-- a text: how many bytes it has, and these
abbrev pub packed_text : List ℕ → List ℕ
packed_text bytes = packed_number (length bytes) ++ bytes

-- a span: where it starts, and where it ends
abbrev pub packed_span : Span → List ℕ
packed_span span = packed_number span.start ++ packed_number span.end

-- the text of a rule, by its number
abbrev pub text_in : List (List ℕ) → ℕ → Option (List ℕ)
text_in [] n = None
text_in (text ∷ texts) zero = Some text
text_in (text ∷ texts) (suc n) = text_in texts n

-- what forms are printed as: the texts of the rules, what is printed of a text at a depth, and what
-- of a span
pub record Notation : Type 0 where
  pub texts : List (List ℕ)
  pub text : ℕ → List ℕ → List ℕ
  pub span : Span → List ℕ

abbrev pub wgsl : Notation
wgsl = record {
  texts = rules;
  text = λ depth bytes. after_line_ends (spaces depth) bytes;
  span = λ s. [];
}

abbrev pub json : Notation
json = record { texts = json_rules; text = λ depth bytes. escaped bytes; span = span_json }

abbrev pub text_of_rule : ℕ → Option (List ℕ)
text_of_rule = text_in rules

-- a byte of a rule that is printed as it is: none of LF `#` `$` `%` `&` `?` `^` `~`
abbrev pub is_plain : ℕ → Bool
is_plain b =
    if b == 10 then false else if b == 35 then false else if b == 36 then false
    else if b == 37 then false else if b == 38 then false else if b == 63 then false
    else if b == 94 then false else if b == 126 then false else true

-- a byte of a rule in whose place another rule is printed: `$` `&` `?`
abbrev pub is_rule : ℕ → Bool
is_rule b = if b == 36 then true else if b == 38 then true else if b == 63 then true else false

-- a text after a comma, unless it is empty
abbrev pub after_comma : List ℕ → List ℕ
after_comma [] = []
after_comma (b ∷ bs) = 44 ∷ b ∷ bs

-- a text, or `null` if it is empty
abbrev pub or_null : List ℕ → List ℕ
or_null [] = codes "null"
or_null (b ∷ bs) = b ∷ bs

-- the text of a rule in a place for one
abbrev pub in_place : ℕ → List ℕ → List ℕ
in_place b text = if b == 38 then after_comma text else if b == 63 then or_null text else text

-- at a depth, a text with places that are filled from the front of a form is printed as a text,
-- and this is left of the form
pub data PrintsBy (notation : Notation) : ℕ → List ℕ → List ℕ → List ℕ → List ℕ → Type 0 where
  -- nothing
  ended : {depth : ℕ} {form : List ℕ} → PrintsBy notation depth [] form [] form
  -- a byte that is printed as it is
  plain : {depth b : ℕ} {places form printed left : List ℕ} → is_plain b ≡ true →
      PrintsBy notation depth places form printed left →
      PrintsBy notation depth (b ∷ places) form (b ∷ printed) left
  -- LF: a line break, and the spaces of the depth
  line_break : {depth : ℕ} {places form printed left : List ℕ} →
      PrintsBy notation depth places form printed left →
      PrintsBy notation depth (10 ∷ places) form (10 ∷ (spaces depth ++ printed)) left
  -- `^`: a level more
  deeper : {depth : ℕ} {places form printed left : List ℕ} →
      PrintsBy notation (suc depth) places form printed left →
      PrintsBy notation depth (94 ∷ places) form printed left
  -- `~`: a level less
  back : {depth : ℕ} {places form printed left : List ℕ} →
      PrintsBy notation depth places form printed left →
      PrintsBy notation (suc depth) (126 ∷ places) form printed left
  -- `#`: a text
  text : {depth : ℕ} {places form printed left : List ℕ} (bytes : List ℕ) →
      PrintsBy notation depth places form printed left →
      PrintsBy notation depth (35 ∷ places) (packed_text bytes ++ form)
      (notation.text depth bytes ++ printed) left
  -- `%`: a span
  span : {depth : ℕ} {places form printed left : List ℕ} (s : Span) →
      PrintsBy notation depth places form printed left →
      PrintsBy notation depth (37 ∷ places) (packed_span s ++ form) (notation.span s ++ printed) left
  -- `$`, `&` or `?`: a rule
  rule : {depth b n : ℕ} {places form printed left text : List ℕ} → is_rule b ≡ true →
      text_in notation.texts n ≡ Some text →
      PrintsBy notation depth (in_place b text ++ places) form printed left →
      PrintsBy notation depth (b ∷ places) (n ∷ form) printed left

-- the same as WGSL
abbrev pub Prints : ℕ → List ℕ → List ℕ → List ℕ → List ℕ → Type 0
Prints = PrintsBy wgsl

-- a text is the JSON of a form
abbrev pub IsJsonOf : List ℕ → List ℕ → Type 0
IsJsonOf form printed = PrintsBy json 0 (codes "$") form printed []
