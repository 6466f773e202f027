-- How deep the lines of a text are that begin with a token.
use Rattle.std.specs.Prelude.{◌≡◌, ℕ, zero, suc, Bool, true, false, not, ◌||◌, ◌==◌, if◌then◌else◌, List, [], ◌∷◌, ◌++◌, drop, Option, Some, None}
use Rattle.std.specs.Option.{option_map}
use Rattle.grammar.specs.Tokens.{Token}
use Rattle.grammar.specs.Grammar.{is_among}
use Rattle.grammar.specs.Endings.{Ending.finished}
use Rattle.wgsl_model.specs.Tokens.ClassTable.{SymComma, SymParenLeft, SymParenRight, SymBracketLeft, SymBracketRight, SymBraceLeft, SymBraceRight, SymSemicolon, TemplateArgsStart, TemplateArgsEnd}
use Rattle.wgsl_model.specs.Tokens.TokenList.{IsTokenList, width}
use Rattle.wgsl_model_tidy.specs.Brackets.{Line, blank, begun, in_comment, line_of}
use Rattle.wgsl_model_tidy.specs.Layout.{Layout, level}
use Rattle.wgsl_model_tidy.specs.Pieces.{between}

-- ---- lines

-- the line up to a byte of a text
abbrev pub line_to : List ℕ → ℕ → Line
line_to text n = line_of (between text 0 n) (between text n (width text))

-- the blank space with which a line begins, unless it begins inside a block comment
abbrev pub indent : Line → Option (List ℕ)
indent (blank space) = Some space
indent (begun space) = Some space
indent in_comment = None

-- one level more
abbrev pub deeper : Layout → Option (List ℕ) → Option (List ℕ)
deeper layout space = option_map (λ xs. level layout ++ xs) space

-- so many levels more
abbrev pub levels_deeper : Layout → ℕ → Option (List ℕ) → Option (List ℕ)
levels_deeper layout zero space = space
levels_deeper layout (suc n) space = deeper layout (levels_deeper layout n space)

-- ---- what is open

-- a token of a class opens a bracket, a template list or a block
abbrev pub opens : ℕ → Bool
opens class = is_among class (SymParenLeft ∷ SymBracketLeft ∷ TemplateArgsStart ∷ SymBraceLeft ∷ [])

-- or closes one
abbrev pub closes : ℕ → Bool
closes class = is_among class (SymParenRight ∷ SymBracketRight ∷ TemplateArgsEnd ∷ SymBraceRight ∷ [])

-- a token of a class ends a statement, a declaration or a block, or begins a block
abbrev pub ends_item : ℕ → Bool
ends_item class = is_among class (SymSemicolon ∷ SymBraceLeft ∷ SymBraceRight ∷ [])

-- or begins or ends an item of a bracket too
abbrev pub ends_operands : ℕ → Bool
ends_operands class = class == SymComma || (opens class || ends_item class)

-- what is open, the innermost first: the class of the token that opens it, and the indent of a line
-- that begins with the token that closes it
abbrev pub Opened : Type 0
Opened = List (ℕ × Option (List ℕ))

-- the innermost is a block, or nothing is open
abbrev pub in_block : Opened → Bool
in_block [] = true
in_block ((class, space) ∷ outer) = class == SymBraceLeft

-- the indent of a line that begins with what closes the innermost
abbrev pub outer_indent : Opened → Option (List ℕ)
outer_indent [] = Some []
outer_indent ((class, space) ∷ outer) = space

-- and of the lines in it: one level more
abbrev pub inner_indent : Layout → Opened → Option (List ℕ)
inner_indent layout [] = Some []
inner_indent layout ((class, space) ∷ outer) = deeper layout space

-- what is open after a token of a class, in a line with this indent: a bracket and a template list
-- close at the indent of the line where they open, a block at that of the lines around it
abbrev pub next_opened : Layout → Opened → Option (List ℕ) → ℕ → Opened
next_opened layout opened space class =
    if class == SymBraceLeft then (class, inner_indent layout opened) ∷ opened
    else if opens class then (class, space) ∷ opened
    else if closes class then drop 1 opened
    else opened

-- ---- indents

-- the blank space is this indent, if it is known
abbrev pub IsSpace : Option (List ℕ) → List ℕ → Type 0
IsSpace (Some xs) space = space ≡ xs
IsSpace None space = Unit {0}

-- A line begins with this blank space and then with a token of a class, where so much is open,
-- after
-- an item or not, and in operands or not. What closes the innermost is as deep as its line; any
-- other
-- token is one level deeper, or in a block and outside of all maybe two, where no item ends before
-- it, or
-- in operands maybe more.
pub data IsIndented (layout : Layout) (opened : Opened) (after_item in_operands : Bool) (class : ℕ) (space : List ℕ)
    : Type 0 where
  closing : closes class ≡ true → IsSpace (outer_indent opened) space
      → IsIndented layout opened after_item in_operands class space
  inside : closes class ≡ false → IsSpace (inner_indent layout opened) space
      → IsIndented layout opened after_item in_operands class space
  goes_on : closes class ≡ false → in_block opened ≡ true → after_item ≡ false
      → IsSpace (deeper layout (inner_indent layout opened)) space
      → IsIndented layout opened after_item in_operands class space
  between_operands : (more : ℕ) → closes class ≡ false → in_operands ≡ true
      → IsSpace (levels_deeper layout more (inner_indent layout opened)) space
      → IsIndented layout opened after_item in_operands class space

-- each of these tokens of a text that begins a line is indented so, where so much is open before
-- them, after an item or not, and in operands or not
abbrev pub AreIndented : Layout → List ℕ → Opened → Bool → Bool → List Token → Type 0
AreIndented layout text opened after_item in_operands [] = Unit {0}
AreIndented layout text opened after_item in_operands (t ∷ ts) =
    ((space : List ℕ) → line_to text t.start ≡ blank space
    → IsIndented layout opened after_item in_operands t.class space)
    × AreIndented layout text (next_opened layout opened (indent (line_to text t.start)) t.class) (ends_item t.class)
    (not (ends_operands t.class)) ts

-- each token of the text that begins a line is indented so; before the first nothing goes on
abbrev pub IndentsLines : Layout → List ℕ → Type 0
IndentsLines layout text = (ts : List Token) → IsTokenList text ts finished → AreIndented layout text [] true false ts
