-- The tokens of the shortest text of a module that is known by its tree, where a token may be
-- spelled or left out in another way than in the printed text.
use Rattle.std.specs.Prelude.{◌≡◌, ℕ, ◌≤◌, pos, Bool, false, not, ◌&&◌, ◌||◌, ◌==◌, nat_lt, if◌then◌else◌, List, [], ◌∷◌, ◌++◌, map, codes}
use Rattle.std.specs.Fmt.{digits}
use Rattle.grammar.specs.Tokens.{Token, Payload, Payload.number}
use Rattle.grammar.specs.Endings.{Ending.finished}
use Rattle.wgsl_model.specs.Tokens.ClassTable.{SymAttr, SymComma, SymSemicolon, KwCase, KwDefault, AbstractInt}
use Rattle.wgsl_model.specs.Tokens.TokenList.{IsTokenList, width}
use Rattle.wgsl_model.specs.Trees.Units.{TranslationUnit}
use Rattle.wgsl_model.specs.Trees.StatementsWithoutSpans.{bare_unit}
use Rattle.wgsl_model.specs.Program.{IsUnit}
use Rattle.wgsl_model_tidy.specs.Pieces.{Piece, between}
use Rattle.wgsl_model_short.specs.Shortest.{joined, token_pieces}

-- ---- numbers (WGSL, "Numeric Literals")

-- a number in hexadecimal
abbrev pub hexadecimal : ℕ → List ℕ
hexadecimal n = codes "0x" ++ digits 16 false n

-- the characters of a whole number: those in hexadecimal, if they have fewer bytes
abbrev pub shorter_number : Payload → List ℕ → List ℕ
shorter_number (number (pos n)) text =
    if nat_lt (width (hexadecimal n)) (width text) then hexadecimal n else text
shorter_number payload text = text

-- The characters of a token, which are these in the printed text. A number with a suffix has at most
-- ten digits, so it is never shorter in hexadecimal.
abbrev pub short_text : Token → List ℕ → List ℕ
short_text t text = if t.class == AbstractInt then shorter_number t.payload text else text

-- the pieces of these tokens
abbrev pub short_pieces : List ℕ → List Token → List Piece
short_pieces source ts = map (λ t. record {
  class = t.class;
  text = short_text t (between source t.start t.end);
  line_ends = 0;
}) ts

-- ---- `default` (WGSL, "Switch Statement")

-- a token is the `case` before a `default` that is alone in its clause, by the class of the token
-- before it and the classes of those after it; after `@` it is a name
abbrev pub is_needless : ℕ → ℕ → List ℕ → Bool
is_needless last class (d ∷ (e ∷ others)) =
    class == KwCase && (d == KwDefault && not (last == SymAttr || e == SymComma))
is_needless last class others = false

-- all but these, in a list of what has a class, after a token of a class
abbrev pub without_needless : {A : Type 0} → (A → ℕ) → ℕ → List A → List A
without_needless class last [] = []
without_needless class last (x ∷ xs) =
    if is_needless last (class x) (map class xs) then without_needless class (class x) xs
    else x ∷ without_needless class (class x) xs

-- ---- the text

-- the pieces of the shortest text of a printed module with these tokens
abbrev pub minified_pieces : List ℕ → List Token → List Piece
minified_pieces source ts = without_needless (λ p. p.class) SymSemicolon (short_pieces source ts)

-- that text
abbrev pub minified : List ℕ → List Token → List ℕ
minified source ts = joined SymSemicolon (minified_pieces source ts)

-- The text has these pieces of a printed module, between two of them a space or nothing, and derives
-- the same module, ignoring spans; no text with these pieces has fewer bytes.
pub record IsMinifiedText (source text : List ℕ) : Type 0 where
  pub before : List Token
  pub after : List Token
  pub read_before : IsTokenList source before finished
  pub read_after : IsTokenList text after finished
  pub joins : text ≡ minified source before
  pub same_pieces : token_pieces text after ≡ minified_pieces source before
  pub units : (u : TranslationUnit) → IsUnit source u
      → (v : TranslationUnit) × IsUnit text v × (bare_unit v ≡ bare_unit u)
  pub least : (other : List ℕ) (tokens : List Token) → IsTokenList other tokens finished
      → token_pieces other tokens ≡ minified_pieces source before → width text ≤ width other
