-- What the shortest text of a source keeps of it.
use Rattle.std.specs.Prelude.{◌≡◌, ℕ, ◌≤◌, List, [], map}
use Rattle.grammar.specs.Tokens.{Token}
use Rattle.grammar.specs.Endings.{Ending.finished}
use Rattle.wgsl_model.specs.Trees.Units.{TranslationUnit}
use Rattle.wgsl_model.specs.Tokens.TokenList.{IsTokenList, width}
use Rattle.wgsl_model.specs.Program.{IsUnit}
use Rattle.wgsl_model.specs.Trees.StatementsWithoutSpans.{bare_unit}
use Rattle.wgsl_model_tidy.specs.Pieces.{pieces}
use Rattle.wgsl_model_tidy.specs.Formatted.{mark_of, unmarked}
use Rattle.wgsl_model_tidy.specs.Kept.{unplaced}
use Rattle.wgsl_model_short.specs.Shortest.{token_pieces, shortest}

-- the text is the shortest text of what is after the byte order mark of a source, if it has one
abbrev pub IsShortest : List ℕ → List ℕ → Type 0
IsShortest source text = (ts : List Token) × IsTokenList (unmarked source) ts finished
    × (text ≡ shortest (unmarked source) ts)

-- The text has no byte order mark. It has the tokens of the source in all but their places; their
-- characters are all its pieces, so it has no comment and no line break; shortened again it stays
-- as it is; and it derives the same unit, empty items too, ignoring spans.
pub record KeepsTokens (source text : List ℕ) : Type 0 where
  pub before : List Token
  pub after : List Token
  pub read_before : IsTokenList (unmarked source) before finished
  pub read_after : IsTokenList text after finished
  pub no_mark : mark_of text ≡ []
  pub same_tokens : map unplaced after ≡ map unplaced before
  pub same_pieces : pieces text after ≡ token_pieces (unmarked source) before
  pub again : shortest text after ≡ text
  pub units : (u : TranslationUnit) → IsUnit (unmarked source) u
      → (v : TranslationUnit) × IsUnit text v × (bare_unit v ≡ bare_unit u)

-- no text with the same tokens, by their classes and characters, has fewer bytes
abbrev pub IsLeast : List ℕ → List ℕ → Type 0
IsLeast source text = (before : List Token) → IsTokenList (unmarked source) before finished
    → (other : List ℕ) (after : List Token) → IsTokenList other after finished
    → token_pieces other after ≡ token_pieces (unmarked source) before → width text ≤ width other
