-- What a formatted text keeps of its source.
use Rattle.std.specs.Prelude.{◌≡◌, ℕ, true, List, [], map}
use Rattle.grammar.specs.Tokens.{Token}
use Rattle.grammar.specs.Endings.{Ending.finished}
use Rattle.wgsl_model.specs.Tokens.Kind.{Kind}
use Rattle.wgsl_model.specs.Trees.Units.{TranslationUnit}
use Rattle.wgsl_model.specs.Tokens.TokenList.{IsTokenList}
use Rattle.wgsl_model.specs.Program.{IsUnit}
use Rattle.wgsl_model.specs.Trees.StatementsWithoutSpans.{bare_unit}
use Rattle.wgsl_model_tidy.specs.Pieces.{Piece, pieces}
use Rattle.wgsl_model_tidy.specs.Layout.{Layout}
use Rattle.wgsl_model_tidy.specs.Shown.{shown}
use Rattle.wgsl_model_tidy.specs.Formatted.{mark_of, unmarked, formatted}
use Rattle.wgsl_model_tidy.specs.NonBlank.{non_blank}

-- a token, wherever it is
abbrev pub unplaced : Token → Kind
unplaced t = record { class = t.class; payload = t.payload }

-- a piece and its characters, after however many line ends; those of a block comment without CR
-- before LF, and if it is closed and each of its later lines begins with `*`, without the spaces
-- and tabs before these
abbrev pub class_and_text : Piece → ℕ × List ℕ
class_and_text p = (p.class, shown [] true p)

-- the text is the formatted text of a source
abbrev pub IsFormatted : Layout → List ℕ → List ℕ → Type 0
IsFormatted layout source text = (ts : List Token) × IsTokenList (unmarked source) ts finished
    × (text ≡ formatted layout source ts)

-- The text has the byte order mark of the source, or none; the characters of the source that are
-- not blank space, in the same order; the tokens of the source in all but their places; the same
-- pieces in the same order, so the same comments too, but for CR before LF in block comments and
-- spaces and tabs before `*` at the front of their lines; formatted again it stays as it is; and it
-- derives the same unit, empty items too, ignoring spans.
pub record Keeps (layout : Layout) (source text : List ℕ) : Type 0 where
  pub before : List Token
  pub after : List Token
  pub read_before : IsTokenList (unmarked source) before finished
  pub read_after : IsTokenList (unmarked text) after finished
  pub same_mark : mark_of text ≡ mark_of source
  pub same_characters : non_blank text ≡ non_blank source
  pub same_tokens : map unplaced after ≡ map unplaced before
  pub same_pieces : map class_and_text (pieces (unmarked text) after)
      ≡ map class_and_text (pieces (unmarked source) before)
  pub again : formatted layout text after ≡ text
  pub units : (u : TranslationUnit) → IsUnit (unmarked source) u
      → (v : TranslationUnit) × IsUnit (unmarked text) v × (bare_unit v ≡ bare_unit u)
