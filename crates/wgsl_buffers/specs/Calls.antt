-- What each call promises of a text, of the buffer before it and after it, of its answer and of its
-- status.
use Rattle.std.specs.Prelude.{◌≡◌, ◌⊎◌, ◌≤◌, ◌<◌, ℕ, List, [], chars, codes, length}
use Rattle.std.specs.Str.{IsUtf8}
use Rattle.grammar.specs.Tokens as grammar
use Rattle.grammar.specs.Endings.{Ending, Ending.finished, Ending.carried}
use Rattle.wgsl_model.specs.Faults.Kinds.{invalid_token}
use Rattle.wgsl_model.specs.Trees.Units as model
use Rattle.wgsl_model.specs.Printed.Units.{print_unit}
use Rattle.wgsl_model.specs.Program.{IsUnit, IsFaultOf}
use Rattle.wgsl_model.specs.SourceTrees.{IsFaultIn}
use Rattle.wgsl_model.specs.Tokens.TokenList.{IsTokenList}
use Rattle.wgsl_model_packed.specs.Printing.{Prints, wgsl}
use Rattle.wgsl_lexer.specs.Left.{BeginsWithList}
use Rattle.wgsl_model_tidy.specs.Layout.{Layout}
use Rattle.wgsl_model_tidy.specs.Syntax.{IsFaultAfterMark}
use Rattle.wgsl_format.specs.RunOutput.{IsTidiedBy}
use Rattle.wgsl_read_dialect.specs.Recognized.{IsRecognized, IsRefused}
use Rattle.wgsl_read_nesting.specs.Nesting.{nesting}
use Rattle.wgsl_buffers.specs.declared.answer.Answer.{Answer}
use Rattle.wgsl_buffers.specs.declared.lists.Place.{Place}
use Rattle.wgsl_buffers.specs.declared.tokens.PlacedKind.{PlacedKind}
use Rattle.wgsl_buffers.specs.Answers.{counted, of_kind, Refuses, RefusesWithLines, Holds, Lacks, IsNoText}
use Rattle.wgsl_buffers.specs.Items.{count_of, counted_to, HoldItems, kind_and_place, token_items, start_and_end, ArePlaces}
use Rattle.wgsl_buffers.specs.Comments.{AreTokensAndComments}
use Rattle.wgsl_buffers.specs.Deep.{TellsDeeper, TellsDeeperAfterMark, TellsDeeperLines}
use Rattle.wgsl_buffers.specs.Trees.{Tree, tree_of, IsJsonIn, IsOnlyPrint, IsPackedOf}

-- what each call promises: 2 only for bytes that are no text, and 3 with nothing in the answer
pub record Reads (text : List ℕ) (answer : Answer) (result : ℕ) : Type 0 where
  pub not_utf8 : result ≡ 2 → IsNoText text answer
  pub memory : result ≡ 3 → answer ≡ counted 0
  pub valid : ¬ (result ≡ 2) → IsUtf8 text

-- the text that a module is printed as, or the fault that is named, or that it nests deeper than a
-- number of levels
pub record Formats (depth : ℕ) (text before buffer : List ℕ) (answer : Answer) (result : ℕ) : Type 0 where
  pub printed : result ≡ 0
      → (unit : model.TranslationUnit) × IsUnit (chars text) unit × Holds (print_unit unit) buffer answer
  pub refused : result ≡ 1 → Refuses IsFaultOf text before buffer answer
  pub small : result ≡ 4
      → (unit : model.TranslationUnit) × IsUnit (chars text) unit × Lacks (print_unit unit) before buffer answer
  pub deeper : result ≡ 7 → TellsDeeper depth text before buffer answer
  pub status : (result ≤ 4) ⊎ (result ≡ 7)
  pub reads : Reads text answer result

-- the formatted text of a module, with its comments, or the fault that is named, or that it nests
-- deeper
pub record Tidies (depth : ℕ) (layout : Layout) (text before buffer : List ℕ) (answer : Answer)
    (result : ℕ) : Type 0 where
  pub formatted : result ≡ 0 → (out : List ℕ) × IsTidiedBy layout text out × Holds out buffer answer
  pub refused : result ≡ 1 → Refuses IsFaultAfterMark text before buffer answer
  pub small : result ≡ 4 → (out : List ℕ) × IsTidiedBy layout text out × Lacks out before buffer answer
  pub deeper : result ≡ 7 → TellsDeeperAfterMark depth text before buffer answer
  pub status : (result ≤ 4) ⊎ (result ≡ 7)
  pub reads : Reads text answer result

-- that a text is a module, or the fault that is named, or that it nests deeper
pub record Checks (depth : ℕ) (text before buffer : List ℕ) (answer : Answer) (result : ℕ) : Type 0 where
  pub accepted : result ≡ 0 → (unit : model.TranslationUnit) × IsUnit (chars text) unit × (answer ≡ counted 0)
  pub refused : result ≡ 1 → Refuses IsFaultOf text before buffer answer
  pub deeper : result ≡ 7 → TellsDeeper depth text before buffer answer
  pub status : (result ≤ 3) ⊎ (result ≡ 7)
  pub reads : Reads text answer result

-- that a text is a module, or the fault that is named, or that it nests deeper, with the line, in a
-- file with a name if that is not empty; 6 only for a name that is no text, of a text that is one
pub record WritesSnippet (depth : ℕ) (name text before buffer : List ℕ) (answer : Answer) (result : ℕ) : Type 0 where
  pub accepted : result ≡ 0 → (unit : model.TranslationUnit) × IsUnit (chars text) unit × (answer ≡ counted 0)
  pub refused : result ≡ 1 → RefusesWithLines IsFaultOf name text before buffer answer
  pub bad_name : result ≡ 6 → ¬ (IsUtf8 name) × (buffer ≡ before)
  pub named : ¬ (IsUtf8 name) → (result ≡ 2) ⊎ (result ≡ 6)
  pub deeper : result ≡ 7 → TellsDeeperLines name depth text before buffer answer
  pub status : (result ≤ 3) ⊎ ((result ≡ 6) ⊎ (result ≡ 7))
  pub reads : Reads text answer result

-- that a text is a module of the dialect, or the fault that is named, or that it nests deeper
pub record Recognizes (depth : ℕ) (text before buffer : List ℕ) (answer : Answer) (result : ℕ) : Type 0 where
  pub accepted : result ≡ 0 → IsRecognized (chars text) × (answer ≡ counted 0)
  pub refused : result ≡ 1 → Refuses IsRefused text before buffer answer
  pub deeper : result ≡ 7 → TellsDeeper depth text before buffer answer
  pub status : (result ≤ 3) ⊎ (result ≡ 7)
  pub reads : Reads text answer result

-- a form of the tree with a number that a text derives, or the fault that is named, or that it nests
-- deeper
pub record WritesForm (IsForm : Tree → List ℕ → List ℕ → Type 0) (depth what : ℕ) (text before buffer : List ℕ)
    (answer : Answer) (result : ℕ) : Type 0 where
  pub accepted : result ≡ 0 → (form : List ℕ) × IsForm (tree_of what) (chars text) form × Holds form buffer answer
  pub refused : result ≡ 1 → Refuses (IsFaultIn (tree_of what).symbol) text before buffer answer
  pub small : result ≡ 4 → (form : List ℕ) × IsForm (tree_of what) (chars text) form × Lacks form before buffer answer
  pub unknown : result ≡ 5 → (4 < what) × (answer ≡ counted 0)
  pub known : 4 < what → (result ≡ 2) ⊎ (result ≡ 5)
  pub deeper : result ≡ 7 → TellsDeeper depth text before buffer answer
  pub status : (result ≤ 5) ⊎ (result ≡ 7)
  pub reads : Reads text answer result

-- the JSON
abbrev pub WritesTree : ℕ → ℕ → List ℕ → List ℕ → List ℕ → Answer → ℕ → Type 0
WritesTree = WritesForm IsJsonIn

-- the packed form
abbrev pub WritesPackedTree : ℕ → ℕ → List ℕ → List ℕ → List ℕ → Answer → ℕ → Type 0
WritesPackedTree = WritesForm IsPackedOf

-- what the rules print of a packed form; 1 only for bytes of which they print nothing
pub record PrintsPacked (form before buffer : List ℕ) (answer : Answer) (result : ℕ) : Type 0 where
  pub printed : result ≡ 0 → (text : List ℕ) × IsOnlyPrint wgsl form text × Holds text buffer answer
  pub refused : result ≡ 1 → ((text : List ℕ) → ¬ (Prints 0 (codes "$") form text []))
      × (buffer ≡ before) × (answer ≡ of_kind 10)
  pub memory : result ≡ 3 → answer ≡ counted 0
  pub small : result ≡ 4 → (text : List ℕ) × IsOnlyPrint wgsl form text × Lacks text before buffer answer
  pub status : (result ≤ 1) ⊎ ((result ≡ 3) ⊎ (result ≡ 4))

-- the items that are written of the tokens of a text before its end or its first invalid token
pub record WritesItems (AreItems : List grammar.Token → List (ℕ × ℕ × ℕ) → Type 0)
    (text : List ℕ) (buffer : List PlacedKind) (answer : Answer) (result : ℕ) : Type 0 where
  pub all : result ≡ 0 → (ts : List grammar.Token) × (items : List (ℕ × ℕ × ℕ))
      × IsTokenList (chars text) ts finished × AreItems ts items
      × HoldItems kind_and_place items buffer × (answer ≡ counted (length items))
  pub refused : result ≡ 1 → (ts : List grammar.Token) × (items : List (ℕ × ℕ × ℕ)) × (span : grammar.Span)
      × IsTokenList (chars text) ts (carried (invalid_token span)) × AreItems ts items
      × HoldItems kind_and_place items buffer × (answer ≡ counted_to (length items) span)
  pub small : result ≡ 4 → (ts : List grammar.Token) × (items : List (ℕ × ℕ × ℕ)) × (e : Ending)
      × IsTokenList (chars text) ts e × AreItems ts items
      × HoldItems kind_and_place items buffer × (length buffer < length items)
      × (answer ≡ counted (count_of (length items)))
  pub fits : result ≤ 1 → answer.size ≤ length buffer
  pub status : result ≤ 4
  pub reads : Reads text answer result

-- the tokens
abbrev pub WritesTokens : List ℕ → List PlacedKind → Answer → ℕ → Type 0
WritesTokens text = WritesItems (λ ts items. items ≡ token_items ts) text

-- the tokens and the comments between them, in the order of their places
abbrev pub WritesTokensWithComments : List ℕ → List PlacedKind → Answer → ℕ → Type 0
WritesTokensWithComments text = WritesItems (AreTokensAndComments (chars text) 0) text

-- the places of the template lists of a text, in the order of their starts
pub record WritesLists (text : List ℕ) (buffer : List Place) (answer : Answer) (result : ℕ) : Type 0 where
  pub all : result ≡ 0 → (places : List (ℕ × ℕ)) × ArePlaces (chars text) places
      × HoldItems start_and_end places buffer × (length places ≤ length buffer) × (answer ≡ counted (length places))
  pub small : result ≡ 4 → (places : List (ℕ × ℕ)) × ArePlaces (chars text) places
      × HoldItems start_and_end places buffer × (length buffer < length places)
      × (answer ≡ counted (count_of (length places)))
  pub status : (result ≡ 0) ⊎ ((2 ≤ result) × (result ≤ 4))
  pub reads : Reads text answer result

-- whether a text begins with a template list, after blank space and comments
pub record FindsList (text : List ℕ) (answer : Answer) (result : ℕ) : Type 0 where
  pub found : result ≡ 0 → (BeginsWithList (chars text) × (answer ≡ counted 1))
      ⊎ (¬ (BeginsWithList (chars text)) × (answer ≡ counted 0))
  pub status : (result ≡ 0) ⊎ ((result ≡ 2) ⊎ (result ≡ 3))
  pub reads : Reads text answer result

-- how many brackets, blocks, template lists and prefix operators are open at one place of a text
pub record MeasuresNesting (text : List ℕ) (answer : Answer) (result : ℕ) : Type 0 where
  pub depth : result ≡ 0 → (ts : List grammar.Token) × (e : Ending) × IsTokenList (chars text) ts e
      × (answer ≡ counted (nesting ts))
  pub status : (result ≡ 0) ⊎ ((result ≡ 2) ⊎ (result ≡ 3))
  pub reads : Reads text answer result
