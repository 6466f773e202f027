-- What a call returns of a text that nests deeper than a number of levels.
use Rattle.std.specs.Prelude.{◌≡◌, ◌≤◌, ◌+◌, ◌==◌, ℕ, List, length, if◌then◌else◌}
use Rattle.std.specs.Str.{chars}
use Rattle.grammar.specs.Tokens.{Token}
use Rattle.grammar.specs.Tokens as plain
use Rattle.grammar.specs.Endings.{Ending}
use Rattle.wgsl_model.specs.Faults.Snippets.{snippet}
use Rattle.wgsl_model.specs.Tokens.TokenList.{IsTokenList, width}
use Rattle.wgsl_model_tidy.specs.Formatted.{mark_of, unmarked}
use Rattle.wgsl_span.specs.declared.Span.{Span}
use Rattle.wgsl_span.specs.View.{span_view}
use Rattle.wgsl_error.specs.Places.{message_in_file}
use Rattle.wgsl_read_cursor.specs.Places.{StandsWithin}
use Rattle.wgsl_read_nesting.specs.Nesting.{nesting}
use Rattle.wgsl_format.specs.Deeper.{deeper_message, NestsDeeper}
use Rattle.wgsl_buffers.specs.declared.answer.Answer.{Answer}
use Rattle.wgsl_buffers.specs.Answers.{nul_terminated, HoldsOrKeeps}

-- a text nests no deeper than a number of levels
abbrev pub NestsWithin : ℕ → List ℕ → Type 0
NestsWithin depth text = (ts : List Token) × (e : Ending) × IsTokenList text ts e × (nesting ts ≤ depth)

-- the message of a text that nests deeper
abbrev pub deeper_text : ℕ → List ℕ
deeper_text depth = nul_terminated (deeper_message depth)

-- a message with the line in which a span starts, and a line that marks it: its snippet, or in a file
-- with a name as compilers print it
abbrev pub message_lines : List ℕ → List ℕ → List ℕ → plain.Span → List ℕ
message_lines name message source span = if length name == 0
    then snippet message source span
    else message_in_file name message source span

-- these lines of a text that nests deeper
abbrev pub deeper_lines : List ℕ → ℕ → List ℕ → Span → List ℕ
deeper_lines name depth text span =
    nul_terminated (message_lines name (deeper_message depth) (chars text) (span_view span))

-- how many bytes these texts have, and a place after a number of bytes
abbrev pub texts_at : List ℕ → ℕ → Span → Answer
texts_at texts n span =
    record { size = length texts; start = n + span.start; end = n + span.end; kind = 0; expected = 0 }

-- a text nests deeper: the answer has the place of the first token with which it does, and how many
-- bytes its texts have; they are at the front of the buffer if they fit, and else it stays as it was
abbrev pub TellsDeeperBy : (Span → List ℕ) → ℕ → List ℕ → List ℕ → List ℕ → Answer → Type 0
TellsDeeperBy texts depth text before buffer a = (span : Span) × NestsDeeper depth (chars text) (span_view span)
    × StandsWithin span (length text) × (a ≡ texts_at (texts span) 0 span)
    × HoldsOrKeeps (texts span) before buffer

-- its texts are the message
abbrev pub TellsDeeper : ℕ → List ℕ → List ℕ → List ℕ → Answer → Type 0
TellsDeeper depth = TellsDeeperBy (λ _. deeper_text depth) depth

-- its texts are the lines that show it in a file with a name
abbrev pub TellsDeeperLines : List ℕ → ℕ → List ℕ → List ℕ → List ℕ → Answer → Type 0
TellsDeeperLines name depth text = TellsDeeperBy (deeper_lines name depth text) depth text

-- the message is that of a text after its byte order mark, and the place that in the whole text
abbrev pub TellsDeeperAfterMark : ℕ → List ℕ → List ℕ → List ℕ → Answer → Type 0
TellsDeeperAfterMark depth text before buffer a = (span : Span)
    × NestsDeeper depth (unmarked (chars text)) (span_view span)
    × (a ≡ texts_at (deeper_text depth) (width (mark_of (chars text))) span)
    × HoldsOrKeeps (deeper_text depth) before buffer
