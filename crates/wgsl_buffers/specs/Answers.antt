-- What a call returns of a text.
use Rattle.std.specs.Prelude.{◌≡◌, ◌⊎◌, ℕ, ◌<◌, List, [], ◌∷◌, ◌++◌, length, take, flat_map, ◌==◌, if◌then◌else◌}
use Rattle.std.specs.Str.{IsUtf8, IsValidUpTo, chars}
use Rattle.grammar.specs.Tokens.{Fault}
use Rattle.wgsl_model.specs.Faults.Snippets.{snippet}
use Rattle.wgsl_span.specs.View.{span_view}
use Rattle.wgsl_error.specs.declared.Error.{Error}
use Rattle.wgsl_error.specs.declared.ErrorKind.{ErrorKind}
use Rattle.wgsl_error.specs.View.{kind_number, expected_texts, fault_view}
use Rattle.wgsl_error.specs.Printing.{print_error_kind, print_message}
use Rattle.wgsl_error.specs.Places.{message_in_file}
use Rattle.wgsl_read_cursor.specs.Places.{StandsWithin}
use Rattle.wgsl_buffers.specs.declared.answer.Answer.{Answer}

-- a number of bytes or items, and nothing else
abbrev pub counted : ℕ → Answer
counted n = record { size = n; start = 0; end = 0; kind = 0; expected = 0 }

-- the kind of a fault, and nothing else
abbrev pub of_kind : ℕ → Answer
of_kind k = record { size = 0; start = 0; end = 0; kind = k; expected = 0 }

-- a place, and nothing else
abbrev pub at_place : ℕ → Answer
at_place p = record { size = 0; start = p; end = p; kind = 0; expected = 0 }

-- the text is at the front of the buffer
abbrev pub Holds : List ℕ → List ℕ → Answer → Type 0
Holds text buffer a = (a ≡ counted (length text)) × (take (length text) buffer ≡ text)

-- the buffer is too small for the text, and stays as it was
abbrev pub Lacks : List ℕ → List ℕ → List ℕ → Answer → Type 0
Lacks text before buffer a = (a ≡ counted (length text)) × (length before < length text) × (buffer ≡ before)

-- the bytes are no text, and the answer says where they stop being one
abbrev pub IsNoText : List ℕ → Answer → Type 0
IsNoText bytes a = ¬ (IsUtf8 bytes) × IsValidUpTo bytes a.start × (a ≡ at_place a.start)

-- a text with a byte 0 after it
abbrev pub nul_terminated : List ℕ → List ℕ
nul_terminated text = text ++ (0 ∷ [])

-- the texts of a fault: its message, then each text that was expected
abbrev pub fault_texts : ErrorKind → List ℕ
fault_texts kind = nul_terminated (print_error_kind kind) ++ flat_map nul_terminated (expected_texts kind)

-- an error with the line in which it starts, and a line that marks it: the snippet of its whole
-- message, or in a file with a name its message without what was expected
abbrev pub error_lines : List ℕ → List ℕ → Error → List ℕ
error_lines name source e = if length name == 0
    then snippet (print_error_kind e.error) source (span_view e.span)
    else message_in_file name (print_message e.error) source (span_view e.span)

-- these texts are at the front of the buffer if they fit, and else it stays as it was
abbrev pub HoldsOrKeeps : List ℕ → List ℕ → List ℕ → Type 0
HoldsOrKeeps texts before buffer =
    (take (length texts) buffer ≡ texts) ⊎ ((length before < length texts) × (buffer ≡ before))

-- the answer has the kind and the place of the error, and how many bytes these texts of it have;
-- they are at the front of the buffer if they fit, and else it stays as it was
abbrev pub TellsTexts : List ℕ → Error → List ℕ → List ℕ → Answer → Type 0
TellsTexts texts e before buffer a =
    (a ≡ record {
      size = length texts;
      start = e.span.start;
      end = e.span.end;
      kind = kind_number e.error;
      expected = length (expected_texts e.error);
    })
    × HoldsOrKeeps texts before buffer

-- the same of its message and of what was expected
abbrev pub TellsError : Error → List ℕ → List ℕ → Answer → Type 0
TellsError e before buffer a = TellsTexts (fault_texts e.error) e before buffer a

-- the text is refused: the answer has an error that is a fault of it, which is in the text or
-- ends one byte past it
abbrev pub Refuses : (List ℕ → Fault → Type 0) → List ℕ → List ℕ → List ℕ → Answer → Type 0
Refuses IsNamed text before buffer a = (e : Error) × IsNamed (chars text) (fault_view e)
    × StandsWithin e.span (length text) × TellsError e before buffer a

-- the same with the lines that show the error in a file with a name
abbrev pub RefusesWithLines : (List ℕ → Fault → Type 0) → List ℕ → List ℕ → List ℕ → List ℕ → Answer → Type 0
RefusesWithLines IsNamed name text before buffer a = (e : Error) × IsNamed (chars text) (fault_view e)
    × StandsWithin e.span (length text)
    × TellsTexts (nul_terminated (error_lines name (chars text) e)) e before buffer a
