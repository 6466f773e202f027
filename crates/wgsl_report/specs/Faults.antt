-- What is reported of a fault, with what was expected.
use Rattle.std.specs.Prelude.{ℕ, Bool, true, false, not, ◌==◌, ◌&&◌, ◌||◌, nat_eq, nat_le, if◌then◌else◌, List, [], ◌∷◌, ◌++◌, length, map, take, codes}
use Rattle.std.specs.List.{ends_with, filter, list_any}
use Rattle.std.specs.Str.{bytes_eq}
use Rattle.grammar.specs.Tokens.{Span}
use Rattle.wgsl_model.specs.Faults.Kinds.{first_text, message, quoted, unexpected_end_kind, unexpected_token_kind}
use Rattle.wgsl_model.specs.Printed.Joining.{joined}
use Rattle.wgsl_report.specs.Messages.{reported}

-- the literals of a type
abbrev pub is_literal : List ℕ → Bool
is_literal text = ends_with nat_eq text (codes " literal")

abbrev pub has_space : List ℕ → Bool
has_space text = list_any (λ c. c == 32) text

-- the name of a class of tokens, or of the end: it has a space, but for that of identifiers
abbrev pub is_class : List ℕ → Bool
is_class text = bytes_eq text (codes "identifier") || has_space text

-- the name of another class than one of literals
abbrev pub is_other_class : List ℕ → Bool
is_other_class text = is_class text && not (is_literal text)

-- the spelling of a token
abbrev pub is_spelling : List ℕ → Bool
is_spelling text = not (is_class text)

-- a literal of any type
abbrev pub literal_if : Bool → List (List ℕ)
literal_if true = codes "literal" ∷ []
literal_if false = []

-- what was expected, in words: classes, and then tokens between backquotes
abbrev pub words_of : List (List ℕ) → List (List ℕ)
words_of expected = (literal_if (list_any is_literal expected) ++ filter is_other_class expected)
    ++ map quoted (filter is_spelling expected)

-- how many words are reported at most
abbrev pub most : ℕ
most = 4

-- the words, or the first of them
abbrev pub listed : List (List ℕ) → List ℕ
listed [] = []
listed (first ∷ more) = if nat_le (length (first ∷ more)) most
    then codes ", expected " ++ joined (codes ", ") (first ∷ more)
    else codes ", expected " ++ (joined (codes ", ") (take most (first ∷ more)) ++ codes ", ..")

-- what was expected
abbrev pub expected_words : List (List ℕ) → List ℕ
expected_words expected = listed (words_of expected)

-- a token in words; one with a name has it between backquotes already
abbrev pub token_words : List ℕ → List ℕ
token_words token = if ends_with nat_eq token (codes "`") then token else codes "token " ++ quoted token

-- the message of a fault of this kind with these texts, and what was expected there
abbrev pub fault_message : ℕ → List (List ℕ) → List (List ℕ) → List ℕ
fault_message kind texts expected =
    if kind == unexpected_token_kind
    then codes "unexpected " ++ (token_words (first_text texts) ++ expected_words expected)
    else if kind == unexpected_end_kind then codes "unexpected end of file" ++ expected_words expected
    else message kind texts

-- what is reported of that fault at a span of the file with this name and this source
abbrev pub reported_fault : List ℕ → ℕ → List (List ℕ) → List (List ℕ) → List ℕ → Span → List ℕ
reported_fault name kind texts expected source span = reported name (fault_message kind texts expected) source span
