-- The faults, each with its kind, the texts that it holds and its span, and their messages.
use Rattle.std.specs.Prelude.{ℕ, ◌+◌, ◌-◌, ◌^◌, ◌==◌, nat_lt, if◌then◌else◌, List, [], ◌∷◌, ◌++◌, codes}
use Rattle.grammar.specs.Tokens.{Token, Span, Fault}
use Rattle.wgsl_model.specs.Tokens.Texts.{token_text}

-- the greatest place
abbrev pub last_place : ℕ
last_place = 2 ^ 64 - 1

-- the place after a place; sums on places stop at the greatest
abbrev pub next_place : ℕ → ℕ
next_place p = if nat_lt p last_place then p + 1 else p

-- where a token is
abbrev pub span_of_token : Token → Span
span_of_token t = record { start = t.start; end = t.end }

-- the kinds of faults
abbrev pub invalid_token_kind : ℕ
invalid_token_kind = 1

abbrev pub reserved_word_kind : ℕ
reserved_word_kind = 2

abbrev pub unexpected_token_kind : ℕ
unexpected_token_kind = 3

abbrev pub unexpected_end_kind : ℕ
unexpected_end_kind = 4

-- a token too many, which no parser reports
abbrev pub extra_token_kind : ℕ
extra_token_kind = 5

-- a severity that is not one
abbrev pub diagnostic_severity_kind : ℕ
diagnostic_severity_kind = 6

-- an attribute whose arguments do not fit
abbrev pub attribute_kind : ℕ
attribute_kind = 7

-- a `var` template whose arguments do not fit
abbrev pub var_template_kind : ℕ
var_template_kind = 8

-- an allocation failed
abbrev pub out_of_memory_kind : ℕ
out_of_memory_kind = 9

-- text that begins no token, or a whole number out of range
abbrev pub invalid_token : Span → Fault
invalid_token span = record { kind = invalid_token_kind; texts = []; span = span }

-- a reserved word where a name is wanted
abbrev pub reserved_word : List ℕ → Span → Fault
reserved_word word span = record { kind = reserved_word_kind; texts = word ∷ []; span = span }

-- a token that cannot be where it is
abbrev pub unexpected_token : Token → Fault
unexpected_token t = record { kind = unexpected_token_kind; texts = token_text t ∷ []; span = span_of_token t }

-- the tokens end where more is wanted; the fault is one byte long, from where the last token ends
abbrev pub unexpected_end : ℕ → Fault
unexpected_end place =
    record { kind = unexpected_end_kind; texts = []; span = record { start = place; end = next_place place } }

-- a severity that is not one
abbrev pub diagnostic_severity : Span → Fault
diagnostic_severity span = record { kind = diagnostic_severity_kind; texts = []; span = span }

-- an attribute whose arguments do not fit, by its name
abbrev pub invalid_attribute : List ℕ → List ℕ → Span → Fault
invalid_attribute name text span = record { kind = attribute_kind; texts = name ∷ (text ∷ []); span = span }

-- a `var` template whose arguments do not fit
abbrev pub invalid_var_template : List ℕ → Span → Fault
invalid_var_template text span = record { kind = var_template_kind; texts = text ∷ []; span = span }

-- the first text
abbrev pub first_text : List (List ℕ) → List ℕ
first_text [] = []
first_text (text ∷ texts) = text

-- the second text
abbrev pub second_text : List (List ℕ) → List ℕ
second_text [] = []
second_text (text ∷ texts) = first_text texts

-- a text between backquotes
abbrev pub quoted : List ℕ → List ℕ
quoted text = codes "`" ++ text ++ codes "`"

-- the message of a fault, without what was expected
abbrev pub message : ℕ → List (List ℕ) → List ℕ
message kind texts =
    if kind == invalid_token_kind then codes "invalid token"
    else if kind == reserved_word_kind then codes "use of a reserved word " ++ quoted (first_text texts)
    else if kind == unexpected_token_kind then codes "unexpected token " ++ quoted (first_text texts)
    else if kind == unexpected_end_kind then codes "unexpected end of file"
    else if kind == extra_token_kind
    then codes "extra token " ++ quoted (first_text texts) ++ codes " at the end of the file"
    else if kind == diagnostic_severity_kind then codes "invalid diagnostic severity"
    else if kind == attribute_kind
    then codes "invalid " ++ quoted (first_text texts) ++ codes " attribute, " ++ second_text texts
    else if kind == var_template_kind then codes "invalid `var` template arguments, " ++ first_text texts
    else codes "out of memory"
