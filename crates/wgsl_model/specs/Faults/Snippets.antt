-- The snippet of a message at a span: the line of the source in which the span starts, and below it
-- a line that marks the span. The source is its characters; the message and the snippet are bytes.
use Rattle.std.specs.Prelude.{ℕ, ◌+◌, ◌-◌, ◌==◌, nat_le, max, if◌then◌else◌, Bool, List, [], ◌∷◌, ◌++◌, length, drop, replicate, count_by, codes}
use Rattle.std.specs.Char.{len_utf8}
use Rattle.std.specs.Str.{encode_utf8_all}
use Rattle.std.specs.List.{before_first, after_last}
use Rattle.std.specs.Fmt.{decimal}
use Rattle.grammar.specs.Tokens.{Span}

-- the characters of a text that end at a place or before it: all of them where the place is past
-- the end, and of a place inside a character those before that character
abbrev pub characters_before : ℕ → List ℕ → List ℕ
characters_before place [] = []
characters_before place (c ∷ cs) = if nat_le (len_utf8 c) place
    then c ∷ characters_before (place - len_utf8 c) cs else []

-- lines end at an LF, and at nothing else
abbrev pub is_line_feed : ℕ → Bool
is_line_feed c = c == 10

-- what is before a span
abbrev pub text_before : List ℕ → Span → List ℕ
text_before source span = characters_before span.start source

-- what is in a span, which is nothing where the span ends before its start
abbrev pub text_within : List ℕ → Span → List ℕ
text_within source span = drop (length (text_before source span)) (characters_before span.end source)

-- what is from the start of a span on
abbrev pub text_from : List ℕ → Span → List ℕ
text_from source span = drop (length (text_before source span)) source

-- the number of the line in which a span starts; the first line is 1
abbrev pub line_number : List ℕ → Span → ℕ
line_number source span = 1 + count_by is_line_feed (text_before source span)

-- what is before the span in that line
abbrev pub line_front : List ℕ → Span → List ℕ
line_front source span = after_last is_line_feed (text_before source span)

-- that line, without its LF
abbrev pub line_text : List ℕ → Span → List ℕ
line_text source span = line_front source span ++ before_first is_line_feed (text_from source span)

-- how many characters of the span are in that line, its LF aside
abbrev pub mark_count : List ℕ → Span → ℕ
mark_count source span = length (before_first is_line_feed (text_within source span))

-- a space for each character before the span, and then carets (the byte 94): one for each character
-- of the span, and one at least
abbrev pub marker_line : List ℕ → Span → List ℕ
marker_line source span = replicate (length (line_front source span)) 32
    ++ replicate (max (mark_count source span) 1) 94

-- the message, the place, the line and the marker line, with an LF between each two
abbrev pub snippet : List ℕ → List ℕ → Span → List ℕ
snippet message source span =
    codes "error: " ++ message ++ codes "\n --> line " ++ decimal (line_number source span)
    ++ codes ", column " ++ decimal (1 + length (line_front source span))
    ++ codes "\n" ++ encode_utf8_all (line_text source span) ++ codes "\n" ++ marker_line source span
