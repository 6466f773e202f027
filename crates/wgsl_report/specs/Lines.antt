-- The line of a span as programs show it: cut around the span if it is long.
use Rattle.std.specs.Prelude.{ℕ, ◌+◌, ◌-◌, min, max, nat_le, if◌then◌else◌, List, ◌++◌, length, take, drop, codes}
use Rattle.std.specs.Str.{encode_utf8_all}
use Rattle.std.specs.List.{repeat, before_first}
use Rattle.grammar.specs.Tokens.{Span}
use Rattle.wgsl_model.specs.Faults.Snippets.{is_line_feed, text_from, line_front, mark_count}

-- how many columns of a line are shown at most
abbrev pub widest : ℕ
widest = 120

-- how many on each side of the start of a span in a longer line
abbrev pub side : ℕ
side = 60

-- how many of these are of the line, where three dots show that there are more
abbrev pub kept : ℕ
kept = 57

-- the last characters of a front of a line, as bytes
abbrev pub last_columns : List ℕ → List ℕ
last_columns front = if nat_le (length front) side then encode_utf8_all front
    else codes "..." ++ encode_utf8_all (drop (length front - kept) front)

-- the first characters of the rest of a line, as bytes
abbrev pub first_columns : List ℕ → List ℕ
first_columns back = if nat_le (length back) side then encode_utf8_all back
    else encode_utf8_all (take kept back) ++ codes "..."

-- a line, and below it carets after spaces
abbrev pub marked : List ℕ → List ℕ → ℕ → ℕ → List ℕ
marked front back spaces carets =
    front ++ (back ++ (codes "\n" ++ (repeat spaces (codes " ") ++ repeat carets (codes "^"))))

-- the line with this front and this rest, of which so many characters are marked, at least one
abbrev pub shown_line : List ℕ → List ℕ → ℕ → List ℕ
shown_line front back marks = if nat_le (length front + length back) widest
    then marked (encode_utf8_all front) (encode_utf8_all back) (length front) (max marks 1)
    else marked (last_columns front) (first_columns back) (min (length front) side) (max (min marks side) 1)

-- the line in which a span starts
abbrev pub line_shown : List ℕ → Span → List ℕ
line_shown source span = shown_line (line_front source span) (before_first is_line_feed (text_from source span))
    (mark_count source span)
