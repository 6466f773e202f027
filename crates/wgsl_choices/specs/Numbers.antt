-- Numbers that a user writes.
use Rattle.std.specs.Prelude.{ℕ, ◌==◌, Bool, not, ◌&&◌, List, length, Option, Some, None, if◌then◌else◌}
use Rattle.std.specs.Int.{is_in_range}
use Rattle.std.specs.Str.{all_ascii_digits}
use Rattle.std.specs.Str.Parse.{digits_value}

-- a text is a number: one decimal digit or more, and nothing else
abbrev pub is_number : List ℕ → Bool
is_number text = not (length text == 0) && all_ascii_digits text

-- the number that a text is, where it is in a range
abbrev pub number_in : ℕ → ℕ → List ℕ → Option ℕ
number_in least most text =
    if is_number text && is_in_range least most (digits_value 10 text) then Some (digits_value 10 text) else None

-- how many columns a line has at most; with 0 no line is broken
abbrev pub width_of : List ℕ → Option ℕ
width_of text = number_in 0 9999 text

-- how many columns an indentation or a tab has
abbrev pub size_of : List ℕ → Option ℕ
size_of text = number_in 1 16 text
