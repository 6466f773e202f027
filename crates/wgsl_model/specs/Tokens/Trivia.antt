-- Blank space and comments in front of a token (WGSL, "Blankspace and Line Breaks", "Comments").
use Rattle.std.specs.Prelude.{ℕ, zero, suc, ◌&&◌, ◌==◌, if◌then◌else◌, List, [], ◌∷◌}
use Rattle.wgsl_model.specs.Tokens.Characters.{is_blank, is_line_break}

-- where a character is
pub data Place : Type 0 where
  -- in no comment
  outside : Place
  -- in a line comment
  in_line : Place
  -- in a block comment that is in a number of others
  in_block : ℕ → Place
  -- on the second character of a sign of two, which leads to a place
  second : Place → Place

-- where a character is after the end of a block comment that is in a number of others
abbrev pub out_of_block : ℕ → Place
out_of_block zero = outside
out_of_block (suc n) = in_block n

-- the first character, or 0
abbrev pub first_or_zero : List ℕ → ℕ
first_or_zero [] = 0
first_or_zero (c ∷ cs) = c

-- What follows the blank space and the comments at the front. A line comment ends before a line
-- break; block comments nest. One that is not closed, which the draft does not allow, runs to the
-- end.
unfoldable pub after_trivia : Place → List ℕ → List ℕ
after_trivia p [] = []
after_trivia outside (c ∷ cs) =
    if is_blank c then after_trivia outside cs
    else if c == 47 && first_or_zero cs == 47 then after_trivia (second in_line) cs
    else if c == 47 && first_or_zero cs == 42 then after_trivia (second (in_block 0)) cs
    else c ∷ cs
after_trivia in_line (c ∷ cs) = if is_line_break c then after_trivia outside cs else after_trivia in_line cs
after_trivia (in_block n) (c ∷ cs) =
    if c == 47 && first_or_zero cs == 42 then after_trivia (second (in_block (suc n))) cs
    else if c == 42 && first_or_zero cs == 47 then after_trivia (second (out_of_block n)) cs
    else after_trivia (in_block n) cs
after_trivia (second p) (c ∷ cs) = after_trivia p cs
