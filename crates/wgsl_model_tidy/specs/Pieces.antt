-- The pieces of a text: its tokens and its comments, as they are (WGSL, "Parsing", "Comments").
use Rattle.std.specs.Prelude.{ℕ, suc, ◌+◌, ◌-◌, ◌&&◌, ◌==◌, if◌then◌else◌, List, [], ◌∷◌, chars, take, drop}
use Rattle.std.specs.Char.{is_whitespace}
use Rattle.std.specs.Str.{encode_utf8_all}
use Rattle.grammar.specs.Tokens.{Token}
use Rattle.grammar.specs.Tables.{is_empty}
use Rattle.wgsl_model.specs.Tokens.ClassTable.{LineComment, BlockComment}
use Rattle.wgsl_model.specs.Tokens.Characters.{is_line_break}
use Rattle.wgsl_model.specs.Tokens.Places.{width}
use Rattle.wgsl_model.specs.Tokens.Trivia.{Place, outside, in_line, in_block, second, out_of_block, first_or_zero}

-- the class of a block comment that is not closed, after which a text ends; it is after the
-- classes of tokens
abbrev pub OpenComment : ℕ
OpenComment = suc BlockComment

-- a token, a bracket of a template list or a comment: its class, its characters, and how many line
-- ends are before it
pub record Piece : Type 0 where
  pub class : ℕ
  pub text : List ℕ
  pub line_ends : ℕ

-- ---- comments

-- a character is a line break; CR and LF are one
abbrev pub line_ends_at : ℕ → List ℕ → ℕ
line_ends_at c cs = if c == 13 && first_or_zero cs == 10 then 0 else if is_line_break c then 1 else 0

-- a comment that has no characters yet
abbrev pub comment : ℕ → ℕ → Piece
comment class n = record { class = class; text = []; line_ends = n }

-- the first piece with a character before its own
abbrev pub put : ℕ → List Piece → List Piece
put c [] = []
put c (p ∷ ps) = record { class = p.class; text = c ∷ p.text; line_ends = p.line_ends } ∷ ps

-- the same, where the first piece is a line comment, at whose end no white space stays
abbrev pub put_in_line : ℕ → List Piece → List Piece
put_in_line c [] = []
put_in_line c (p ∷ ps) = if is_whitespace c && is_empty p.text then p ∷ ps else put c (p ∷ ps)

-- The comments in a text of blank space and comments, which begins at such a place, a number of
-- line breaks after the last piece; and after them what is after a number of line breaks. A line
-- comment ends before a line break; block comments nest.
unfoldable pub comments : (ℕ → List Piece) → Place → ℕ → List ℕ → List Piece
comments following outside n [] = following n
comments following outside n (c ∷ cs) =
    if c == 47 && first_or_zero cs == 47 then put c (comments following (second in_line) n cs)
    else if c == 47 && first_or_zero cs == 42 then put c (comments following (second (in_block 0)) n cs)
    else comments following outside (n + line_ends_at c cs) cs
comments following in_line n [] = comment LineComment n ∷ following 0
comments following in_line n (c ∷ cs) =
    if is_line_break c then comment LineComment n ∷ comments following outside (line_ends_at c cs) cs
    else put_in_line c (comments following in_line n cs)
comments following (in_block depth) n [] = comment OpenComment n ∷ following 0
comments following (in_block depth) n (c ∷ cs) =
    if c == 47 && first_or_zero cs == 42 then put c (comments following (second (in_block (suc depth))) n cs)
    else if c == 42 && first_or_zero cs == 47 then put c (comments following (second (out_of_block depth)) n cs)
    else put c (comments following (in_block depth) n cs)
comments following (second p) n [] = comment OpenComment n ∷ following 0
comments following (second outside) n (c ∷ cs) = put c (comment BlockComment n ∷ comments following outside 0 cs)
comments following (second p) n (c ∷ cs) = put c (comments following p n cs)

-- ---- all pieces

-- the characters of a source from one place up to another
abbrev pub between : List ℕ → ℕ → ℕ → List ℕ
between source from to = chars (take (to - from) (drop from (encode_utf8_all source)))

-- a token of a source, after a number of line breaks
abbrev pub piece_of : List ℕ → Token → ℕ → Piece
piece_of source t n = record { class = t.class; text = between source t.start t.end; line_ends = n }

-- the pieces of a source from a place on, where these tokens are left
abbrev pub pieces_from : List ℕ → ℕ → List Token → List Piece
pieces_from source from [] = comments (λ n. []) outside 0 (between source from (width source))
pieces_from source from (t ∷ ts) = comments (λ n. piece_of source t n ∷ pieces_from source t.end ts)
    outside 0 (between source from t.start)

-- the pieces of a source with these tokens
abbrev pub pieces : List ℕ → List Token → List Piece
pieces source ts = pieces_from source 0 ts
