-- Where the characters of a text are, inside comments or outside, and what its lines look like
-- outside block comments.
use Rattle.std.specs.Prelude.{◌≡◌, ℕ, suc, Bool, true, false, ◌&&◌, ◌==◌, if◌then◌else◌, List, [], ◌∷◌, ◌++◌}
use Rattle.std.specs.Char.{is_whitespace}
use Rattle.wgsl_model.specs.Tokens.Characters.{is_line_break}
use Rattle.wgsl_model.specs.Tokens.Trivia.{Place, outside, in_line, in_block, second, out_of_block, first_or_zero}

-- ---- places

-- A character at such a place, which others follow: the place of the next. A line comment lasts up
-- to a line break, which counts as in it.
abbrev pub next_place : Place → ℕ → List ℕ → Place
next_place outside c cs =
    if c == 47 && first_or_zero cs == 47 then second in_line
    else if c == 47 && first_or_zero cs == 42 then second (in_block 0)
    else outside
next_place in_line c cs = if is_line_break c then outside else in_line
next_place (in_block n) c cs =
    if c == 47 && first_or_zero cs == 42 then second (in_block (suc n))
    else if c == 42 && first_or_zero cs == 47 then second (out_of_block n)
    else in_block n
next_place (second p) c cs = p

-- a front that begins at such a place: the place of the rest
abbrev pub place_after : Place → List ℕ → List ℕ → Place
place_after p [] rest = p
place_after p (c ∷ front) rest = place_after (next_place p c (front ++ rest)) front rest

-- the place of what follows the front of a text
abbrev pub place_of : List ℕ → List ℕ → Place
place_of front rest = place_after outside front rest

-- inside a block comment, between its signs
abbrev pub in_block_comment : Place → Bool
in_block_comment (in_block n) = true
in_block_comment p = false

-- ---- lines

-- Every line break outside block comments is LF.
abbrev pub BreaksLinesByLF : List ℕ → Type 0
BreaksLinesByLF text =
    (front rest : List ℕ) (d : ℕ) → text ≡ front ++ (d ∷ rest) → is_line_break d ≡ true
    → in_block_comment (place_of front (d ∷ rest)) ≡ false → d ≡ 10

-- No line ends with white space, but in block comments: a white character before a line break is
-- the end of the line before, so the line is empty.
abbrev pub HasNoTrailingWhiteSpace : List ℕ → Type 0
HasNoTrailingWhiteSpace text =
    (front rest : List ℕ) (c d : ℕ) → text ≡ front ++ (c ∷ (d ∷ rest)) → is_whitespace c ≡ true → is_line_break d ≡ true
    → in_block_comment (place_of (front ++ (c ∷ [])) (d ∷ rest)) ≡ false → c ≡ 10

-- After its first line, no two lines of the text one after the other are empty, but in block
-- comments.
abbrev pub HasNoTwoEmptyLines : List ℕ → Type 0
HasNoTwoEmptyLines text =
    (front rest : List ℕ) → text ≡ front ++ (10 ∷ (10 ∷ (10 ∷ rest)))
    → in_block_comment (place_of front (10 ∷ (10 ∷ (10 ∷ rest)))) ≡ true

-- The text does not begin with a line break.
abbrev pub BeginsWithNoLineBreak : List ℕ → Type 0
BeginsWithNoLineBreak text = (c : ℕ) (rest : List ℕ) → text ≡ c ∷ rest → is_line_break c ≡ false

-- The text is empty, or ends in a block comment that is not closed, or ends with one line break,
-- before which there is no white space.
pub data EndsWithOneLineEnd (text : List ℕ) : Type 0 where
  no_text : text ≡ [] → EndsWithOneLineEnd text
  in_open_comment : in_block_comment (place_of text []) ≡ true → EndsWithOneLineEnd text
  with_line_end : (front : List ℕ) (c : ℕ) → text ≡ front ++ (c ∷ (10 ∷ []))
      → is_whitespace c ≡ false → EndsWithOneLineEnd text

-- Every LF of the text is after CR.
abbrev pub EndsLinesWithCRLF : List ℕ → Type 0
EndsLinesWithCRLF text = (front rest : List ℕ) → text ≡ front ++ (10 ∷ rest)
    → (before : List ℕ) × (front ≡ before ++ (13 ∷ []))

-- No LF of the text is after CR.
abbrev pub HasNoCRLF : List ℕ → Type 0
HasNoCRLF text = (front rest : List ℕ) → text ≡ front ++ (13 ∷ (10 ∷ rest)) → ⊥
