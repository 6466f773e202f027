-- How deep the lines of a text are that begin with a closing bracket.
use Rattle.std.specs.Prelude.{◌≡◌, ℕ, suc, Bool, true, false, not, ◌-◌, ◌&&◌, ◌||◌, ◌==◌, if◌then◌else◌, List, [], ◌∷◌, ◌++◌}
use Rattle.wgsl_model.specs.Tokens.Characters.{is_blank, is_line_break}
use Rattle.wgsl_model.specs.Tokens.Trivia.{Place, outside}
use Rattle.wgsl_model_tidy.specs.Lines.{next_place, place_of, in_block_comment}

-- ---- lines

-- a line up to a place: blank space alone, or more after that, or a line that begins inside a block
-- comment
pub data Line : Type 0 where
  blank begun : List ℕ → Line
  in_comment : Line

-- the line with a character more, which does not end it
abbrev pub extended : Line → ℕ → Line
extended (blank space) c = if is_blank c then blank (space ++ (c ∷ [])) else begun space
extended line c = line

-- the line up to after a character at such a place
abbrev pub next_line : Place → Line → ℕ → Line
next_line p line c = if is_line_break c then (if in_block_comment p then in_comment else blank []) else extended line c

-- the same after a front that begins at such a place
abbrev pub line_after : Place → Line → List ℕ → List ℕ → Line
line_after p line [] rest = line
line_after p line (c ∷ front) rest = line_after (next_place p c (front ++ rest)) (next_line p line c) front rest

-- the line up to what follows the front of a text
abbrev pub line_of : List ℕ → List ℕ → Line
line_of front rest = line_after outside (blank []) front rest

-- ---- brackets

-- a character at such a place is a bracket that opens: `(` or `[`, outside comments
abbrev pub opens_at : Place → ℕ → Bool
opens_at outside c = c == 40 || c == 91
opens_at p c = false

-- or one that closes: `)` or `]`
abbrev pub closes_at : Place → ℕ → Bool
closes_at outside c = c == 41 || c == 93
closes_at p c = false

-- how many brackets are open after a character at such a place, with a number of before it
abbrev pub next_depth : Place → ℕ → ℕ → ℕ
next_depth p n c = if opens_at p c then suc n else if closes_at p c then n - 1 else n

-- a number of brackets are open before a front that begins at such a place: these and those that
-- open in it close in it, and no others do
abbrev pub are_paired : Place → ℕ → List ℕ → List ℕ → Bool
are_paired p n [] rest = n == 0
are_paired p n (c ∷ front) rest = not (closes_at p c && n == 0)
    && are_paired (next_place p c (front ++ rest)) (next_depth p n c) front rest

-- an opening bracket and the closing one that belongs to it: between them each bracket has its own
pub record BracketPair (text : List ℕ) : Type 0 where
  pub before : List ℕ
  pub opening : ℕ
  pub inside : List ℕ
  pub closing : ℕ
  pub rest : List ℕ
  pub whole : text ≡ before ++ (opening ∷ (inside ++ (closing ∷ rest)))
  pub opens : opens_at (place_of before (opening ∷ (inside ++ (closing ∷ rest)))) opening ≡ true
  pub paired : are_paired outside 0 inside (closing ∷ rest) ≡ true
  pub closes : closes_at (place_of (before ++ (opening ∷ inside)) (closing ∷ rest)) closing ≡ true

-- A closing bracket that begins a line has the same blank space before it as the line of its
-- opening bracket, if neither line begins inside a block comment.
abbrev pub AlignsClosingBrackets : List ℕ → Type 0
AlignsClosingBrackets text =
    (pair : BracketPair text) (start space : List ℕ)
    → line_of (pair.before ++ (pair.opening ∷ [])) (pair.inside ++ (pair.closing ∷ pair.rest)) ≡ begun start
    → line_of (pair.before ++ (pair.opening ∷ pair.inside)) (pair.closing ∷ pair.rest) ≡ blank space
    → space ≡ start
