-- The comments at the front of a text, each with what is after it.
use Rattle.std.proofs.Common.{◌≡◌, ℕ, ◌+◌, ◌==◌, ◌&&◌, Bool, true, false, cond, refl, sym, ap, ◌∙◌, List, [], ◌∷◌, ◌++◌, arith}
use Rattle.std.specs.Char.{is_whitespace}
use Rattle.std.proofs.lemmas.Bool.{and_parts, true≢false}
use Rattle.std.proofs.lemmas.Grind.{common_steps}
use Rattle.grammar.specs.Tables.{is_empty}
use Rattle.wgsl_model.specs.Tokens.Characters.{is_line_break}
use Rattle.wgsl_model.specs.Tokens.ClassTable.{LineComment}
use Rattle.wgsl_model.specs.Tokens.Trivia.{outside, in_line, in_block, first_or_zero}
use Rattle.wgsl_model_tidy.specs.Pieces.{Piece, comments, put, line_ends_at}

-- a piece by its parts
abbrev pub piece : ℕ → List ℕ → ℕ → Piece
piece class text n = record { class = class; text = text; line_ends = n }

-- ---- where no comment begins

pub no_comment : (b : ℕ → List Piece) (n c : ℕ) (cs : List ℕ)
    → (c == 47 && first_or_zero cs == 47) ≡ false → (c == 47 && first_or_zero cs == 42) ≡ false
    → comments b outside n (c ∷ cs) ≡ comments b outside (n + line_ends_at c cs) cs
unfolding comments
no_comment b n c cs h k = rw (h, k) refl

-- ---- line comments

-- a text without the white space at its end
abbrev pub trimmed : List ℕ → List ℕ
trimmed [] = []
trimmed (c ∷ cs) = cond (is_whitespace c && is_empty (trimmed cs)) [] (c ∷ trimmed cs)

-- no character ends a line
abbrev pub OnLine : List ℕ → Type 0
OnLine [] = Unit {0}
OnLine (c ∷ cs) = (is_line_break c ≡ false) × OnLine cs

-- the text ends, or a line ends at its front
abbrev pub AtLineEnd : List ℕ → Type 0
AtLineEnd [] = Unit {0}
AtLineEnd (c ∷ cs) = is_line_break c ≡ true

break_is_no_slash : (c : ℕ) → is_line_break c ≡ true → (c == 47) ≡ false
break_is_no_slash c h = grind (arith, common_steps)

none_more : (m : ℕ) → 0 + m ≡ m
none_more m = omega arith

ends_line : (b : ℕ → List Piece) (n c : ℕ) (cs : List ℕ) → is_line_break c ≡ true
    → comments b in_line n (c ∷ cs) ≡ piece LineComment [] n ∷ comments b outside (line_ends_at c cs) cs
unfolding comments
ends_line b n c cs h = rw h refl

over_break : (b : ℕ → List Piece) (c : ℕ) (cs : List ℕ) → is_line_break c ≡ true
    → comments b outside 0 (c ∷ cs) ≡ comments b outside (0 + line_ends_at c cs) cs
over_break b c cs h = let other = break_is_no_slash c h in no_comment b 0 c cs (rw other refl) (rw other refl)

grown : (c n : ℕ) (text : List ℕ) (ps : List Piece) (b : Bool) → (is_whitespace c && is_empty text) ≡ b
    → cond b (piece LineComment text n ∷ ps) (piece LineComment (c ∷ text) n ∷ ps)
    ≡ piece LineComment (cond b [] (c ∷ text)) n ∷ ps
grown c n [] ps true e = refl
grown c n (d ∷ ds) ps true e = absurd (true≢false (sym (and_parts (is_whitespace c) false e).1))
grown c n text ps false e = refl

-- a line comment, whose sign is before the text, goes up to the end of the line
pub line_comment : (b : ℕ → List Piece) (n : ℕ) (xs rest : List ℕ) → OnLine xs → AtLineEnd rest
    → comments b in_line n (xs ++ rest) ≡ piece LineComment (trimmed xs) n ∷ comments b outside 0 rest
unfolding comments
line_comment b n [] [] h e = refl
line_comment b n [] (c ∷ cs) h e = ends_line b n c cs e ∙ ap (λ ps. piece LineComment [] n ∷ ps)
    (ap (λ m. comments b outside m cs) (sym (none_more (line_ends_at c cs))) ∙ sym (over_break b c cs e))
line_comment b n (x ∷ xs) rest h e = rw (h.0, line_comment b n xs rest h.1 e)
    (grown x n (trimmed xs) (comments b outside 0 rest) (is_whitespace x && is_empty (trimmed xs)) refl)

-- with its sign
pub whole_line : (b : ℕ → List Piece) (n : ℕ) (body front rest : List ℕ)
    → comments b in_line n body ≡ piece LineComment front n ∷ comments b outside 0 rest
    → comments b outside n (47 ∷ (47 ∷ body)) ≡ piece LineComment (47 ∷ (47 ∷ front)) n ∷ comments b outside 0 rest
unfolding comments
whole_line b n body front rest e = rw e refl

-- ---- block comments

-- no comment opens or closes at the first character
pub other_sign : (b : ℕ → List Piece) (n depth c : ℕ) (cs : List ℕ)
    → (c == 47 && first_or_zero cs == 42) ≡ false → (c == 42 && first_or_zero cs == 47) ≡ false
    → comments b (in_block depth) n (c ∷ cs) ≡ put c (comments b (in_block depth) n cs)
unfolding comments
other_sign b n depth c cs h k = rw (h, k) refl

-- with its sign
pub whole_block : (b : ℕ → List Piece) (n class : ℕ) (body front : List ℕ) (ps : List Piece)
    → comments b (in_block 0) n body ≡ piece class front n ∷ ps
    → comments b outside n (47 ∷ (42 ∷ body)) ≡ piece class (47 ∷ (42 ∷ front)) n ∷ ps
unfolding comments
whole_block b n class body front ps e = rw e refl

pub nothing_left : (b : ℕ → List Piece) (n : ℕ) → comments b outside n [] ≡ b n
unfolding comments
nothing_left b n = refl

-- a test of two characters fails where the second does
pub and_false : (b : Bool) → (b && false) ≡ false
and_false true = refl
and_false false = refl
