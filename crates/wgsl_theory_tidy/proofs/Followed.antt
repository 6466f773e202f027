-- Whether a token follows in the line, where comments are before it.
use Rattle.std.proofs.Common.{◌≡◌, ℕ, zero, suc, ◌+◌, ◌<◌, ◌≤◌, ◌==◌, ◌&&◌, Bool, true, false, cond, refl, ap, ◌∙◌, List, [], ◌∷◌, arith}
use Rattle.std.specs.Char.{is_whitespace}
use Rattle.grammar.specs.Tables.{is_empty}
use Rattle.wgsl_model.specs.Tokens.ClassTable.{LineComment}
use Rattle.wgsl_model.specs.Tokens.Characters.{is_line_break}
use Rattle.wgsl_model.specs.Tokens.Trivia.{Place, outside, in_line, in_block, second, out_of_block, first_or_zero}
use Rattle.wgsl_model_tidy.specs.Pieces.{Piece, comment, comments, put, put_in_line, line_ends_at}
use Rattle.wgsl_model_tidy.specs.Ahead.{is_comment}
use Rattle.wgsl_model_tidy.specs.LaidOut.{is_followed}
use Rattle.wgsl_theory_tidy.proofs.Comments.{piece}

put_followed : (c : ℕ) (ps : List Piece) → is_followed (put c ps) ≡ is_followed ps
put_followed c [] = refl
put_followed c (p ∷ ps) = refl

-- none does in either
either_none : (b : Bool) (ps qs : List Piece) → is_followed ps ≡ false → is_followed qs ≡ false
    → is_followed (cond b ps qs) ≡ false
either_none true ps qs h k = h
either_none false ps qs h k = k

put_none : (c : ℕ) (ps : List Piece) → is_followed ps ≡ false → is_followed (put c ps) ≡ false
put_none c ps h = put_followed c ps ∙ h

put_in_line_none : (c : ℕ) (ps : List Piece) → is_followed ps ≡ false → is_followed (put_in_line c ps) ≡ false
put_in_line_none c [] h = h
put_in_line_none c (p ∷ ps) h = either_none (is_whitespace c && is_empty p.text) (p ∷ ps) (put c (p ∷ ps)) h h

one_more : (n k : ℕ) → suc n + k ≡ suc (n + k)
one_more n k = omega arith

-- a piece after a line break does not follow
no_zero : (n : ℕ) → (suc n == 0) ≡ false
no_zero n = grind arith

pub after_end : (n : ℕ) (b : Bool) → (suc n == 0 && b) ≡ false
after_end n b = rw (no_zero n) refl

-- after a line break none does
pub none_after : (following : ℕ → List Piece) → ((m : ℕ) → is_followed (following (suc m)) ≡ false)
    → (p : Place) (n : ℕ) (text : List ℕ) → is_followed (comments following p (suc n) text) ≡ false
unfolding comments
none_after following h outside n [] = h n
none_after following h outside n (c ∷ cs) =
    either_none (c == 47 && first_or_zero cs == 47) (put c (comments following (second in_line) (suc n) cs))
    (cond (c == 47 && first_or_zero cs == 42) (put c (comments following (second (in_block 0)) (suc n) cs))
    (comments following outside (suc n + line_ends_at c cs) cs))
    (put_none c (comments following (second in_line) (suc n) cs) (none_after following h (second in_line) n cs))
    (either_none (c == 47 && first_or_zero cs == 42) (put c (comments following (second (in_block 0))
    (suc n) cs)) (comments following outside (suc n + line_ends_at c cs) cs)
    (put_none c (comments following (second (in_block 0)) (suc n) cs)
    (none_after following h (second (in_block 0)) n cs))
    (ap (λ m. is_followed (comments following outside m cs)) (one_more n (line_ends_at c cs))
    ∙ none_after following h outside (n + line_ends_at c cs) cs))
none_after following h in_line n [] = after_end n _
none_after following h in_line n (c ∷ cs) =
    either_none (is_line_break c)
    (comment LineComment (suc n) ∷ comments following outside (line_ends_at c cs) cs)
    (put_in_line c (comments following in_line (suc n) cs))
    (after_end n _)
    (put_in_line_none c (comments following in_line (suc n) cs) (none_after following h in_line n cs))
none_after following h (in_block depth) n [] = after_end n _
none_after following h (in_block depth) n (c ∷ cs) =
    either_none (c == 47 && first_or_zero cs == 42)
    (put c (comments following (second (in_block (suc depth))) (suc n) cs))
    (cond (c == 42 && first_or_zero cs == 47) (put c (comments following (second (out_of_block depth))
    (suc n) cs)) (put c (comments following (in_block depth) (suc n) cs)))
    (put_none c (comments following (second (in_block (suc depth))) (suc n) cs)
    (none_after following h (second (in_block (suc depth))) n cs))
    (either_none (c == 42 && first_or_zero cs == 47) (put c (comments following
    (second (out_of_block depth)) (suc n) cs)) (put c (comments following (in_block depth) (suc n) cs))
    (put_none c (comments following (second (out_of_block depth)) (suc n) cs)
    (none_after following h (second (out_of_block depth)) n cs))
    (put_none c (comments following (in_block depth) (suc n) cs) (none_after following h (in_block depth) n cs)))
none_after following h (second p) n [] = after_end n _
none_after following h (second outside) n (c ∷ cs) = after_end n _
none_after following h (second in_line) n (c ∷ cs) = put_none c (comments following in_line (suc n) cs)
    (none_after following h in_line n cs)
none_after following h (second (in_block depth)) n (c ∷ cs) = put_none c
    (comments following (in_block depth) (suc n) cs) (none_after following h (in_block depth) n cs)
none_after following h (second (second p)) n (c ∷ cs) = put_none c
    (comments following (second p) (suc n) cs) (none_after following h (second p) n cs)

-- one follows a comment without a line break before it, where one follows after the comment
pub over_comment : (class : ℕ) (text : List ℕ) (ps : List Piece) → is_comment class ≡ true
    → is_followed (piece class text 0 ∷ ps) ≡ is_followed ps
over_comment class text ps h = rw h refl

-- none does after some line breaks, and no line break changes nothing
pub ended : (following : ℕ → List Piece) → ((m : ℕ) → is_followed (following (suc m)) ≡ false)
    → (k : ℕ) (text : List ℕ) → 0 < k → is_followed (comments following outside (0 + k) text) ≡ false
ended following h zero text e = absurd (omega (arith, e))
ended following h (suc n) text e =
    let same : 0 + suc n ≡ suc n = omega arith in
    ap (λ m. is_followed (comments following outside m text)) same ∙ none_after following h outside n text

pub not_ended : (k : ℕ) → k ≤ 0 → 0 + k ≡ 0
not_ended k e = omega (arith, e)
