-- Where comments end, and where none begins.
use Rattle.std.proofs.Common.{◌≡◌, ℕ, zero, suc, Bool, true, false, ◌==◌, ◌&&◌, cond, not, refl, sym, ap, subst, ◌∙◌, List, [], ◌∷◌, ◌++◌, Option, Some, None, length, chars, arith}
use Rattle.std.specs.Char.{is_whitespace}
use Rattle.std.specs.Str.{IsUtf8, drop_trailing_whitespace, trim_end}
use Rattle.std.proofs.lemmas.Bool.{ne_eqb}
use Rattle.std.proofs.lemmas.Grind.{common_steps}
use Rattle.grammar.specs.Tables.{is_empty}
use Rattle.wgsl_model.specs.Tokens.Characters.{is_blank, is_line_break}
use Rattle.wgsl_model.specs.Tokens.ClassTable.{LineComment, BlockComment}
use Rattle.wgsl_model.specs.Tokens.Trivia.{outside, in_line, in_block}
use Rattle.wgsl_model_tidy.specs.Pieces.{Piece, OpenComment, comments, put}
use Rattle.wgsl_theory_tidy.proofs.Comments.{piece, trimmed, OnLine, AtLineEnd, line_comment, no_comment, other_sign}
use Rattle.wgsl_lex_scanner.specs.Digits.{skip_while}
use Rattle.wgsl_lex_scanner.specs.Trivia.{BeginsWithNone, after_line, after_block}
use Rattle.wgsl_lex_scanner.proofs.Bytes.{chars_of}
use Rattle.wgsl_lex_scanner.proofs.Pieces.{block_goes}
use Rattle.wgsl_lex_scanner.proofs.Walk.{run_of, run_is}
use Rattle.wgsl_format_layout.specs.Comments.{IsNone}

-- ---- where no comment begins

pub none_begins : (text : List ℕ) → BeginsWithNone text → IsNone text
none_begins text h b n c cs e =
    let at = subst BeginsWithNone e h in ap (comments b outside n) e ∙ no_comment b n c cs at.1 at.2

blank_is_no_slash : (c : ℕ) → is_blank c ≡ true → (c == 47) ≡ false
blank_is_no_slash c h = grind (arith, common_steps)

pub blank_begins : (d : ℕ) (text ds : List ℕ) → text ≡ d ∷ ds → is_blank d ≡ true → IsNone text
blank_begins d text ds e h b n c cs f =
    let same : c ≡ d = cc in
    let other = blank_is_no_slash c (ap is_blank same ∙ h) in
    ap (comments b outside n) f ∙ no_comment b n c cs (rw other refl) (rw other refl)

-- ---- line comments

-- the characters of a line
abbrev pub line_of : List ℕ → List ℕ
line_of text = run_of (λ c. not (is_line_break c)) text

on_line : (text : List ℕ) → OnLine (line_of text)
unfolding run_of
on_line [] = tt
on_line (c ∷ cs) = go (is_line_break c) refl (on_line cs)
  where
    go : (b : Bool) → is_line_break c ≡ b → OnLine (line_of cs) → OnLine (cond (not b) (c ∷ line_of cs) [])
    go true e h = tt
    go false e h = (e, h)

at_line_end : (text : List ℕ) → AtLineEnd (after_line text)
unfolding skip_while
at_line_end [] = tt
at_line_end (c ∷ cs) = go (is_line_break c) refl (at_line_end cs)
  where
    go : (b : Bool) → is_line_break c ≡ b → AtLineEnd (after_line cs)
        → AtLineEnd (cond (not b) (after_line cs) (c ∷ cs))
    go true e h = e
    go false e h = h

-- the sign and the line before the rest
pub whole : (body rest : List ℕ) → rest ≡ after_line body → 47 ∷ (47 ∷ body) ≡ (47 ∷ (47 ∷ line_of body)) ++ rest
whole body rest e = ap (λ xs. 47 ∷ (47 ∷ xs))
    (run_is (λ c. not (is_line_break c)) body ∙ ap (λ xs. line_of body ++ xs) (sym e))

-- a line comment whose sign is before the text
pub told_line : (b : ℕ → List Piece) (n : ℕ) (body rest : List ℕ) → rest ≡ after_line body
    → comments b in_line n body ≡ piece LineComment (trimmed (line_of body)) n ∷ comments b outside 0 rest
told_line b n body rest e =
    ap (comments b in_line n) (run_is (λ c. not (is_line_break c)) body)
    ∙ line_comment b n (line_of body) (after_line body) (on_line body) (at_line_end body)
    ∙ ap (λ xs. piece LineComment (trimmed (line_of body)) n ∷ comments b outside 0 xs) (sym e)

is_none : (xs : List ℕ) → (length xs == 0) ≡ is_empty xs
is_none [] = refl
is_none (x ∷ xs) = ne_eqb (suc (length xs)) 0 (λ e. absurd (omega (arith, e)))

trimmed_is : (xs : List ℕ) → drop_trailing_whitespace xs ≡ trimmed xs
trimmed_is [] = refl
trimmed_is (x ∷ xs) =
    ap (λ ys. cond (is_whitespace x && length ys == 0) [] (x ∷ ys)) (trimmed_is xs)
    ∙ ap (λ b. cond (is_whitespace x && b) [] (x ∷ trimmed xs)) (is_none (trimmed xs))

-- with its sign, by its bytes
pub trimmed_comment : (bs cut xs : List ℕ) → IsUtf8 cut → chars bs ≡ 47 ∷ (47 ∷ xs)
    → cut ≡ trim_end bs → chars cut ≡ 47 ∷ (47 ∷ trimmed xs)
unfolding trim_end
trimmed_comment bs cut xs u e is = chars_of cut (drop_trailing_whitespace (chars bs)) u is
    ∙ ap drop_trailing_whitespace e ∙ ap (λ ys. 47 ∷ (47 ∷ ys)) (trimmed_is xs)

-- ---- block comments

-- pieces that begin in a block comment: the comment goes up to a rest, or to the end of the text
abbrev pub Ends : ((ℕ → List Piece) → ℕ → List Piece) → List ℕ → Option (List ℕ) → Type 0
Ends pieces text None = (b : ℕ → List Piece) (n : ℕ) → pieces b n ≡ piece OpenComment text n ∷ b 0
Ends pieces text (Some rest) = (front : List ℕ) × (text ≡ front ++ rest)
    × ((b : ℕ → List Piece) (n : ℕ) → pieces b n ≡ piece BlockComment front n ∷ comments b outside 0 rest)

-- with a character more
more : (after pieces : (ℕ → List Piece) → ℕ → List Piece) (c : ℕ) (text : List ℕ) (r : Option (List ℕ))
    → ((b : ℕ → List Piece) (n : ℕ) → pieces b n ≡ put c (after b n)) → Ends after text r
    → Ends pieces (c ∷ text) r
more after pieces c text None h e = λ b n. h b n ∙ ap (put c) (e b n)
more after pieces c text (Some rest) h (front, whole, is) =
    (c ∷ front, ap (λ xs. c ∷ xs) whole, λ b n. h b n ∙ ap (put c) (is b n))

-- the pieces of a text in a block comment that is in a number of others
abbrev in_comment : ℕ → List ℕ → (ℕ → List Piece) → ℕ → List Piece
in_comment depth text = λ b n. comments b (in_block depth) n text

abbrev EndsIn : ℕ → List ℕ → Type 0
EndsIn depth text = Ends (in_comment depth text) text (after_block depth text)

-- the same after a closing sign
abbrev EndsOut : ℕ → List ℕ → Type 0
EndsOut zero text = Unit {0}
EndsOut (suc depth) text = EndsIn depth text

last_ends : (depth c : ℕ) (a d : Bool) → (c == 47 && false) ≡ a → (c == 42 && false) ≡ d → EndsIn depth (c ∷ [])
unfolding comments after_block
last_ends depth c true d e f = λ b n. rw e refl
last_ends depth c false true e f = λ b n. rw (e, f) refl
last_ends depth c false false e f = λ b n. rw (e, f) refl

sign_ends : (p q c d : ℕ) (cs : List ℕ) (r : Option (List ℕ)) → ((b : ℕ → List Piece) (n : ℕ)
    → comments b (in_block p) n (c ∷ (d ∷ cs)) ≡ put c (put d (comments b (in_block q) n cs)))
    → Ends (in_comment q cs) cs r → Ends (in_comment p (c ∷ (d ∷ cs))) (c ∷ (d ∷ cs)) r
sign_ends p q c d cs r h e =
    let inner : (ℕ → List Piece) → ℕ → List Piece = λ b n. put d (comments b (in_block q) n cs) in
    more inner (in_comment p (c ∷ (d ∷ cs))) c (d ∷ cs) r h (more (in_comment q cs) inner d cs r (λ b n. refl) e)

opened_at : (depth c d : ℕ) (cs : List ℕ) → (c == 47 && d == 42) ≡ true
    → after_block depth (c ∷ (d ∷ cs)) ≡ after_block (suc depth) cs
unfolding after_block
opened_at zero c d cs h = rw h refl
opened_at (suc depth) c d cs h = rw h refl

ended_at : (c d : ℕ) (cs : List ℕ) → (c == 47 && d == 42) ≡ false → (c == 42 && d == 47) ≡ true
    → after_block 0 (c ∷ (d ∷ cs)) ≡ Some cs
unfolding after_block
ended_at c d cs h k = rw (h, k) refl

closed_at : (depth c d : ℕ) (cs : List ℕ) → (c == 47 && d == 42) ≡ false
    → (c == 42 && d == 47) ≡ true → after_block (suc depth) (c ∷ (d ∷ cs)) ≡ after_block depth cs
unfolding after_block
closed_at depth c d cs h k = rw (h, k) refl

opened : (depth c d : ℕ) (cs : List ℕ) → (c == 47 && d == 42) ≡ true → EndsIn (suc depth) cs
    → EndsIn depth (c ∷ (d ∷ cs))
unfolding comments
opened depth c d cs h e =
    let text = c ∷ (d ∷ cs) in
    subst (Ends (in_comment depth text) text) (sym (opened_at depth c d cs h))
    (sign_ends depth (suc depth) c d cs (after_block (suc depth) cs) (λ b n. rw h refl) e)

closed : (depth c d : ℕ) (cs : List ℕ) → (c == 47 && d == 42) ≡ false → (c == 42 && d == 47) ≡ true
    → EndsOut depth cs → EndsIn depth (c ∷ (d ∷ cs))
unfolding comments
closed zero c d cs h k e =
    let text = c ∷ (d ∷ cs) in
    subst (Ends (in_comment 0 text) text) (sym (ended_at c d cs h k)) (c ∷ (d ∷ []), refl, λ b n. rw (h, k) refl)
closed (suc depth) c d cs h k e =
    let text = c ∷ (d ∷ cs) in
    subst (Ends (in_comment (suc depth) text) text) (sym (closed_at depth c d cs h k))
    (sign_ends (suc depth) depth c d cs (after_block depth cs) (λ b n. rw (h, k) refl) e)

two_ends : (depth c d : ℕ) (cs : List ℕ) (a e : Bool) → (c == 47 && d == 42) ≡ a → (c == 42 && d == 47) ≡ e
    → EndsIn (suc depth) cs → EndsOut depth cs → EndsIn depth (d ∷ cs) → EndsIn depth (c ∷ (d ∷ cs))
two_ends depth c d cs true e h k inner outer same = opened depth c d cs h inner
two_ends depth c d cs false true h k inner outer same = closed depth c d cs h k outer
two_ends depth c d cs false false h k inner outer same =
    let text = c ∷ (d ∷ cs) in
    subst (Ends (in_comment depth text) text) (sym (block_goes depth c (d ∷ cs) h k))
    (more (in_comment depth (d ∷ cs)) (in_comment depth text) c (d ∷ cs)
    (after_block depth (d ∷ cs)) (λ b n. other_sign b n depth c (d ∷ cs) h k) same)

block_ends : (depth : ℕ) (text : List ℕ) → EndsIn depth text
unfolding comments after_block
block_ends depth [] = λ b n. refl
block_ends depth (c ∷ []) = last_ends depth c (c == 47 && false) (c == 42 && false) refl refl
block_ends zero (c ∷ (d ∷ cs)) = two_ends zero c d cs (c == 47 && d == 42)
    (c == 42 && d == 47) refl refl (block_ends 1 cs) tt (block_ends zero (d ∷ cs))
block_ends (suc depth) (c ∷ (d ∷ cs)) = two_ends (suc depth) c d cs (c == 47 && d == 42)
    (c == 42 && d == 47) refl refl (block_ends (suc (suc depth)) cs) (block_ends depth cs)
    (block_ends (suc depth) (d ∷ cs))

-- what is known of the end of a comment
pub told_end : (text : List ℕ) (r : Option (List ℕ)) → r ≡ after_block 0 text → Ends (in_comment 0 text) text r
told_end text r e = subst (Ends (in_comment 0 text) text) (sym e) (block_ends 0 text)
