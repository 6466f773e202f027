-- A text with CR LF in place of each LF: its pieces are the same, but for the line ends in them.
use Rattle.std.proofs.Common.{◌≡◌, ℕ, suc, ◌+◌, ◌==◌, ◌&&◌, Bool, true, false, cond, refl, sym, ap, subst, ◌∙◌, List, [], ◌∷◌, map, arith}
use Rattle.std.specs.Char.{is_whitespace}
use Rattle.std.proofs.lemmas.Bool.{eqb-true}
use Rattle.grammar.specs.Tables.{is_empty}
use Rattle.wgsl_model.specs.Tokens.Characters.{is_line_break}
use Rattle.wgsl_model.specs.Tokens.ClassTable.{LineComment, BlockComment}
use Rattle.wgsl_model.specs.Tokens.Trivia.{Place, outside, in_line, in_block, second, out_of_block, first_or_zero}
use Rattle.wgsl_model_tidy.specs.Pieces.{Piece, OpenComment, comment, comments, put, put_in_line, line_ends_at}
use Rattle.wgsl_model_tidy.specs.Formatted.{with_crlf}
use Rattle.wgsl_theory_tidy.proofs.Kept.TextFronts.{by_test}
use Rattle.wgsl_theory_tidy.proofs.Kept.CrlfTrivia.{crlf_other, first_same, IsSign, out_first, sign_at}

-- no CR is directly before LF
abbrev pub HasNoCrlf : List ℕ → Type 0
HasNoCrlf [] = Unit {0}
HasNoCrlf (c ∷ cs) = ((c == 13 && first_or_zero cs == 10) ≡ false) × HasNoCrlf cs

-- a piece with CR LF in place of each LF
abbrev pub crlf_piece : Piece → Piece
crlf_piece p = record { class = p.class; text = with_crlf p.text; line_ends = p.line_ends }

-- ---- one character of a comment

put_other : (c : ℕ) (ps : List Piece) → (c == 10) ≡ false → put c (map crlf_piece ps) ≡ map crlf_piece (put c ps)
put_other c [] e = refl
put_other c (p ∷ ps) e =
    ap (λ (text : List ℕ). (record { class = p.class; text = text; line_ends = p.line_ends }) ∷ map crlf_piece ps)
    (sym (crlf_other c p.text e))

put_lf : (ps : List Piece) → put 13 (put 10 (map crlf_piece ps)) ≡ map crlf_piece (put 10 ps)
put_lf [] = refl
put_lf (p ∷ ps) = refl

empty_same : (xs : List ℕ) → is_empty (with_crlf xs) ≡ is_empty xs
empty_same [] = refl
empty_same (x ∷ xs) =
    by_test (x == 10) (λ e. subst (λ c. is_empty (with_crlf (c ∷ xs)) ≡ false) (sym (eqb-true x 10 e)) refl)
    (λ e. ap is_empty (crlf_other x xs e))

put_in_line_other : (c : ℕ) (ps : List Piece) → (c == 10) ≡ false
    → put_in_line c (map crlf_piece ps) ≡ map crlf_piece (put_in_line c ps)
put_in_line_other c [] e = refl
put_in_line_other c (p ∷ ps) e =
    ap (λ b. cond (is_whitespace c && b) (crlf_piece p ∷ map crlf_piece ps)
    (put c (crlf_piece p ∷ map crlf_piece ps))) (empty_same p.text)
    ∙ by_test (is_whitespace c && is_empty p.text) (λ h. rw h refl) (λ h. rw h (put_other c (p ∷ ps) e))

-- ---- line ends

ends_same : (c : ℕ) (cs : List ℕ) → (c == 10) ≡ false → (c == 13 && first_or_zero cs == 10) ≡ false
    → line_ends_at c (with_crlf cs) ≡ line_ends_at c cs
ends_same c [] e h = refl
ends_same c (d ∷ ds) e h =
    by_test (d == 10)
    (λ t. (let first : (c == 13 && first_or_zero (with_crlf (d ∷ ds)) == 10) ≡ (c == 13 && false) = subst (λ x.
    (c == 13 && first_or_zero (with_crlf (x ∷ ds)) == 10) ≡ (c == 13 && false)) (sym (eqb-true d 10 t)) refl in
    ap (λ b. cond b 0 (cond (is_line_break c) 1 0)) (first ∙ no_more (c == 13) ∙ sym h)))
    (λ t. ap (λ xs. line_ends_at c xs) (crlf_other d ds t))
  where
    no_more : (b : Bool) → (b && false) ≡ false
    no_more true = refl
    no_more false = refl

-- ---- the comments of a text

-- what is after the comments
abbrev Changed : (ℕ → List Piece) → (ℕ → List Piece) → Type 0
Changed after before = (n : ℕ) → after n ≡ map crlf_piece (before n)

abbrev Same : (ℕ → List Piece) → (ℕ → List Piece) → Place → ℕ → List ℕ → Type 0
Same after before p n t = comments after p n (with_crlf t) ≡ map crlf_piece (comments before p n t)

-- at the end of the text
same_end : (after before : ℕ → List Piece) → Changed after before → (p : Place) (n : ℕ) → Same after before p n []
unfolding comments
same_end after before h outside n = h n
same_end after before h in_line n = ap (λ ps. comment LineComment n ∷ ps) (h 0)
same_end after before h (in_block depth) n = ap (λ ps. comment OpenComment n ∷ ps) (h 0)
same_end after before h (second p) n = ap (λ ps. comment OpenComment n ∷ ps) (h 0)

at_lf : (after before : ℕ → List Piece) (p : Place) (n c : ℕ) (cs : List ℕ) → (c == 10) ≡ true
    → Same after before p n (10 ∷ cs) → Same after before p n (c ∷ cs)
at_lf after before p n c cs e h = subst (λ d. Same after before p n (d ∷ cs)) (sym (eqb-true c 10 e)) h

one_end : (n : ℕ) → (n + 0) + 1 ≡ n + 1
one_end n = omega arith

outside_lf : (after before : ℕ → List Piece) (n : ℕ) (cs : List ℕ)
    → Same after before outside (n + 1) cs → Same after before outside n (10 ∷ cs)
unfolding comments
outside_lf after before n cs h = ap (λ m. comments after outside m (with_crlf cs)) (one_end n) ∙ h

line_lf : (after before : ℕ → List Piece) (n : ℕ) (cs : List ℕ) → Same after before outside 1 cs
    → Same after before in_line n (10 ∷ cs)
unfolding comments
line_lf after before n cs h = ap (λ ps. comment LineComment n ∷ ps) h

block_lf : (after before : ℕ → List Piece) (depth n : ℕ) (cs : List ℕ)
    → Same after before (in_block depth) n cs → Same after before (in_block depth) n (10 ∷ cs)
unfolding comments
block_lf after before depth n cs h = ap (λ ps. put 13 (put 10 ps)) h ∙ put_lf (comments before (in_block depth) n cs)

-- a character of a comment before others that are the same
one_put : (c : ℕ) (ps qs : List Piece) → (c == 10) ≡ false → ps ≡ map crlf_piece qs
    → put c ps ≡ map crlf_piece (put c qs)
one_put c ps qs e h = ap (put c) h ∙ put_other c qs e

outside_other : (after before : ℕ → List Piece) (n c : ℕ) (cs : List ℕ) → (c == 10) ≡ false
    → (c == 13 && first_or_zero cs == 10) ≡ false
    → ((c == 47 && first_or_zero cs == 47) ≡ true → Same after before (second in_line) n cs)
    → ((c == 47 && first_or_zero cs == 42) ≡ true → Same after before (second (in_block 0)) n cs)
    → Same after before outside (n + line_ends_at c cs) cs → Same after before outside n (c ∷ cs)
unfolding comments
outside_other after before n c cs e k f g h =
    ap (comments after outside n) (crlf_other c cs e)
    ∙ by_test (c == 47 && first_or_zero cs == 47) (λ s. rw (first_same 47 cs refl refl, s) (one_put c _ _ e (f s)))
    (λ s. by_test (c == 47 && first_or_zero cs == 42)
    (λ t. rw (first_same 47 cs refl refl, s, first_same 42 cs refl refl, t) (one_put c _ _ e (g t)))
    (λ t. rw (first_same 47 cs refl refl, s, first_same 42 cs refl refl, t)
    (ap (λ m. comments after outside (n + m) (with_crlf cs)) (ends_same c cs e k) ∙ h)))

over_break : (b : ℕ → List Piece) (n c : ℕ) (cs : List ℕ) → is_line_break c ≡ true
    → comments b in_line n (c ∷ cs) ≡ comment LineComment n ∷ comments b outside (line_ends_at c cs) cs
unfolding comments
over_break b n c cs h = rw h refl

line_ended : (after before : ℕ → List Piece) (n c : ℕ) (cs : List ℕ) → (c == 10) ≡ false
    → (c == 13 && first_or_zero cs == 10) ≡ false → is_line_break c ≡ true
    → Same after before outside (line_ends_at c cs) cs
    → comments after in_line n (c ∷ with_crlf cs) ≡ map crlf_piece (comments before in_line n (c ∷ cs))
line_ended after before n c cs e k b f =
    over_break after n c (with_crlf cs) b
    ∙ ap (λ ps. comment LineComment n ∷ ps) (ap (λ m. comments after outside m (with_crlf cs)) (ends_same c cs e k) ∙ f)
    ∙ sym (ap (map crlf_piece) (over_break before n c cs b))

line_other : (after before : ℕ → List Piece) (n c : ℕ) (cs : List ℕ) → (c == 10) ≡ false
    → (c == 13 && first_or_zero cs == 10) ≡ false
    → Same after before outside (line_ends_at c cs) cs → Same after before in_line n cs
    → Same after before in_line n (c ∷ cs)
unfolding comments
line_other after before n c cs e k f g =
    ap (comments after in_line n) (crlf_other c cs e)
    ∙ by_test (is_line_break c) (λ b. line_ended after before n c cs e k b f)
    (λ b. rw b (ap (put_in_line c) g ∙ put_in_line_other c (comments before in_line n cs) e))

block_other : (after before : ℕ → List Piece) (depth n c : ℕ) (cs : List ℕ) → (c == 10) ≡ false
    → ((c == 47 && first_or_zero cs == 42) ≡ true → Same after before (second (in_block (suc depth))) n cs)
    → ((c == 42 && first_or_zero cs == 47) ≡ true → Same after before (second (out_of_block depth)) n cs)
    → Same after before (in_block depth) n cs → Same after before (in_block depth) n (c ∷ cs)
unfolding comments
block_other after before depth n c cs e f g h =
    ap (comments after (in_block depth) n) (crlf_other c cs e)
    ∙ by_test (c == 47 && first_or_zero cs == 42) (λ s. rw (first_same 42 cs refl refl, s) (one_put c _ _ e (f s)))
    (λ s. by_test (c == 42 && first_or_zero cs == 47)
    (λ t. rw (first_same 42 cs refl refl, s, first_same 47 cs refl refl, t) (one_put c _ _ e (g t)))
    (λ t. rw (first_same 42 cs refl refl, s, first_same 47 cs refl refl, t) (one_put c _ _ e h)))

-- the second character of a sign
second_outside : (after before : ℕ → List Piece) (n c : ℕ) (cs : List ℕ) → (c == 10) ≡ false
    → Same after before outside 0 cs → Same after before (second outside) n (c ∷ cs)
unfolding comments
second_outside after before n c cs e h = ap (comments after (second outside) n) (crlf_other c cs e)
    ∙ one_put c _ (comment BlockComment n ∷ comments before outside 0 cs) e (ap (λ ps. comment BlockComment n ∷ ps) h)

second_line : (after before : ℕ → List Piece) (n c : ℕ) (cs : List ℕ) → (c == 10) ≡ false
    → Same after before in_line n cs → Same after before (second in_line) n (c ∷ cs)
unfolding comments
second_line after before n c cs e h = ap (comments after (second in_line) n) (crlf_other c cs e) ∙ one_put c _ _ e h

second_block : (after before : ℕ → List Piece) (depth n c : ℕ) (cs : List ℕ) → (c == 10) ≡ false
    → Same after before (in_block depth) n cs → Same after before (second (in_block depth)) n (c ∷ cs)
unfolding comments
second_block after before depth n c cs e h =
    ap (comments after (second (in_block depth)) n) (crlf_other c cs e) ∙ one_put c _ _ e h

-- from any place on
pub comments_crlf : (after before : ℕ → List Piece) → Changed after before
    → (p : Place) (n : ℕ) (t : List ℕ) → HasNoCrlf t → IsSign p t → Same after before p n t
comments_crlf after before h p n [] k s = same_end after before h p n
comments_crlf after before h outside n (c ∷ cs) k s =
    by_test (c == 10) (λ e. at_lf after before outside n c cs e
    (outside_lf after before n cs (comments_crlf after before h outside (n + 1) cs k.1 tt)))
    (λ e. outside_other after before n c cs e k.0
    (λ g. comments_crlf after before h (second in_line) n cs k.1 (tt, sign_at 47 47 c cs refl g))
    (λ g. comments_crlf after before h (second (in_block 0)) n cs k.1 (tt, sign_at 47 42 c cs refl g))
    (comments_crlf after before h outside (n + line_ends_at c cs) cs k.1 tt))
comments_crlf after before h in_line n (c ∷ cs) k s =
    by_test (c == 10) (λ e. at_lf after before in_line n c cs e
    (line_lf after before n cs (comments_crlf after before h outside 1 cs k.1 tt)))
    (λ e. line_other after before n c cs e k.0 (comments_crlf after before h outside
    (line_ends_at c cs) cs k.1 tt) (comments_crlf after before h in_line n cs k.1 tt))
comments_crlf after before h (in_block depth) n (c ∷ cs) k s =
    by_test (c == 10) (λ e. at_lf after before (in_block depth) n c cs e
    (block_lf after before depth n cs (comments_crlf after before h (in_block depth) n cs k.1 tt)))
    (λ e. block_other after before depth n c cs e (λ g. comments_crlf after before h
    (second (in_block (suc depth))) n cs k.1 (tt, sign_at 47 42 c cs refl g))
    (λ g. comments_crlf after before h (second (out_of_block depth)) n cs k.1
    (out_first depth, sign_at 42 47 c cs refl g)) (comments_crlf after before h (in_block depth) n cs k.1 tt))
comments_crlf after before h (second outside) n (c ∷ cs) k s =
    second_outside after before n c cs s.1 (comments_crlf after before h outside 0 cs k.1 tt)
comments_crlf after before h (second in_line) n (c ∷ cs) k s = second_line after before n c cs s.1
    (comments_crlf after before h in_line n cs k.1 tt)
comments_crlf after before h (second (in_block depth)) n (c ∷ cs) k s = second_block after before
    depth n c cs s.1 (comments_crlf after before h (in_block depth) n cs k.1 tt)
comments_crlf after before h (second (second p)) n (c ∷ cs) k s = absurd s.0
