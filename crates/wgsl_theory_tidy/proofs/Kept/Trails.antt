-- The comments in the blank space and comments before a token, and in those after the last token.
use Rattle.std.proofs.Common.{◌≡◌, ℕ, zero, suc, ◌+◌, ◌≤◌, ◌==◌, ◌&&◌, true, false, cond, refl, sym, ap, ◌∙◌, List, [], ◌∷◌, ◌++◌, length, length-append, append_assoc, append-nil, arith}
use Rattle.wgsl_model.specs.Tokens.Characters.{is_blank}
use Rattle.wgsl_model.specs.Tokens.ClassTable.{LineComment, BlockComment}
use Rattle.wgsl_model.specs.Tokens.Trivia.{outside, in_line, in_block, second, first_or_zero, after_trivia}
use Rattle.wgsl_model_tidy.specs.Pieces.{Piece, OpenComment, comments, line_ends_at}
use Rattle.wgsl_theory_tidy.proofs.Comments.{piece, no_comment, trimmed, OnLine, AtLineEnd, line_comment, whole_line, whole_block, nothing_left}
use Rattle.wgsl_model_tidy.specs.NonBlank.{non_blank}
use Rattle.wgsl_theory_tidy.proofs.Kept.NonBlankOf.{non_blank_of, joined, over_blank_one, trimmed_same}
use Rattle.wgsl_theory_tidy.proofs.Kept.Bodies.{IsBody}
use Rattle.wgsl_theory_tidy.proofs.Kept.ClosedComments.{Closed, closed_line, closed_block, Unclosed, unclosed, AllClosed, AllClosedButLast, no_more, one_more, last_open}
use Rattle.wgsl_theory_tidy.proofs.Kept.TextFronts.{by_test, neither, second_shorter, no_front, trimmed_on_line, trimmed_again, over_line, line_left, ends_piece, ends_rest, open_piece, open_goes_on, Front, no_text, no_sign, line_sign, block_sign, open_sign, front_of}
use Rattle.wgsl_theory_grammar.proofs.Tokens.Bare.{over_blank}

-- ---- the comments of a text that is passed over up to a rest

-- comments that end, but where no rest is the last may be one that is not closed
data Ends (r : List ℕ) : List Piece → Type 0 where
  no_comments : Ends r []
  then_comment : (p : Piece) (ps : List Piece) → Closed p.class p.text → Ends r ps → Ends r (p ∷ ps)
  then_open : (p : Piece) → Unclosed p.class p.text → r ≡ [] → Ends r (p ∷ [])

-- the comments of a text t, after a number of line ends and before a rest r; what else is in it is
-- blank
abbrev Found : ℕ → List ℕ → List ℕ → Type 0
Found n t r = (cs : List Piece) × (m : ℕ) × Ends r cs
    × ((following : ℕ → List Piece) → comments following outside n t ≡ cs ++ following m)
    × (non_blank t ≡ non_blank_of cs)

-- over a character that begins no comment: it is blank, else it would be left too
none_here : (c : ℕ) (cs : List ℕ) → is_blank c ≡ false → (c == 47 && first_or_zero cs == 47) ≡ false
    → (c == 47 && first_or_zero cs == 42) ≡ false → after_trivia outside (c ∷ cs) ≡ c ∷ cs
unfolding after_trivia
none_here c cs b h k = rw (b, h, k) refl

signs_here : (c : ℕ) (cs : List ℕ) → is_blank c ≡ false
    → after_trivia outside (c ∷ cs) ≡ cond (c == 47 && first_or_zero cs == 47) (after_trivia (second in_line) cs)
    (cond (c == 47 && first_or_zero cs == 42) (after_trivia (second (in_block 0)) cs) (c ∷ cs))
unfolding after_trivia
signs_here c cs b = rw b refl

not_blank : (c : ℕ) (cs r : List ℕ) → is_blank c ≡ false → (c == 47 && first_or_zero cs == 47) ≡ false
    → (c == 47 && first_or_zero cs == 42) ≡ false → after_trivia outside (c ∷ (cs ++ r)) ≡ r → ⊥
not_blank c (d ∷ cs) r b h k e = no_front c (d ∷ cs) r (sym (none_here c (d ∷ (cs ++ r)) b h k) ∙ e)
not_blank c [] [] b h k e = no_front c [] [] (sym (none_here c [] b h k) ∙ e)
not_blank c [] (x ∷ r) b h k e =
    let past_block = after_trivia (second (in_block 0)) (x ∷ r) in
    let past_line = after_trivia (second in_line) (x ∷ r) in
    let all = c ∷ (x ∷ r) in
    neither (c == 47 && x == 47) past_line (cond (c == 47 && x == 42) past_block all) (x ∷ r)
    (sym (signs_here c (x ∷ r) b) ∙ e) (second_shorter in_line x r)
    (λ g. neither (c == 47 && x == 42) past_block all (x ∷ r) g (second_shorter (in_block 0) x r)
    (no_front c [] (x ∷ r)))

is_blank_here : (c : ℕ) (cs r : List ℕ) → (c == 47 && first_or_zero cs == 47) ≡ false
    → (c == 47 && first_or_zero cs == 42) ≡ false → after_trivia outside (c ∷ (cs ++ r)) ≡ r
    → is_blank c ≡ true
is_blank_here c cs r h k e = by_test (is_blank c) (λ b. b) (λ b. absurd (not_blank c cs r b h k e))

over_other : (c : ℕ) (cs r : List ℕ) → is_blank c ≡ true → after_trivia outside (c ∷ (cs ++ r)) ≡ r
    → after_trivia outside (cs ++ r) ≡ r
over_other c cs r b e = sym (over_blank c (cs ++ r) b) ∙ e

-- after the sign of a line comment and after that of a block comment
over_line_sign : (cs : List ℕ) → after_trivia outside (47 ∷ (47 ∷ cs)) ≡ after_trivia in_line cs
unfolding after_trivia
over_line_sign cs = refl

over_block_sign : (cs : List ℕ) → after_trivia outside (47 ∷ (42 ∷ cs)) ≡ after_trivia (in_block 0) cs
unfolding after_trivia
over_block_sign cs = refl

line_over : (xs rest r : List ℕ) → OnLine xs → AtLineEnd rest
    → after_trivia outside (47 ∷ (47 ∷ ((xs ++ rest) ++ r))) ≡ r → after_trivia outside (rest ++ r) ≡ r
line_over xs rest r h k e =
    line_left rest r k (sym (over_line xs (rest ++ r) h) ∙ ap (after_trivia in_line)
    (sym (append_assoc xs rest r)) ∙ sym (over_line_sign ((xs ++ rest) ++ r)) ∙ e)

block_over : (xs rest r : List ℕ) → IsBody true 0 xs
    → after_trivia outside (47 ∷ (42 ∷ ((xs ++ rest) ++ r))) ≡ r → after_trivia outside (rest ++ r) ≡ r
block_over xs rest r h e = sym (ends_rest 0 xs h (rest ++ r))
    ∙ ap (after_trivia (in_block 0)) (sym (append_assoc xs rest r))
    ∙ sym (over_block_sign ((xs ++ rest) ++ r)) ∙ e

open_over : (xs r : List ℕ) → IsBody false 0 xs → after_trivia outside (47 ∷ (42 ∷ (xs ++ r))) ≡ r → r ≡ []
open_over xs [] h e = refl
open_over xs (x ∷ r) h e = absurd (open_goes_on 0 xs h x r (sym (over_block_sign (xs ++ (x ∷ r))) ∙ e))

-- one comment more
more : (n : ℕ) (t rest r : List ℕ) (class : ℕ) (text : List ℕ) → Closed class text
    → ((b : ℕ → List Piece) → comments b outside n t ≡ piece class text n ∷ comments b outside 0 rest)
    → non_blank t ≡ non_blank text ++ non_blank rest → Found 0 rest r → Found n t r
more n t rest r class text c h s f = (
  piece class text n ∷ f.0,
  f.1,
  then_comment (piece class text n) f.0 c f.2,
  λ b. h b ∙ ap (λ ps. piece class text n ∷ ps) (f.3 b),
  s ∙ ap (λ xs. non_blank text ++ xs) f.4,
)

-- the sign of a comment, its text and a rest have the characters of these
signed : (d : ℕ) (xs ys rest : List ℕ) → is_blank d ≡ false → non_blank ys ≡ non_blank xs
    → non_blank (47 ∷ (d ∷ (xs ++ rest))) ≡ non_blank (47 ∷ (d ∷ ys)) ++ non_blank rest
signed d xs ys rest b h = rw b (ap (λ zs. 47 ∷ (d ∷ zs)) (joined xs rest ∙ ap (λ zs. zs ++ non_blank rest) (sym h)))

shorter_rest : (k : ℕ) (xs rest : List ℕ) → suc (suc (length (xs ++ rest))) ≤ suc k → length rest ≤ k
shorter_rest k xs rest l = omega (arith, l, length-append xs rest)

found_front : (k : ℕ) → ((t r : List ℕ) → length t ≤ k → after_trivia outside (t ++ r) ≡ r → (n : ℕ) → Found n t r)
    → (t r : List ℕ) → Front t → length t ≤ suc k → after_trivia outside (t ++ r) ≡ r → (n : ℕ) → Found n t r
found_front k others t r (no_text) l e n = ([], n, no_comments, λ b. nothing_left b n, refl)
found_front k others t r (no_sign c cs h j) l e n =
    let blank = is_blank_here c cs r h j e in
    let f = others cs r (omega (arith, l)) (over_other c cs r blank e) (n + line_ends_at c cs) in
    (f.0, f.1, f.2, λ b. no_comment b n c cs h j ∙ f.3 b, over_blank_one c cs blank ∙ f.4)
found_front k others t r (line_sign xs rest h j) l e n =
    more n _ rest r LineComment (47 ∷ (47 ∷ trimmed xs))
    (closed_line (trimmed xs) (trimmed_on_line xs h) (trimmed_again xs))
    (λ b. whole_line b n (xs ++ rest) (trimmed xs) rest (line_comment b n xs rest h j))
    (signed 47 xs (trimmed xs) rest refl (trimmed_same xs))
    (others rest r (shorter_rest k xs rest l) (line_over xs rest r h j e) 0)
found_front k others t r (block_sign xs rest h) l e n =
    more n _ rest r BlockComment (47 ∷ (42 ∷ xs)) (closed_block xs h)
    (λ b. whole_block b n BlockComment (xs ++ rest) xs (comments b outside 0 rest) (ends_piece 0 xs h rest b n))
    (signed 42 xs xs rest refl refl)
    (others rest r (shorter_rest k xs rest l) (block_over xs rest r h e) 0)
found_front k others t r (open_sign xs h) l e n =
    let p = piece OpenComment (47 ∷ (42 ∷ xs)) n in (
      p ∷ [],
      0,
      then_open p (unclosed xs h) (open_over xs r h e),
      λ b. whole_block b n OpenComment xs xs (b 0) (open_piece 0 xs h b n),
      sym (append-nil (non_blank p.text)),
    )

found_within : (k : ℕ) (t r : List ℕ) → length t ≤ k → after_trivia outside (t ++ r) ≡ r → (n : ℕ) → Found n t r
found_within zero [] r l e n = ([], n, no_comments, λ b. nothing_left b n, refl)
found_within zero (c ∷ cs) r l e n = absurd (omega (arith, l))
found_within (suc k) t r l e n = found_front k (found_within k) t r (front_of t) l e n

found : (t r : List ℕ) → after_trivia outside (t ++ r) ≡ r → (n : ℕ) → Found n t r
found t r e n = found_within (length t) t r (omega arith) e n

-- ---- before a token, and after the last

all_closed : (r : List ℕ) (cs : List Piece) → (r ≡ [] → ⊥) → Ends r cs → AllClosed cs
all_closed r cs h (no_comments) = tt
all_closed r cs h (then_comment p ps c e) = (c, all_closed r ps h e)
all_closed r cs h (then_open p u e) = absurd (h e)

closed_but_last : (r : List ℕ) (cs : List Piece) → Ends r cs → AllClosedButLast cs
closed_but_last r cs (no_comments) = no_more
closed_but_last r cs (then_comment p ps c e) = one_more p ps c (closed_but_last r ps e)
closed_but_last r cs (then_open p u e) = last_open p u

-- The pieces in what is before a rest that is not empty are comments that end; a number of line
-- ends are after the last of them.
pub trail : (t r : List ℕ) → after_trivia outside (t ++ r) ≡ r → (r ≡ [] → ⊥) → (n : ℕ)
    → (cs : List Piece) × (m : ℕ) × AllClosed cs × ((following : ℕ → List Piece)
    → comments following outside n t ≡ cs ++ following m) × (non_blank t ≡ non_blank_of cs)
trail t r e h n = let f = found t r e n in (f.0, f.1, all_closed r f.0 h f.2, f.3, f.4)

-- The same where no rest is, but that the last piece may be a comment that is not closed.
pub last_trail : (t : List ℕ) → after_trivia outside t ≡ [] → (n : ℕ)
    → (cs : List Piece) × (m : ℕ) × AllClosedButLast cs × ((following : ℕ → List Piece)
    → comments following outside n t ≡ cs ++ following m) × (non_blank t ≡ non_blank_of cs)
last_trail t e n =
    let f = found t [] (ap (after_trivia outside) (append-nil t) ∙ e) n in
    (f.0, f.1, closed_but_last [] f.0 f.2, f.3, f.4)
