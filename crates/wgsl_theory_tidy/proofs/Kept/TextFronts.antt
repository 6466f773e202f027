-- What a text begins with: a comment, with what is after it, or none.
use Rattle.std.proofs.Common.{◌≡◌, ℕ, zero, suc, ◌≤◌, ◌==◌, ◌&&◌, Bool, true, false, cond, refl, sym, ap, ◌∙◌, List, [], ◌∷◌, ◌++◌, length, length-append, arith}
use Rattle.std.specs.Char.{is_whitespace}
use Rattle.std.proofs.lemmas.Bool.{and_parts, eqb-true, true≢false}
use Rattle.grammar.specs.Tables.{is_empty}
use Rattle.wgsl_model.specs.Tokens.Characters.{is_line_break}
use Rattle.wgsl_model.specs.Tokens.ClassTable.{BlockComment}
use Rattle.wgsl_model.specs.Tokens.Trivia.{Place, outside, in_line, in_block, second, out_of_block, first_or_zero, after_trivia}
use Rattle.wgsl_theory_grammar.proofs.Tokens.Cuts.{trivia-ends, ends_length}
use Rattle.wgsl_model_tidy.specs.Pieces.{Piece, OpenComment, comments, put}
use Rattle.wgsl_theory_tidy.proofs.Comments.{piece, trimmed, OnLine, AtLineEnd, other_sign, and_false}
use Rattle.wgsl_theory_tidy.proofs.Kept.Bodies.{IsBody, body_end, text_end, body_opens, body_closes, body_other}
use Rattle.wgsl_theory_tidy.proofs.Kept.NeatTexts.{Before, solid, then, Neat, break_is_blank}

-- ---- tests

-- either way
pub by_test : {X : Type 0} (b : Bool) → (b ≡ true → X) → (b ≡ false → X) → X
by_test true f g = f refl
by_test false f g = g refl

-- two characters, of which both pass a test
both_are : (c d m k : ℕ) → (c == m && d == k) ≡ true → (c ≡ m) × (d ≡ k)
both_are c d m k h = (eqb-true c m (and_parts (c == m) (d == k) h).0, eqb-true d k (and_parts (c == m) (d == k) h).1)

-- neither of two texts is a rest
pub neither : (b : Bool) (x y r : List ℕ) → cond b x y ≡ r → (x ≡ r → ⊥) → (y ≡ r → ⊥) → ⊥
neither true x y r e f g = f e
neither false x y r e f g = g e

-- ---- what follows blank space and comments is no longer than they are with it

no_longer : (p : Place) (text : List ℕ) → length (after_trivia p text) ≤ length text
no_longer p text = ends_length text (after_trivia p text) (trivia-ends p text)

-- so after a character it is shorter
pub no_rest : (p : Place) (x : ℕ) (r : List ℕ) → after_trivia p r ≡ x ∷ r → ⊥
no_rest p x r e = omega (arith, ap length e, no_longer p r)

pub second_shorter : (p : Place) (x : ℕ) (r : List ℕ) → after_trivia (second p) (x ∷ r) ≡ x ∷ r → ⊥
unfolding after_trivia
second_shorter p x r e = no_rest p x r e

pub no_front : (c : ℕ) (xs r : List ℕ) → c ∷ (xs ++ r) ≡ r → ⊥
no_front c xs r e = omega (arith, ap length e, length-append xs r)

-- ---- a line comment's text, up to the end of its line

record LineOf (text : List ℕ) : Type 0 where
  front : List ℕ
  rest : List ℕ
  whole : text ≡ front ++ rest
  on_line : OnLine front
  at_end : AtLineEnd rest

line_more : (c : ℕ) (cs : List ℕ) → is_line_break c ≡ false → LineOf cs → LineOf (c ∷ cs)
line_more c cs h l = record {
  front = c ∷ l.front;
  rest = l.rest;
  whole = ap (λ xs. c ∷ xs) l.whole;
  on_line = (h, l.on_line);
  at_end = l.at_end;
}

line_of : (text : List ℕ) → LineOf text
line_of [] = record { front = []; rest = []; whole = refl; on_line = tt; at_end = tt }
line_of (c ∷ cs) = by_test (is_line_break c)
    (λ h. record { front = []; rest = c ∷ cs; whole = refl; on_line = tt; at_end = h })
    (λ h. line_more c cs h (line_of cs))

-- without the blank space at its end no line break comes in
pub trimmed_on_line : (xs : List ℕ) → OnLine xs → OnLine (trimmed xs)
trimmed_on_line [] h = tt
trimmed_on_line (x ∷ xs) h = go (is_whitespace x && is_empty (trimmed xs)) (trimmed_on_line xs h.1)
  where
    go : (b : Bool) → OnLine (trimmed xs) → OnLine (cond b [] (x ∷ trimmed xs))
    go true k = tt
    go false k = (h.0, k)

pub trimmed_again : (xs : List ℕ) → trimmed (trimmed xs) ≡ trimmed xs
trimmed_again [] = refl
trimmed_again (x ∷ xs) = go (is_whitespace x && is_empty (trimmed xs)) refl (trimmed_again xs)
  where
    go : (b : Bool) → (is_whitespace x && is_empty (trimmed xs)) ≡ b → trimmed (trimmed xs) ≡ trimmed xs
        → trimmed (cond b [] (x ∷ trimmed xs)) ≡ cond b [] (x ∷ trimmed xs)
    go true e k = refl
    go false e k = ap (λ ys. cond (is_whitespace x && is_empty ys) [] (x ∷ ys)) k
        ∙ ap (λ b. cond b [] (x ∷ trimmed xs)) e

-- what follows the blank space and comments from inside a line comment
pub over_line : (xs rest : List ℕ) → OnLine xs → after_trivia in_line (xs ++ rest) ≡ after_trivia in_line rest
unfolding after_trivia
over_line [] rest h = refl
over_line (x ∷ xs) rest h = rw h.0 (over_line xs rest h.1)

over_break : (c : ℕ) (cs : List ℕ) → is_line_break c ≡ true
    → after_trivia in_line (c ∷ cs) ≡ after_trivia outside (c ∷ cs)
unfolding after_trivia
over_break c cs h = rw (h, break_is_blank c h) refl

-- at the end of the line the comment ends
pub at_line_end : (rest : List ℕ) → AtLineEnd rest → after_trivia in_line rest ≡ after_trivia outside rest
unfolding after_trivia
at_line_end [] h = refl
at_line_end (c ∷ cs) h = over_break c cs h

-- before a rest with which the line does not end, the comment goes on
in_line_shorter : (x : ℕ) (r : List ℕ) → after_trivia in_line (x ∷ r) ≡ x ∷ r → ⊥
unfolding after_trivia
in_line_shorter x r e = neither (is_line_break x) (after_trivia outside r) (after_trivia in_line r)
    (x ∷ r) e (no_rest outside x r) (no_rest in_line x r)

pub line_left : (rest r : List ℕ) → AtLineEnd rest → after_trivia in_line (rest ++ r) ≡ r
    → after_trivia outside (rest ++ r) ≡ r
unfolding after_trivia
line_left [] [] h e = refl
line_left [] (x ∷ r) h e = absurd (in_line_shorter x r e)
line_left (c ∷ cs) r h e = sym (over_break c (cs ++ r) h) ∙ e

-- ---- a block comment's text, up to its end

data BlockOf (depth : ℕ) (text : List ℕ) : Type 0 where
  ends : (xs rest : List ℕ) → text ≡ xs ++ rest → IsBody true depth xs → BlockOf depth text
  stays : IsBody false depth text → BlockOf depth text

-- the sign of another block comment
opening : (depth c d : ℕ) (cs : List ℕ) → (c == 47 && d == 42) ≡ true → BlockOf (suc depth) cs
    → BlockOf depth (c ∷ (d ∷ cs))
opening depth c d cs h (ends xs rest w i) =
    let same = both_are c d 47 42 h in rw (same.0, same.1)
    (ends (47 ∷ (42 ∷ xs)) rest (ap (λ ys. 47 ∷ (42 ∷ ys)) w) (body_opens depth xs i))
opening depth c d cs h (stays i) =
    let same = both_are c d 47 42 h in rw (same.0, same.1) (stays (body_opens depth cs i))

-- the sign of an end: of this comment, or of one in it
closing : (depth c d : ℕ) (cs : List ℕ) → (c == 42 && d == 47) ≡ true → ((e : ℕ) → BlockOf e cs)
    → BlockOf depth (c ∷ (d ∷ cs))
closing zero c d cs h others =
    let same = both_are c d 42 47 h in rw (same.0, same.1) (ends (42 ∷ (47 ∷ [])) cs refl (body_end refl))
closing (suc depth) c d cs h others = let same = both_are c d 42 47 h in rw (same.0, same.1) (go (others depth))
  where
    go : BlockOf depth cs → BlockOf (suc depth) (42 ∷ (47 ∷ cs))
    go (ends xs rest w i) = ends (42 ∷ (47 ∷ xs)) rest (ap (λ ys. 42 ∷ (47 ∷ ys)) w) (body_closes depth xs i)
    go (stays i) = stays (body_closes depth cs i)

-- what comes first in a comment that ends does not depend on what follows it
body_first : (depth : ℕ) (xs rest : List ℕ) → IsBody true depth xs → first_or_zero (xs ++ rest) ≡ first_or_zero xs
body_first _ _ rest (body_end e) = refl
body_first _ _ rest (text_end depth e) = absurd (true≢false e)
body_first _ _ rest (body_opens depth xs i) = refl
body_first _ _ rest (body_closes depth xs i) = refl
body_first _ _ rest (body_other depth c xs h k i) = refl

-- another character
other : (depth c : ℕ) (cs : List ℕ) → (c == 47 && first_or_zero cs == 42) ≡ false
    → (c == 42 && first_or_zero cs == 47) ≡ false → BlockOf depth cs → BlockOf depth (c ∷ cs)
other depth c cs h k (ends xs rest w i) =
    let first : first_or_zero xs ≡ first_or_zero cs = sym (ap first_or_zero w ∙ body_first depth xs rest i) in
    ends (c ∷ xs) rest (ap (λ ys. c ∷ ys) w)
    (body_other depth c xs (ap (λ d. c == 47 && d == 42) first ∙ h) (ap (λ d. c == 42 && d == 47) first ∙ k) i)
other depth c cs h k (stays i) = stays (body_other depth c cs h k i)

block_of : (depth : ℕ) (text : List ℕ) → BlockOf depth text
block_of depth [] = stays (text_end depth refl)
block_of depth (c ∷ []) =
    stays (body_other depth c [] (and_false (c == 47)) (and_false (c == 42)) (text_end depth refl))
block_of depth (c ∷ (d ∷ cs)) =
    by_test (c == 47 && d == 42) (λ h. opening depth c d cs h (block_of (suc depth) cs)) (λ h.
    by_test (c == 42 && d == 47) (λ k. closing depth c d cs k (λ e. block_of e cs))
    (λ k. other depth c (d ∷ cs) h k (block_of depth (d ∷ cs))))

-- ---- one that ends: its piece, what follows it, and that it is neat

no_opening : (depth c : ℕ) (xs rest : List ℕ) → IsBody true depth xs
    → (c == 47 && first_or_zero xs == 42) ≡ false → (c == 47 && first_or_zero (xs ++ rest) == 42) ≡ false
no_opening depth c xs rest i h = ap (λ d. c == 47 && d == 42) (body_first depth xs rest i) ∙ h

no_closing : (depth c : ℕ) (xs rest : List ℕ) → IsBody true depth xs
    → (c == 42 && first_or_zero xs == 47) ≡ false → (c == 42 && first_or_zero (xs ++ rest) == 47) ≡ false
no_closing depth c xs rest i k = ap (λ d. c == 42 && d == 47) (body_first depth xs rest i) ∙ k

pub ends_piece : (depth : ℕ) (xs : List ℕ) → IsBody true depth xs
    → (rest : List ℕ) (b : ℕ → List Piece) (n : ℕ)
    → comments b (in_block depth) n (xs ++ rest) ≡ piece BlockComment xs n ∷ comments b outside 0 rest
unfolding comments
ends_piece _ _ (body_end e) rest b n = refl
ends_piece _ _ (text_end depth e) rest b n = absurd (true≢false e)
ends_piece _ _ (body_opens depth xs i) rest b n = ap (λ ps. put 47 (put 42 ps)) (ends_piece (suc depth) xs i rest b n)
ends_piece _ _ (body_closes depth xs i) rest b n = ap (λ ps. put 42 (put 47 ps)) (ends_piece depth xs i rest b n)
ends_piece _ _ (body_other depth c xs h k i) rest b n =
    other_sign b n depth c (xs ++ rest) (no_opening depth c xs rest i h) (no_closing depth c xs rest i k)
    ∙ ap (put c) (ends_piece depth xs i rest b n)

-- over a character that is no sign
other_over : (depth c : ℕ) (rest : List ℕ) → (c == 47 && first_or_zero rest == 42) ≡ false
    → (c == 42 && first_or_zero rest == 47) ≡ false
    → after_trivia (in_block depth) (c ∷ rest) ≡ after_trivia (in_block depth) rest
unfolding after_trivia
other_over depth c rest h k = rw (h, k) refl

other_neat : (depth c : ℕ) (b : Before) (rest : List ℕ)
    → (c == 47 && first_or_zero rest == 42) ≡ false → (c == 42 && first_or_zero rest == 47) ≡ false
    → Neat (in_block depth) (then b c) rest → Neat (in_block depth) b (c ∷ rest)
other_neat depth c b rest h k n = (tt, rw (h, k) n)

pub ends_rest : (depth : ℕ) (xs : List ℕ) → IsBody true depth xs → (rest : List ℕ)
    → after_trivia (in_block depth) (xs ++ rest) ≡ after_trivia outside rest
unfolding after_trivia
ends_rest _ _ (body_end e) rest = refl
ends_rest _ _ (text_end depth e) rest = absurd (true≢false e)
ends_rest _ _ (body_opens depth xs i) rest = ends_rest (suc depth) xs i rest
ends_rest _ _ (body_closes depth xs i) rest = ends_rest depth xs i rest
ends_rest _ _ (body_other depth c xs h k i) rest =
    other_over depth c (xs ++ rest) (no_opening depth c xs rest i h) (no_closing depth c xs rest i k)
    ∙ ends_rest depth xs i rest

pub ends_neat : (depth : ℕ) (xs : List ℕ) → IsBody true depth xs → (b : Before) (rest : List ℕ)
    → Neat outside solid rest → Neat (in_block depth) b (xs ++ rest)
ends_neat _ _ (body_end e) b rest n = (tt, (refl, n))
ends_neat _ _ (text_end depth e) b rest n = absurd (true≢false e)
ends_neat _ _ (body_opens depth xs i) b rest n = (tt, (refl, ends_neat (suc depth) xs i solid rest n))
ends_neat _ _ (body_closes depth xs i) b rest n = (tt, (refl, ends_neat depth xs i solid rest n))
ends_neat _ _ (body_other depth c xs h k i) b rest n = other_neat depth c b (xs ++ rest)
    (no_opening depth c xs rest i h) (no_closing depth c xs rest i k)
    (ends_neat depth xs i (then b c) rest n)

-- ---- one that is not closed: its piece, that nothing follows it, and that it is neat

pub open_piece : (depth : ℕ) (xs : List ℕ) → IsBody false depth xs → (b : ℕ → List Piece) (n : ℕ)
    → comments b (in_block depth) n xs ≡ piece OpenComment xs n ∷ b 0
unfolding comments
open_piece _ _ (body_end e) b n = absurd (true≢false (sym e))
open_piece _ _ (text_end depth e) b n = refl
open_piece _ _ (body_opens depth xs i) b n = ap (λ ps. put 47 (put 42 ps)) (open_piece (suc depth) xs i b n)
open_piece _ _ (body_closes depth xs i) b n = ap (λ ps. put 42 (put 47 ps)) (open_piece depth xs i b n)
open_piece _ _ (body_other depth c xs h k i) b n = other_sign b n depth c xs h k
    ∙ ap (put c) (open_piece depth xs i b n)

pub open_none_left : (depth : ℕ) (xs : List ℕ) → IsBody false depth xs → after_trivia (in_block depth) xs ≡ []
unfolding after_trivia
open_none_left _ _ (body_end e) = absurd (true≢false (sym e))
open_none_left _ _ (text_end depth e) = refl
open_none_left _ _ (body_opens depth xs i) = open_none_left (suc depth) xs i
open_none_left _ _ (body_closes depth xs i) = open_none_left depth xs i
open_none_left _ _ (body_other depth c xs h k i) = other_over depth c xs h k ∙ open_none_left depth xs i

in_block_shorter : (depth x : ℕ) (r : List ℕ) → after_trivia (in_block depth) (x ∷ r) ≡ x ∷ r → ⊥
unfolding after_trivia
in_block_shorter depth x r e =
    let past_closing = after_trivia (second (out_of_block depth)) r in
    let past = after_trivia (in_block depth) r in
    neither (x == 47 && first_or_zero r == 42) (after_trivia (second (in_block (suc depth))) r)
    (cond (x == 42 && first_or_zero r == 47) past_closing past) (x ∷ r) e
    (no_rest (second (in_block (suc depth))) x r)
    (λ f. neither (x == 42 && first_or_zero r == 47) past_closing past (x ∷ r) f
    (no_rest (second (out_of_block depth)) x r) (no_rest (in_block depth) x r))

one_shorter : (depth c x : ℕ) (r : List ℕ) → after_trivia (in_block depth) (c ∷ (x ∷ r)) ≡ x ∷ r → ⊥
unfolding after_trivia
one_shorter depth c x r e =
    let past_closing = after_trivia (out_of_block depth) r in
    let past = after_trivia (in_block depth) (x ∷ r) in
    neither (c == 47 && x == 42) (after_trivia (in_block (suc depth)) r)
    (cond (c == 42 && x == 47) past_closing past) (x ∷ r) e
    (no_rest (in_block (suc depth)) x r)
    (λ f. neither (c == 42 && x == 47) past_closing past (x ∷ r) f
    (no_rest (out_of_block depth) x r) (in_block_shorter depth x r))

-- before another text it goes on
pub open_goes_on : (depth : ℕ) (xs : List ℕ) → IsBody false depth xs → (x : ℕ) (r : List ℕ)
    → after_trivia (in_block depth) (xs ++ (x ∷ r)) ≡ x ∷ r → ⊥
unfolding after_trivia
open_goes_on _ _ (body_end e) x r f = absurd (true≢false (sym e))
open_goes_on _ _ (text_end depth e) x r f = in_block_shorter depth x r f
open_goes_on _ _ (body_opens depth xs i) x r f = open_goes_on (suc depth) xs i x r f
open_goes_on _ _ (body_closes depth xs i) x r f = open_goes_on depth xs i x r f
open_goes_on _ _ (body_other depth c [] h k i) x r f = one_shorter depth c x r f
open_goes_on _ _ (body_other depth c (d ∷ xs) h k i) x r f = open_goes_on depth (d ∷ xs) i x r
    (sym (other_over depth c (d ∷ (xs ++ (x ∷ r))) h k) ∙ f)

pub open_neat : (depth : ℕ) (xs : List ℕ) → IsBody false depth xs → (b : Before) → Neat (in_block depth) b xs
open_neat _ _ (body_end e) b = absurd (true≢false (sym e))
open_neat _ _ (text_end depth e) b = refl
open_neat _ _ (body_opens depth xs i) b = (tt, (refl, open_neat (suc depth) xs i solid))
open_neat _ _ (body_closes depth xs i) b = (tt, (refl, open_neat depth xs i solid))
open_neat _ _ (body_other depth c xs h k i) b = other_neat depth c b xs h k (open_neat depth xs i (then b c))

-- ---- what a text begins with: nothing, a character that begins no comment, or a comment

pub data Front : List ℕ → Type 0 where
  no_text : Front []
  no_sign : (c : ℕ) (cs : List ℕ) → (c == 47 && first_or_zero cs == 47) ≡ false
      → (c == 47 && first_or_zero cs == 42) ≡ false → Front (c ∷ cs)
  line_sign : (xs rest : List ℕ) → OnLine xs → AtLineEnd rest → Front (47 ∷ (47 ∷ (xs ++ rest)))
  block_sign : (xs rest : List ℕ) → IsBody true 0 xs → Front (47 ∷ (42 ∷ (xs ++ rest)))
  open_sign : (xs : List ℕ) → IsBody false 0 xs → Front (47 ∷ (42 ∷ xs))

line_front : (c d : ℕ) (cs : List ℕ) → (c == 47 && d == 47) ≡ true → LineOf cs → Front (c ∷ (d ∷ cs))
line_front c d cs h l =
    let same = both_are c d 47 47 h in
    rw (same.0, same.1, l.whole) (line_sign l.front l.rest l.on_line l.at_end)

block_front : (c d : ℕ) (cs : List ℕ) → (c == 47 && d == 42) ≡ true → BlockOf 0 cs → Front (c ∷ (d ∷ cs))
block_front c d cs h (ends xs rest w i) =
    let same = both_are c d 47 42 h in rw (same.0, same.1, w) (block_sign xs rest i)
block_front c d cs h (stays i) = let same = both_are c d 47 42 h in rw (same.0, same.1) (open_sign cs i)

pub front_of : (text : List ℕ) → Front text
front_of [] = no_text
front_of (c ∷ []) = no_sign c [] (and_false (c == 47)) (and_false (c == 47))
front_of (c ∷ (d ∷ cs)) =
    by_test (c == 47 && d == 47) (λ h. line_front c d cs h (line_of cs)) (λ h.
    by_test (c == 47 && d == 42) (λ k. block_front c d cs k (block_of 0 cs)) (λ k. no_sign c (d ∷ cs) h k))
