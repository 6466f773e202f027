-- The place and the line after a front of a text: over blank space, tokens and comments.
use Rattle.std.proofs.Common.{◌≡◌, ℕ, zero, suc, ◌==◌, ◌&&◌, ◌||◌, Bool, true, false, not, refl, sym, ap, ap₂, subst, ◌∙◌, List, [], ◌∷◌, ◌++◌, append_assoc, append-nil, arith}
use Rattle.std.proofs.lemmas.Bool.{and_parts, eqb-true, not-true, true≢false, false_from_ne_true}
use Rattle.std.specs.Char.{is_whitespace}
use Rattle.wgsl_model.specs.Tokens.Characters.{is_blank, is_line_break}
use Rattle.wgsl_model.specs.Tokens.ClassTable.{BlockComment}
use Rattle.wgsl_model.specs.Tokens.Kind.{Kind}
use Rattle.wgsl_model.specs.Tokens.Trivia.{Place, outside, in_line, in_block, second, first_or_zero}
use Rattle.wgsl_model_tidy.specs.Lines.{next_place, place_after}
use Rattle.wgsl_model_tidy.specs.Brackets.{Line, blank, begun, in_comment, next_line, line_after}
use Rattle.wgsl_model_tidy.specs.Layout.{Layout}
use Rattle.wgsl_model_tidy.specs.Pieces.{Piece, OpenComment, comments, put}
use Rattle.wgsl_model_tidy.specs.LaidOut.{Last, line_comment, comment_last, gap_text, indentation, broken}
use Rattle.wgsl_theory_printed.proofs.Spelling.Characters.{is_in_words}
use Rattle.wgsl_theory_printed.proofs.Spelling.Split.{Each}
use Rattle.wgsl_theory_printed.proofs.Spelling.WordCharacters.{spelled_word}
use Rattle.wgsl_theory_tidy.proofs.Comments.{piece, OnLine, and_false}
use Rattle.wgsl_theory_tidy.proofs.Levels.{IsIndent, no_indent, one_space, one_tab, indentation_indent}
use Rattle.wgsl_theory_tidy.proofs.Kept.ClosedComments.{Closed, closed_line, closed_block}
use Rattle.wgsl_theory_tidy.proofs.Kept.Gaps.{closed_counted}
use Rattle.wgsl_theory_tidy.proofs.Kept.LaidTokens.{token_here}
use Rattle.wgsl_theory_tidy.proofs.Kept.NeatTexts.{CanBreak, break_is_blank}
use Rattle.wgsl_theory_tidy.proofs.Kept.NeatWords.{slash_goes}
use Rattle.wgsl_theory_tidy.proofs.Kept.Readings.{IsToken, is_word, is_slash, is_slash_equal, is_start, is_end}

-- ---- lines

-- a line in which more than blank space is
abbrev pub entered : Line → Line
entered (blank space) = begun space
entered line = line

entered_twice : (line : Line) → entered (entered line) ≡ entered line
entered_twice (blank space) = refl
entered_twice (begun space) = refl
entered_twice (in_comment) = refl

-- a character that is not blank is no line break
no_break : (c : ℕ) → is_blank c ≡ false → is_line_break c ≡ false
no_break c h = false_from_ne_true (is_line_break c)
    (λ l. blank_too (is_whitespace c) (c == 0x200E || c == 0x200F) (break_is_blank c l) h)
  where
    blank_too : (x y : Bool) → x ≡ true → (x || y) ≡ false → ⊥
    blank_too true y e f = true≢false f
    blank_too false y e f = true≢false (sym e)

enters : (p : Place) (line : Line) (c : ℕ) → is_blank c ≡ false → next_line p line c ≡ entered line
enters p (blank space) c h = rw (no_break c h, h) refl
enters p (begun space) c h = rw (no_break c h) refl
enters p (in_comment) c h = rw (no_break c h) refl

-- a line so deep, in which more than its blank space is; or one that begins in a comment
pub data InLine (layout : Layout) (depth : ℕ) : Line → Type 0 where
  shown : InLine layout depth (begun (indentation layout depth))
  hidden : InLine layout depth in_comment

-- ---- fronts

-- over a front of a text, from a place and a line up to it to others
abbrev pub Through : Place → Line → List ℕ → List ℕ → Place → Line → Type 0
Through p l front rest q m = (place_after p front rest ≡ q) × (line_after p l front rest ≡ m)

place_both : (p : Place) (xs ys rest : List ℕ)
    → place_after p (xs ++ ys) rest ≡ place_after (place_after p xs (ys ++ rest)) ys rest
place_both p [] ys rest = refl
place_both p (x ∷ xs) ys rest = ap (λ zs. place_after (next_place p x zs) (xs ++ ys) rest) (append_assoc xs ys rest)
    ∙ place_both (next_place p x (xs ++ (ys ++ rest))) xs ys rest

line_both : (p : Place) (l : Line) (xs ys rest : List ℕ) → line_after p l (xs ++ ys) rest
    ≡ line_after (place_after p xs (ys ++ rest)) (line_after p l xs (ys ++ rest)) ys rest
line_both p l [] ys rest = refl
line_both p l (x ∷ xs) ys rest =
    ap (λ zs. line_after (next_place p x zs) (next_line p l x) (xs ++ ys) rest) (append_assoc xs ys rest)
    ∙ line_both (next_place p x (xs ++ (ys ++ rest))) (next_line p l x) xs ys rest

-- one front and another
pub both : (p q r : Place) (l m n : Line) (xs ys rest : List ℕ) → Through p l xs (ys ++ rest) q m
    → Through q m ys rest r n → Through p l (xs ++ ys) rest r n
both p q r l m n xs ys rest h k = (
  place_both p xs ys rest ∙ ap (λ a. place_after a ys rest) h.0 ∙ k.0,
  line_both p l xs ys rest ∙ ap₂ (λ a b. line_after a b ys rest) h.0 h.1 ∙ k.1,
)

-- a character and a front
one : (p p' q : Place) (l l' m : Line) (c : ℕ) (xs rest : List ℕ) → next_place p c (xs ++ rest) ≡ p'
    → next_line p l c ≡ l' → Through p' l' xs rest q m → Through p l (c ∷ xs) rest q m
one p p' q l l' m c xs rest e f h = (
  ap (λ a. place_after a xs rest) e ∙ h.0,
  ap₂ (λ a b. line_after a b xs rest) e f ∙ h.1,
)

-- ---- blank space

spaces_through : (xs : List ℕ) → IsIndent xs → (space rest : List ℕ)
    → Through outside (blank space) xs rest outside (blank (space ++ xs))
spaces_through _ (no_indent) space rest = (refl, ap blank (sym (append-nil space)))
spaces_through _ (one_space xs i) space rest =
    subst (λ s. Through outside (blank (space ++ (32 ∷ []))) xs rest outside (blank s))
    (append_assoc space (32 ∷ []) xs) (spaces_through xs i (space ++ (32 ∷ [])) rest)
spaces_through _ (one_tab xs i) space rest =
    subst (λ s. Through outside (blank (space ++ (9 ∷ []))) xs rest outside (blank s))
    (append_assoc space (9 ∷ []) xs) (spaces_through xs i (space ++ (9 ∷ [])) rest)

-- a line break and the blank space of the next line
pub break_through : (layout : Layout) (p : Place) → CanBreak p → (empty : Bool) (depth : ℕ) (l : Line) (rest : List ℕ)
    → Through p l (gap_text layout (broken empty depth)) rest outside (blank (indentation layout depth))
break_through layout outside o true depth l rest =
    spaces_through (indentation layout depth) (indentation_indent layout depth) [] rest
break_through layout outside o false depth l rest =
    spaces_through (indentation layout depth) (indentation_indent layout depth) [] rest
break_through layout in_line o true depth l rest =
    spaces_through (indentation layout depth) (indentation_indent layout depth) [] rest
break_through layout in_line o false depth l rest =
    spaces_through (indentation layout depth) (indentation_indent layout depth) [] rest
break_through layout (in_block n) o empty depth l rest = absurd o
break_through layout (second p) o empty depth l rest = absurd o

-- a space in a line in which more is
pub space_through : (layout : Layout) (depth : ℕ) (l : Line) (rest : List ℕ) → InLine layout depth l
    → Through outside l (32 ∷ []) rest outside l
space_through layout depth _ rest (shown) = (refl, refl)
space_through layout depth _ rest (hidden) = (refl, refl)

-- ---- tokens

-- characters with which no comment begins, and which are not blank
character_through : (l : Line) (c : ℕ) (rest : List ℕ) → is_in_words c ≡ true
    → Through outside l (c ∷ []) rest outside (entered l)
character_through l c rest h =
    let parts = and_parts (not (is_blank c)) (not (c == 47)) h in
    (rw (not-true (c == 47) parts.1) refl, enters outside l c (not-true (is_blank c) parts.0))

characters_through : (c : ℕ) (cs rest : List ℕ) (l : Line) → Each is_in_words (c ∷ cs)
    → Through outside l (c ∷ cs) rest outside (entered l)
characters_through c [] rest l h = character_through l c rest h.0
characters_through c (d ∷ ds) rest l h =
    both outside outside outside l (entered l) (entered l) (c ∷ []) (d ∷ ds) rest
    (character_through l c ((d ∷ ds) ++ rest) h.0)
    (subst (Through outside (entered l) (d ∷ ds) rest outside) (entered_twice l)
    (characters_through d ds rest (entered l) h.1))

pub word_through : (k : Kind) (w rest : List ℕ) (l : Line) → IsToken k w rest
    → Through outside l w rest outside (entered l)
word_through k [] rest l (is_word j v r m s e) = absurd s.begins
word_through k (c ∷ cs) rest l (is_word j v r m s e) = characters_through c cs rest l
    (spelled_word c cs s.begins.1 s.spelled)
word_through k w rest l (is_slash r e) = (slash_goes r (token_here k w rest (is_slash r e)), enters outside l 47 refl)
word_through k w rest l (is_slash_equal r e) =
    one outside outside outside l (entered l) (entered l) 47 (61 ∷ []) rest refl (enters outside l 47 refl)
    (refl, enters outside (entered l) 61 refl ∙ entered_twice l)
word_through k w rest l (is_start r) = (refl, enters outside l 60 refl)
word_through k w rest l (is_end r) = (refl, enters outside l 62 refl)

-- ---- comments

-- over a front, to a place and a line so deep, or one that begins in a comment
abbrev pub Ends : Layout → ℕ → Place → Line → List ℕ → List ℕ → Place → Type 0
Ends layout depth p l front rest q = (m : Line) × InLine layout depth m × Through p l front rest q m

-- a line in which more is goes on
stays : (layout : Layout) (depth : ℕ) (p : Place) (l : Line) (c : ℕ) → InLine layout depth l
    → is_line_break c ≡ false → next_line p l c ≡ l
stays layout depth p _ c (shown) h = rw h refl
stays layout depth p _ c (hidden) h = rw h refl

-- or one begins in a block comment
still_in : (layout : Layout) (depth n : ℕ) (l : Line) (c : ℕ) → InLine layout depth l
    → InLine layout depth (next_line (in_block n) l c)
still_in layout depth n l c i = go (is_line_break c) refl
  where
    broken_line : is_line_break c ≡ true → next_line (in_block n) l c ≡ in_comment
    broken_line h = rw h refl

    go : (b : Bool) → is_line_break c ≡ b → InLine layout depth (next_line (in_block n) l c)
    go true h = subst (InLine layout depth) (sym (broken_line h)) hidden
    go false h = subst (InLine layout depth) (sym (stays layout depth (in_block n) l c i h)) i

-- a sign of two characters, which leads to a place
sign_through : (layout : Layout) (depth : ℕ) (p q r : Place) (l l' : Line) (c d : ℕ) (xs rest : List ℕ)
    → next_place p c (d ∷ (xs ++ rest)) ≡ second q → next_line p l c ≡ l' → is_line_break d ≡ false
    → InLine layout depth l' → Ends layout depth q l' xs rest r → Ends layout depth p l (c ∷ (d ∷ xs)) rest r
sign_through layout depth p q r l l' c d xs rest e f b i h = (
  h.0,
  h.1,
  one p (second q) r l l' h.0 c (d ∷ xs) rest e f
      (one (second q) q r l' l' h.0 d xs rest refl (stays layout depth (second q) l' d i b) h.2),
)

-- the text of a line comment
line_through : (layout : Layout) (depth : ℕ) (l : Line) (xs rest : List ℕ) → OnLine xs
    → InLine layout depth l → Through in_line l xs rest in_line l
line_through layout depth l [] rest h i = (refl, refl)
line_through layout depth l (x ∷ xs) rest h i =
    one in_line in_line in_line l l l x xs rest (rw h.0 refl) (stays layout depth in_line l x i h.0)
    (line_through layout depth l xs rest h.1 i)

-- what is read of a text in a block comment: the comment goes up to the end of the text
abbrev UpToEnd : ℕ → List ℕ → Type 0
UpToEnd depth xs = comments (λ n. []) (in_block depth) 0 xs ≡ piece BlockComment xs 0 ∷ []

abbrev first_class : List Piece → ℕ
first_class [] = 0
first_class (p ∷ ps) = p.class

abbrev first_text : List Piece → List ℕ
first_text [] = []
first_text (p ∷ ps) = p.text

same_piece : (class c : ℕ) (text t : List ℕ) (n m : ℕ) → class ≡ c → text ≡ t → n ≡ m
    → piece class text n ≡ piece c t m
same_piece class c text t n m e f g = cc

unput : (c : ℕ) (ps : List Piece) (xs : List ℕ) → put c ps ≡ piece BlockComment (c ∷ xs) 0 ∷ []
    → ps ≡ piece BlockComment xs 0 ∷ []
unput c [] xs h = absurd cc
unput c (p ∷ ps) xs h =
    let first : piece p.class (c ∷ p.text) p.line_ends ≡ piece BlockComment (c ∷ xs) 0 = cc in
    let none : ps ≡ [] = cc in
    let text : c ∷ p.text ≡ c ∷ xs = ap (λ (q : Piece). q.text) first in
    let left : p.text ≡ xs = cc in
    let same : piece p.class p.text p.line_ends ≡ piece BlockComment xs 0 = same_piece p.class BlockComment
    p.text xs p.line_ends 0 (ap (λ (q : Piece). q.class) first) left (ap (λ (q : Piece). q.line_ends) first) in
    ap₂ (λ (q : Piece) (qs : List Piece). q ∷ qs) same none

-- such a text is not empty
not_empty : (depth : ℕ) → UpToEnd depth [] → ⊥
unfolding comments
not_empty depth h = let same : OpenComment ≡ BlockComment = ap first_class h in absurd (omega (arith, same))

after_opening : (depth c d : ℕ) (ds : List ℕ) → (c == 47 && d == 42) ≡ true
    → UpToEnd depth (c ∷ (d ∷ ds)) → UpToEnd (suc depth) ds
unfolding comments
after_opening depth c d ds e h =
    let seen : comments (λ n. []) (in_block depth) 0 (c ∷ (d ∷ ds))
    ≡ put c (put d (comments (λ n. []) (in_block (suc depth)) 0 ds)) = rw e refl in
    unput d _ ds (unput c _ (d ∷ ds) (sym seen ∙ h))

after_closing : (depth c d : ℕ) (ds : List ℕ) → (c == 47 && d == 42) ≡ false → (c == 42 && d == 47) ≡ true
    → UpToEnd (suc depth) (c ∷ (d ∷ ds)) → UpToEnd depth ds
unfolding comments
after_closing depth c d ds e f h =
    let seen : comments (λ n. []) (in_block (suc depth)) 0 (c ∷ (d ∷ ds))
    ≡ put c (put d (comments (λ n. []) (in_block depth) 0 ds)) = rw (e, f) refl in
    unput d _ ds (unput c _ (d ∷ ds) (sym seen ∙ h))

after_end : (c d : ℕ) (ds : List ℕ) → (c == 47 && d == 42) ≡ false → (c == 42 && d == 47) ≡ true
    → UpToEnd 0 (c ∷ (d ∷ ds)) → ds ≡ []
unfolding comments
after_end c d ds e f h =
    let seen : comments (λ n. []) (in_block 0) 0 (c ∷ (d ∷ ds))
    ≡ piece BlockComment (c ∷ (d ∷ [])) 0 ∷ comments (λ n. []) outside 0 ds = rw (e, f) refl in
    let same : piece BlockComment (c ∷ (d ∷ [])) 0 ∷ comments (λ n. []) outside 0 ds
    ≡ piece BlockComment (c ∷ (d ∷ ds)) 0 ∷ [] = sym seen ∙ h in
    let text : c ∷ (d ∷ []) ≡ c ∷ (d ∷ ds) = ap first_text same in cc

after_other : (depth c : ℕ) (cs : List ℕ) → (c == 47 && first_or_zero cs == 42) ≡ false
    → (c == 42 && first_or_zero cs == 47) ≡ false → UpToEnd depth (c ∷ cs) → UpToEnd depth cs
unfolding comments
after_other depth c cs e f h =
    let seen : comments (λ n. []) (in_block depth) 0 (c ∷ cs)
    ≡ put c (comments (λ n. []) (in_block depth) 0 cs) = rw (e, f) refl in
    unput c _ cs (sym seen ∙ h)

-- over two characters and what is after them, by which sign they are
two_through : (layout : Layout) (at depth c d : ℕ) (ds : List ℕ) → UpToEnd depth (c ∷ (d ∷ ds)) → (l : Line)
    (rest : List ℕ) → InLine layout at l
    → ((k : ℕ) → UpToEnd k ds → (m : Line) → InLine layout at m → Ends layout at (in_block k) m ds rest outside)
    → (UpToEnd depth (d ∷ ds) → (m : Line) → InLine layout at m
    → Ends layout at (in_block depth) m (d ∷ ds) rest outside)
    → Ends layout at (in_block depth) l (c ∷ (d ∷ ds)) rest outside
two_through layout at depth c d ds h l rest i deep left =
    go (c == 47 && d == 42) (c == 42 && d == 47) refl refl depth refl
  where
    signed : (x y : ℕ) → (c == x && d == y) ≡ true → is_line_break x ≡ false → is_line_break y ≡ false
        → (p q : Place) → next_place p c (d ∷ (ds ++ rest)) ≡ second q → Ends layout at q l ds rest outside
        → Ends layout at p l (c ∷ (d ∷ ds)) rest outside
    signed x y e f g p q n k =
        let parts = and_parts (c == x) (d == y) e in
        sign_through layout at p q outside l l c d ds rest n
        (stays layout at p l c i (ap is_line_break (eqb-true c x parts.0) ∙ f))
        (ap is_line_break (eqb-true d y parts.1) ∙ g) i k

    go : (x y : Bool) → (c == 47 && d == 42) ≡ x → (c == 42 && d == 47) ≡ y → (k : ℕ) → depth ≡ k
        → Ends layout at (in_block depth) l (c ∷ (d ∷ ds)) rest outside
    go true y e f k s = signed 47 42 e refl refl (in_block depth) (in_block (suc depth)) (rw e refl)
        (deep (suc depth) (after_opening depth c d ds e h) l i)
    go false true e f zero s =
        let none = after_end c d ds e f (subst (λ n. UpToEnd n (c ∷ (d ∷ ds))) s h) in
        signed 42 47 f refl refl (in_block depth) outside (rw (e, f, s) refl)
        (subst (λ xs. Ends layout at outside l xs rest outside) (sym none) (l, i, (refl, refl)))
    go false true e f (suc n) s = signed 42 47 f refl refl (in_block depth) (in_block n) (rw (e, f, s) refl)
        (deep n (after_closing n c d ds e f (subst (λ n. UpToEnd n (c ∷ (d ∷ ds))) s h)) l i)
    go false false e f k s =
        let after = left (after_other depth c (d ∷ ds) e f h) (next_line (in_block depth) l c)
        (still_in layout at depth l c i) in (
          after.0,
          after.1,
          one (in_block depth) (in_block depth) outside l (next_line (in_block depth) l c) after.0 c
              (d ∷ ds) rest (rw (e, f) refl) refl after.2,
        )

-- over a block comment from inside it
block_through : (layout : Layout) (at depth : ℕ) (xs : List ℕ) → UpToEnd depth xs → (l : Line) (rest : List ℕ)
    → InLine layout at l → Ends layout at (in_block depth) l xs rest outside
block_through layout at depth [] h l rest i = absurd (not_empty depth h)
block_through layout at depth (c ∷ []) h l rest i =
    absurd (not_empty depth (after_other depth c [] (and_false (c == 47)) (and_false (c == 42)) h))
block_through layout at depth (c ∷ (d ∷ ds)) h l rest i = two_through layout at depth c d ds h l rest i
    (λ k g m j. block_through layout at k ds g m rest j) (λ g m j. block_through layout at depth (d ∷ ds) g m rest j)

-- the text of a closed block comment after its sign
up_to_end : (xs : List ℕ) → Closed BlockComment (47 ∷ (42 ∷ xs)) → UpToEnd 0 xs
unfolding comments
up_to_end xs c =
    let counted = closed_counted BlockComment (47 ∷ (42 ∷ xs)) c (λ n. []) 0 [] (λ e. tt) in
    subst (λ ys. comments (λ n. []) (in_block 0) 0 ys ≡ piece BlockComment xs 0 ∷ []) (append-nil xs)
    (unput 42 _ xs (unput 47 _ (42 ∷ xs) counted))

-- where the rest is after the last piece
abbrev pub place_of_last : Last → Place
place_of_last line_comment = in_line
place_of_last last = outside

-- over a comment that ends, to a place and a line so deep, or one that begins in the comment
pub comment_through : (layout : Layout) (depth class : ℕ) (text : List ℕ) → Closed class text
    → (leads : Bool) (l : Line) (rest : List ℕ) → InLine layout depth (entered l)
    → Ends layout depth outside l text rest (place_of_last (comment_last class leads))
comment_through layout depth _ _ (closed_line xs h t) leads l rest i =
    sign_through layout depth outside in_line in_line l (entered l) 47 47 xs rest refl (enters outside l 47 refl) refl i
    (entered l, i, line_through layout depth (entered l) xs rest h i)
comment_through layout depth _ _ (closed_block xs b) leads l rest i =
    subst (Ends layout depth outside l (47 ∷ (42 ∷ xs)) rest) (place leads)
    (sign_through layout depth outside (in_block 0) outside l (entered l) 47 42 xs rest refl (enters outside l 47 refl)
    refl i (block_through layout depth 0 xs (up_to_end xs (closed_block xs b)) (entered l) rest i))
  where
    place : (b : Bool) → outside ≡ place_of_last (comment_last BlockComment b)
    place true = refl
    place false = refl
