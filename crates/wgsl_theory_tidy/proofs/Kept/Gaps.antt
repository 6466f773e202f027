-- How the gaps and the comments of a laid-out text are read: what is after them, and how many
-- line ends a gap has.
use Rattle.std.proofs.Common.{◌≡◌, ℕ, ◌+◌, true, false, refl, ap, ◌∙◌, List, [], ◌∷◌, ◌++◌, arith}
use Rattle.wgsl_model.specs.Tokens.ClassTable.{LineComment, BlockComment}
use Rattle.wgsl_model.specs.Tokens.Trivia.{outside, in_block, after_trivia}
use Rattle.wgsl_model_tidy.specs.Pieces.{Piece, OpenComment, comments}
use Rattle.wgsl_model_tidy.specs.Layout.{Layout}
use Rattle.wgsl_model_tidy.specs.Ahead.{is_comment}
use Rattle.wgsl_model_tidy.specs.LaidOut.{Gap, closed, blank, broken, gap_text, indentation}
use Rattle.wgsl_theory_tidy.proofs.Levels.{IsIndent, no_indent, one_space, one_tab, indentation_indent}
use Rattle.wgsl_theory_tidy.proofs.Comments.{piece, no_comment, trimmed, OnLine, AtLineEnd, line_comment, whole_line, whole_block}
use Rattle.wgsl_theory_tidy.proofs.Kept.ClosedComments.{Closed, closed_line, closed_block, Unclosed, unclosed}
use Rattle.wgsl_theory_tidy.proofs.Kept.TextFronts.{over_line, at_line_end, ends_piece, ends_rest, open_piece, open_none_left}

-- ---- gaps

-- how many line ends a gap has
abbrev pub gap_ends : Gap → ℕ
gap_ends closed = 0
gap_ends blank = 0
gap_ends (broken true depth) = 2
gap_ends (broken false depth) = 1

indent_passed : (xs r : List ℕ) → IsIndent xs → after_trivia outside (xs ++ r) ≡ after_trivia outside r
unfolding after_trivia
indent_passed _ r (no_indent) = refl
indent_passed _ r (one_space xs h) = indent_passed xs r h
indent_passed _ r (one_tab xs h) = indent_passed xs r h

indentation_passed : (layout : Layout) (depth : ℕ) (r : List ℕ)
    → after_trivia outside (indentation layout depth ++ r) ≡ after_trivia outside r
indentation_passed layout depth r = indent_passed (indentation layout depth) r (indentation_indent layout depth)

-- the same follows the blank space and comments with a gap before them
pub gap_passed : (layout : Layout) (g : Gap) (r : List ℕ)
    → after_trivia outside (gap_text layout g ++ r) ≡ after_trivia outside r
unfolding after_trivia
gap_passed layout closed r = refl
gap_passed layout blank r = refl
gap_passed layout (broken true depth) r = indentation_passed layout depth r
gap_passed layout (broken false depth) r = indentation_passed layout depth r

space_counted : (b : ℕ → List Piece) (n : ℕ) (r : List ℕ) → comments b outside n (32 ∷ r) ≡ comments b outside n r
space_counted b n r =
    let same : n + 0 ≡ n = omega arith in
    no_comment b n 32 r refl refl ∙ ap (λ m. comments b outside m r) same

tab_counted : (b : ℕ → List Piece) (n : ℕ) (r : List ℕ) → comments b outside n (9 ∷ r) ≡ comments b outside n r
tab_counted b n r =
    let same : n + 0 ≡ n = omega arith in
    no_comment b n 9 r refl refl ∙ ap (λ m. comments b outside m r) same

indent_counted : (b : ℕ → List Piece) (n : ℕ) (xs r : List ℕ) → IsIndent xs
    → comments b outside n (xs ++ r) ≡ comments b outside n r
indent_counted b n _ r (no_indent) = refl
indent_counted b n _ r (one_space xs h) = space_counted b n (xs ++ r) ∙ indent_counted b n xs r h
indent_counted b n _ r (one_tab xs h) = tab_counted b n (xs ++ r) ∙ indent_counted b n xs r h

indentation_counted : (b : ℕ → List Piece) (n : ℕ) (layout : Layout) (depth : ℕ) (r : List ℕ)
    → comments b outside n (indentation layout depth ++ r) ≡ comments b outside n r
indentation_counted b n layout depth r = indent_counted b n (indentation layout depth) r
    (indentation_indent layout depth)

-- a gap counts as a number of line ends
pub gap_counted : (layout : Layout) (b : ℕ → List Piece) (g : Gap) (r : List ℕ)
    → comments b outside 0 (gap_text layout g ++ r) ≡ comments b outside (gap_ends g) r
gap_counted layout b closed r = refl
gap_counted layout b blank r = space_counted b 0 r
gap_counted layout b (broken true depth) r =
    no_comment b 0 10 (10 ∷ (indentation layout depth ++ r)) refl refl
    ∙ no_comment b 1 10 (indentation layout depth ++ r) refl refl ∙ indentation_counted b 2 layout depth r
gap_counted layout b (broken false depth) r =
    no_comment b 0 10 (indentation layout depth ++ r) refl refl ∙ indentation_counted b 1 layout depth r

-- ---- comments

-- the sign of a line comment and that of a block comment, before a rest
line_passed : (xs r : List ℕ) → OnLine xs → AtLineEnd r
    → after_trivia outside (47 ∷ (47 ∷ (xs ++ r))) ≡ after_trivia outside r
unfolding after_trivia
line_passed xs r h e = over_line xs r h ∙ at_line_end r e

block_passed : (text rest : List ℕ) → after_trivia (in_block 0) text ≡ rest
    → after_trivia outside (47 ∷ (42 ∷ text)) ≡ rest
unfolding after_trivia
block_passed text rest h = h

-- a comment that ends is one piece, and after it nothing is left of it; after a line comment the
-- line ends
pub closed_counted : (class : ℕ) (text : List ℕ) → Closed class text
    → (b : ℕ → List Piece) (n : ℕ) (r : List ℕ) → (class ≡ LineComment → AtLineEnd r)
    → comments b outside n (text ++ r) ≡ piece class text n ∷ comments b outside 0 r
closed_counted class text (closed_line xs h t) b n r e =
    whole_line b n (xs ++ r) (trimmed xs) r (line_comment b n xs r h (e refl))
    ∙ ap (λ ys. piece LineComment (47 ∷ (47 ∷ ys)) n ∷ comments b outside 0 r) t
closed_counted class text (closed_block xs i) b n r e = whole_block b n BlockComment (xs ++ r) xs
    (comments b outside 0 r) (ends_piece 0 xs i r b n)

pub closed_passed : (class : ℕ) (text : List ℕ) → Closed class text → (r : List ℕ)
    → (class ≡ LineComment → AtLineEnd r) → after_trivia outside (text ++ r) ≡ after_trivia outside r
closed_passed class text (closed_line xs h t) r e = line_passed xs r h (e refl)
closed_passed class text (closed_block xs i) r e = block_passed (xs ++ r) (after_trivia outside r) (ends_rest 0 xs i r)

-- one that is not closed is the last piece
pub unclosed_counted : (class : ℕ) (text : List ℕ) → Unclosed class text
    → (b : ℕ → List Piece) (n : ℕ) → comments b outside n text ≡ piece class text n ∷ b 0
unclosed_counted class text (unclosed xs i) b n = whole_block b n OpenComment xs xs (b 0) (open_piece 0 xs i b n)

pub unclosed_passed : (class : ℕ) (text : List ℕ) → Unclosed class text → after_trivia outside text ≡ []
unclosed_passed class text (unclosed xs i) = block_passed xs [] (open_none_left 0 xs i)

-- they are comments, and begin with `/`
pub closed_is_comment : (class : ℕ) (text : List ℕ) → Closed class text → is_comment class ≡ true
closed_is_comment class text (closed_line xs h t) = refl
closed_is_comment class text (closed_block xs i) = refl

pub unclosed_is_comment : (class : ℕ) (text : List ℕ) → Unclosed class text → is_comment class ≡ true
unclosed_is_comment class text (unclosed xs i) = refl

pub closed_begins : (class : ℕ) (text : List ℕ) → Closed class text → (more : List ℕ) × (text ≡ 47 ∷ more)
closed_begins class text (closed_line xs h t) = (47 ∷ xs, refl)
closed_begins class text (closed_block xs i) = (42 ∷ xs, refl)

pub unclosed_begins : (class : ℕ) (text : List ℕ) → Unclosed class text → (more : List ℕ) × (text ≡ 47 ∷ more)
unclosed_begins class text (unclosed xs i) = (42 ∷ xs, refl)
