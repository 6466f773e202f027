-- No CR is directly before LF in a laid-out text.
use Rattle.std.proofs.Common.{◌≡◌, ℕ, ◌==◌, ◌&&◌, Bool, true, false, not, cond, refl, sym, ap, subst, ◌∙◌, List, [], ◌∷◌, ◌++◌, append-nil}
use Rattle.std.specs.Prelude.{codes}
use Rattle.std.proofs.lemmas.Bool.{eqb-true, false_from_ne_true, true≢false, not-true}
use Rattle.wgsl_model.specs.Tokens.Characters.{is_line_break}
use Rattle.wgsl_model.specs.Tokens.Kind.{Kind}
use Rattle.wgsl_model.specs.Tokens.Trivia.{first_or_zero}
use Rattle.wgsl_theory_printed.proofs.Spelling.Split.{Each, differs}
use Rattle.wgsl_model_tidy.specs.Pieces.{Piece, OpenComment}
use Rattle.wgsl_model_tidy.specs.Roles.{Role, beginning, is}
use Rattle.wgsl_model_tidy.specs.Layout.{Layout}
use Rattle.wgsl_model_tidy.specs.Shown.{without_returns, is_space, has_stars, with_front, block_shown}
use Rattle.wgsl_model_tidy.specs.Ahead.{next_role}
use Rattle.wgsl_model_tidy.specs.LaidOut.{Gap, closed, blank, broken, Last, token, line_comment, block_comment, leading_comment, open_comment, Spot, gap_before, gap_text, indentation, is_at_front, depth_after, piece_text, ending, laid_from}
use Rattle.wgsl_theory_tidy.proofs.Levels.{IsIndent, no_indent, one_space, one_tab, both_indents, indentation_indent}
use Rattle.wgsl_theory_tidy.proofs.Comments.{piece, OnLine}
use Rattle.wgsl_theory_tidy.proofs.Kept.Bodies.{IsBody, body_end, text_end, body_opens, body_closes, body_other, first_same}
use Rattle.wgsl_theory_tidy.proofs.Kept.ClosedComments.{Closed, closed_line, closed_block, Unclosed, unclosed, AllClosed, AllClosedButLast, no_more, one_more, last_open}
use Rattle.wgsl_theory_tidy.proofs.Kept.Readings.{IsToken, is_word, is_slash, is_slash_equal, is_start, is_end, token_piece, Reads, reads_end, reads_token}
use Rattle.wgsl_theory_tidy.proofs.Kept.LaidText.{has_characters}
use Rattle.wgsl_theory_tidy.proofs.Kept.LaidTokens.{no_comment}
use Rattle.wgsl_theory_tidy.proofs.Kept.Relaid.{after_first}
use Rattle.wgsl_theory_tidy.proofs.Kept.ShownTexts.{token_text, closed_text}
use Rattle.wgsl_theory_tidy.proofs.Kept.Trails.{trail, last_trail}
use Rattle.wgsl_theory_tidy.proofs.Kept.CrlfTokens.{return_alone, none_alone, no_return}
use Rattle.wgsl_theory_tidy.proofs.Kept.CrlfPieces.{HasNoCrlf}

-- ---- a text with another after it

-- it has none, and does not end with CR
abbrev IsClear : List ℕ → Type 0
IsClear xs = (ys : List ℕ) → HasNoCrlf ys → HasNoCrlf (xs ++ ys)

clear_without : (xs : List ℕ) → Each (differs 13) xs → IsClear xs
clear_without [] h ys k = k
clear_without (x ∷ xs) h ys k = (rw (not-true (x == 13) h.0) refl, clear_without xs h.1 ys k)

-- ---- gaps

clear_indent : (xs : List ℕ) → IsIndent xs → IsClear xs
clear_indent _ (no_indent) ys k = k
clear_indent _ (one_space xs h) ys k = (refl, clear_indent xs h ys k)
clear_indent _ (one_tab xs h) ys k = (refl, clear_indent xs h ys k)

clear_gap : (layout : Layout) (gap : Gap) → IsClear (gap_text layout gap)
clear_gap layout closed ys k = k
clear_gap layout blank ys k = (refl, k)
clear_gap layout (broken true depth) ys k =
    (refl, (refl, clear_indent (indentation layout depth) (indentation_indent layout depth) ys k))
clear_gap layout (broken false depth) ys k =
    (refl, clear_indent (indentation layout depth) (indentation_indent layout depth) ys k)

line_or_nothing : (b : Bool) → HasNoCrlf (cond b [] (codes "\n"))
line_or_nothing true = tt
line_or_nothing false = (refl, tt)

clear_ending : (last : Last) (left : Role) → HasNoCrlf (ending last left)
clear_ending token left = line_or_nothing (is left beginning)
clear_ending line_comment left = (refl, tt)
clear_ending block_comment left = (refl, tt)
clear_ending leading_comment left = (refl, tt)
clear_ending open_comment left = tt

-- ---- tokens

clear_token : (k : Kind) (w rest : List ℕ) → IsToken k w rest → IsClear w
clear_token k [] rest (is_word j v r m s e) = absurd s.begins
clear_token k (x ∷ xs) rest (is_word j v r m s e) = clear_without (x ∷ xs)
    (none_alone 13 x xs return_alone (no_return x s.begins.0) s.spelled)
clear_token k w rest (is_slash r e) = λ ys h. (refl, h)
clear_token k w rest (is_slash_equal r e) = λ ys h. (refl, (refl, h))
clear_token k w rest (is_start r) = λ ys h. (refl, h)
clear_token k w rest (is_end r) = λ ys h. (refl, h)

-- ---- comments

on_line : (xs : List ℕ) → OnLine xs → Each (differs 13) xs
on_line [] h = tt
on_line (x ∷ xs) h = (
  ap not (false_from_ne_true (x == 13) (λ e. true≢false (sym (ap is_line_break (eqb-true x 13 e)) ∙ h.0))),
  on_line xs h.1,
)

-- without the CR before LF
no_returns : (xs : List ℕ) → HasNoCrlf (without_returns xs)
no_returns [] = tt
no_returns (c ∷ cs) = go (c == 13 && first_or_zero (without_returns cs) == 10) refl (no_returns cs)
  where
    go : (b : Bool) → (c == 13 && first_or_zero (without_returns cs) == 10) ≡ b
        → HasNoCrlf (without_returns cs) → HasNoCrlf (cond b (without_returns cs) (c ∷ without_returns cs))
    go true e h = h
    go false e h = (e, h)

-- with another front of its lines
with_front_clear : (front : List ℕ) → IsIndent front → (begins : Bool) (xs : List ℕ) → HasNoCrlf xs
    → HasNoCrlf (with_front front begins xs)
with_front_clear front n begins [] h = tt
with_front_clear front n begins (c ∷ cs) h = go (begins && is_space c) (c == 10)
    (with_front_clear front n true cs h.1) (with_front_clear front n false cs h.1)
  where
    go : (b l : Bool) → HasNoCrlf (with_front front true cs) → HasNoCrlf (with_front front false cs)
        → HasNoCrlf (cond b (with_front front true cs)
        (cond l (10 ∷ (front ++ with_front front true cs)) (c ∷ with_front front false cs)))
    go true l i j = i
    go false true i j = (refl, clear_indent front n (with_front front true cs) i)
    go false false i j = (ap (λ d. c == 13 && d == 10) (first_same front cs) ∙ h.0, j)

block_clear : (front : List ℕ) → IsIndent front → (begins : Bool) (text : List ℕ)
    → HasNoCrlf (block_shown front begins (without_returns text))
block_clear front n begins text = go (begins && has_stars false (without_returns text))
  where
    go : (b : Bool) → HasNoCrlf (cond b (with_front front false (without_returns text)) (without_returns text))
    go true = with_front_clear front n false (without_returns text) (no_returns text)
    go false = no_returns text

-- it does not end with CR
not_empty : (depth : ℕ) → IsBody true depth [] → ⊥
not_empty _ (text_end depth e) = true≢false e

body_clear : (depth : ℕ) (xs : List ℕ) → IsBody true depth xs → HasNoCrlf xs → IsClear xs
body_clear _ _ (body_end e) h ys k = (refl, (refl, k))
body_clear _ _ (text_end depth e) h ys k = absurd (true≢false e)
body_clear _ _ (body_opens depth xs i) h ys k = (refl, (refl, body_clear _ xs i h.1.1 ys k))
body_clear _ _ (body_closes depth xs i) h ys k = (refl, (refl, body_clear _ xs i h.1.1 ys k))
body_clear _ _ (body_other depth c [] m n i) h ys k = absurd (not_empty depth i)
body_clear _ _ (body_other depth c (x ∷ xs) m n i) h ys k = (h.0, body_clear depth (x ∷ xs) i h.1 ys k)

front_of : (layout : Layout) (depth : ℕ) → IsIndent (indentation layout depth ++ codes " ")
front_of layout depth = both_indents (indentation layout depth) (codes " ")
    (indentation_indent layout depth) (one_space [] no_indent)

-- ---- pieces as they are written

abbrev IsClearPiece : Layout → Piece → Type 0
IsClearPiece layout p = (spot : Spot) (gap : Gap) → IsClear (piece_text layout spot gap p)

closed_clear : (class : ℕ) (text : List ℕ) → Closed class text → HasNoCrlf text → IsClear text
closed_clear class text (closed_line xs h t) k = clear_without (47 ∷ (47 ∷ xs)) (refl, (refl, on_line xs h))
closed_clear class text (closed_block xs i) k = λ ys h. (refl, (refl, body_clear 0 xs i k.1.1 ys h))

closed_without : (layout : Layout) (spot : Spot) (gap : Gap) (class : ℕ) (text : List ℕ) (n : ℕ)
    → Closed class text → HasNoCrlf (piece_text layout spot gap (piece class text n))
closed_without layout spot gap class text n (closed_line xs h t) = subst HasNoCrlf
    (append-nil (47 ∷ (47 ∷ xs))) (clear_without (47 ∷ (47 ∷ xs)) (refl, (refl, on_line xs h)) [] tt)
closed_without layout spot gap class text n (closed_block xs i) = block_clear _
    (front_of layout (depth_after gap spot.state.line)) (is_at_front gap spot.last spot.state.last) text

closed_piece : (layout : Layout) (p : Piece) → Closed p.class p.text → IsClearPiece layout p
closed_piece layout p c spot gap =
    closed_clear p.class (piece_text layout spot gap p)
    (closed_text layout spot gap p.class p.text p.line_ends c)
    (closed_without layout spot gap p.class p.text p.line_ends c)

token_clear : (layout : Layout) (k : Kind) (w rest : List ℕ) (n : ℕ) → IsToken k w rest
    → IsClearPiece layout (token_piece k w n)
token_clear layout k w rest n i spot gap = subst IsClear
    (sym (token_text layout spot gap k.class w n (no_comment k w rest i))) (clear_token k w rest i)

-- the last may be a comment that is not closed
data AllClear (layout : Layout) : List Piece → Type 0 where
  none : AllClear layout []
  one : (p : Piece) (ps : List Piece) → IsClearPiece layout p → AllClear layout ps → AllClear layout (p ∷ ps)
  open_last : (text : List ℕ) (n : ℕ) → AllClear layout (piece OpenComment text n ∷ [])

clear_before : (layout : Layout) (cs ps : List Piece) → AllClosed cs → AllClear layout ps → AllClear layout (cs ++ ps)
clear_before layout [] ps h k = k
clear_before layout (c ∷ cs) ps h k = one c (cs ++ ps) (closed_piece layout c h.0) (clear_before layout cs ps h.1 k)

open_so : (layout : Layout) (class : ℕ) (text : List ℕ) (n : ℕ) → Unclosed class text
    → AllClear layout (piece class text n ∷ [])
open_so layout class text n (unclosed xs i) = open_last text n

last_clear : (layout : Layout) (cs : List Piece) → AllClosedButLast cs → AllClear layout cs
last_clear layout _ (no_more) = none
last_clear layout _ (one_more p ps c h) = one p ps (closed_piece layout p c) (last_clear layout ps h)
last_clear layout _ (last_open p u) = open_so layout p.class p.text p.line_ends u

all_clear : (layout : Layout) (text : List ℕ) (ks : List Kind) (ps : List Piece) → Reads text ks ps → AllClear layout ps
all_clear layout _ _ _ (reads_end text e) =
    let t = last_trail text e 0 in
    subst (AllClear layout) (sym (t.3 (λ n. []) ∙ append-nil t.0)) (last_clear layout t.0 t.2)
all_clear layout _ _ _ (reads_token trivia w rest k ks ps p i r) =
    let t = trail trivia (w ++ rest) p (has_characters k w rest i) 0 in
    subst (AllClear layout) (sym (t.3 (λ n. token_piece k w n ∷ ps)))
    (clear_before layout t.0 (token_piece k w t.1 ∷ ps) t.2
    (one (token_piece k w t.1) ps (token_clear layout k w rest t.1 i) (all_clear layout rest ks ps r)))

-- ---- the laid-out text

clear_laid : (layout : Layout) (ps : List Piece) → AllClear layout ps → (spot : Spot)
    → HasNoCrlf (laid_from layout spot ps)
clear_laid layout _ (none) spot = clear_ending spot.last spot.state.last
clear_laid layout _ (one p ps h k) spot =
    let gap = gap_before layout spot (next_role spot.state (p ∷ ps)) p ps in
    clear_gap layout gap
    (piece_text layout spot gap p ++ laid_from layout (after_first layout spot p ps) ps)
    (h spot gap (laid_from layout (after_first layout spot p ps) ps)
    (clear_laid layout ps k (after_first layout spot p ps)))
clear_laid layout _ (open_last text n) spot =
    let gap = gap_before layout spot (next_role spot.state (piece OpenComment text n ∷ []))
    (piece OpenComment text n) [] in
    clear_gap layout gap (without_returns text ++ [])
    (subst HasNoCrlf (sym (append-nil (without_returns text))) (no_returns text))

pub laid_no_crlf : (layout : Layout) (text : List ℕ) (ks : List Kind) (ps : List Piece)
    → Reads text ks ps → (spot : Spot) → HasNoCrlf (laid_from layout spot ps)
laid_no_crlf layout text ks ps r spot = clear_laid layout ps (all_clear layout text ks ps r) spot
