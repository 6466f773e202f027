-- The pieces of a text that is read are written the same with CR LF in them, and the text has the
-- same characters that are not blank.
use Rattle.std.proofs.Common.{◌≡◌, ℕ, ◌==◌, Bool, true, false, cond, refl, sym, ap, subst, ◌∙◌, List, [], ◌∷◌, ◌++◌, map, append-nil}
use Rattle.std.proofs.lemmas.Bool.{eqb-true, false_from_ne_true, true≢false}
use Rattle.wgsl_model.specs.Tokens.Characters.{is_blank, is_line_break}
use Rattle.wgsl_model.specs.Tokens.ClassTable.{LineComment}
use Rattle.wgsl_model.specs.Tokens.Kind.{Kind}
use Rattle.wgsl_model_tidy.specs.Pieces.{Piece}
use Rattle.wgsl_model_tidy.specs.NonBlank.{non_blank}
use Rattle.wgsl_model_tidy.specs.Formatted.{with_crlf}
use Rattle.wgsl_model_tidy.specs.Kept.{class_and_text}
use Rattle.wgsl_theory_tidy.proofs.Comments.{piece, OnLine}
use Rattle.wgsl_theory_tidy.proofs.Kept.ClosedComments.{Closed, closed_line, closed_block, Unclosed, unclosed, AllClosed, AllClosedButLast, no_more, one_more, last_open}
use Rattle.wgsl_theory_tidy.proofs.Kept.Readings.{token_piece, Reads, reads_end, reads_token}
use Rattle.wgsl_theory_tidy.proofs.Kept.LaidText.{has_characters}
use Rattle.wgsl_theory_tidy.proofs.Kept.Trails.{trail, last_trail}
use Rattle.wgsl_theory_tidy.proofs.Kept.CrlfTrivia.{crlf_other}
use Rattle.wgsl_theory_tidy.proofs.Kept.CrlfPieces.{crlf_piece}
use Rattle.wgsl_theory_tidy.proofs.Kept.CrlfReads.{token_same}
use Rattle.wgsl_theory_tidy.proofs.Kept.CrlfShown.{IsSame, AllSame, same_without, same_block, same_open}

-- ---- comments

-- a line comment has no LF
on_line_same : (xs : List ℕ) → OnLine xs → with_crlf xs ≡ xs
on_line_same [] h = refl
on_line_same (x ∷ xs) h =
    let other : (x == 10) ≡ false = false_from_ne_true (x == 10)
    (λ e. true≢false (sym (ap is_line_break (eqb-true x 10 e)) ∙ h.0)) in
    crlf_other x xs other ∙ ap (λ ys. x ∷ ys) (on_line_same xs h.1)

closed_same : (class : ℕ) (text : List ℕ) (n : ℕ) → Closed class text → IsSame (piece class text n)
closed_same class text n (closed_line xs h t) = same_without (piece LineComment (47 ∷ (47 ∷ xs)) n)
    (ap (λ ys. 47 ∷ (47 ∷ ys)) (on_line_same xs h))
closed_same class text n (closed_block xs i) = same_block (47 ∷ (42 ∷ xs)) n

unclosed_same : (class : ℕ) (text : List ℕ) (n : ℕ) → Unclosed class text → IsSame (piece class text n)
unclosed_same class text n (unclosed xs i) = same_open (47 ∷ (42 ∷ xs)) n

closed_before : (cs ps : List Piece) → AllClosed cs → AllSame ps → AllSame (cs ++ ps)
closed_before [] ps h k = k
closed_before (c ∷ cs) ps h k = (closed_same c.class c.text c.line_ends h.0, closed_before cs ps h.1 k)

last_same : (cs : List Piece) → AllClosedButLast cs → AllSame cs
last_same _ (no_more) = tt
last_same _ (one_more p ps c h) = (closed_same p.class p.text p.line_ends c, last_same ps h)
last_same _ (last_open p u) = (unclosed_same p.class p.text p.line_ends u, tt)

-- ---- all pieces

pub all_same : (text : List ℕ) (ks : List Kind) (ps : List Piece) → Reads text ks ps → AllSame ps
all_same _ _ _ (reads_end text e) =
    let t = last_trail text e 0 in
    subst AllSame (sym (t.3 (λ n. []) ∙ append-nil t.0)) (last_same t.0 t.2)
all_same _ _ _ (reads_token trivia w rest k ks ps p i r) =
    let t = trail trivia (w ++ rest) p (has_characters k w rest i) 0 in
    subst AllSame (sym (t.3 (λ n. token_piece k w n ∷ ps)))
    (closed_before t.0 (token_piece k w t.1 ∷ ps) t.2
    (same_without (token_piece k w t.1) (token_same k w rest i), all_same rest ks ps r))

pub same_pieces : (ps : List Piece) → AllSame ps → map class_and_text (map crlf_piece ps) ≡ map class_and_text ps
same_pieces [] h = refl
same_pieces (p ∷ ps) h =
    ap (λ text. (p.class, text) ∷ map class_and_text (map crlf_piece ps)) (h.0 [] true)
    ∙ ap (λ xs. class_and_text p ∷ xs) (same_pieces ps h.1)

-- ---- characters

pub same_blank : (xs : List ℕ) → non_blank (with_crlf xs) ≡ non_blank xs
same_blank [] = refl
same_blank (x ∷ xs) = go (x == 10) refl (same_blank xs)
  where
    go : (b : Bool) → (x == 10) ≡ b → non_blank (with_crlf xs) ≡ non_blank xs
        → non_blank (cond b (13 ∷ (10 ∷ with_crlf xs)) (x ∷ with_crlf xs)) ≡ non_blank (x ∷ xs)
    go true e h = h ∙ subst (λ c. non_blank xs ≡ non_blank (c ∷ xs)) (sym (eqb-true x 10 e)) refl
    go false e h = ap (λ ys. cond (is_blank x) ys (x ∷ ys)) h
