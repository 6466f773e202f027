-- With CR LF each LF of a formatted text is after CR, with LF none is.
use Rattle.std.proofs.Common.{◌≡◌, ℕ, ◌==◌, Bool, true, false, cond, refl, sym, ap, subst, ◌∙◌, List, [], ◌∷◌, ◌++◌}
use Rattle.std.proofs.lemmas.Bool.{eqb-true, true≢false}
use Rattle.grammar.specs.Tokens.{Token}
use Rattle.wgsl_model_tidy.specs.Pieces.{pieces}
use Rattle.wgsl_model_tidy.specs.Layout.{Layout}
use Rattle.wgsl_model_tidy.specs.LaidOut.{laid_out}
use Rattle.wgsl_model_tidy.specs.Formatted.{mark_of, unmarked, ends_crlf, with_crlf, with_line_ends, formatted}
use Rattle.wgsl_model_tidy.specs.Lines.{EndsLinesWithCRLF, HasNoCRLF}
use Rattle.wgsl_theory_tidy.proofs.Kept.CrlfPieces.{HasNoCrlf}

-- ---- with CR LF

-- a front ends with CR
abbrev EndsWithReturn : List ℕ → Type 0
EndsWithReturn front = (before : List ℕ) × (front ≡ before ++ (13 ∷ []))

one_before : (x : ℕ) (front : List ℕ) → EndsWithReturn front → EndsWithReturn (x ∷ front)
one_before x front e = (x ∷ e.0, ap (λ xs. x ∷ xs) e.1)

-- one character more, which is no LF
other_ends : (c : ℕ) (text : List ℕ) → (c == 10) ≡ false → EndsLinesWithCRLF text → EndsLinesWithCRLF (c ∷ text)
other_ends c text n h [] rest e = let same : c ≡ 10 = cc in absurd (true≢false (sym (ap (λ d. d == 10) same) ∙ n))
other_ends c text n h (x ∷ front) rest e =
    let tail : text ≡ front ++ (10 ∷ rest) = cc in one_before x front (h front rest tail)

-- or CR LF
both_end : (text : List ℕ) → EndsLinesWithCRLF text → EndsLinesWithCRLF (13 ∷ (10 ∷ text))
both_end text h [] rest e = absurd cc
both_end text h (x ∷ []) rest e = let same : x ≡ 13 = cc in ([], ap (λ d. d ∷ []) same)
both_end text h (x ∷ (y ∷ front)) rest e =
    let tail : text ≡ front ++ (10 ∷ rest) = cc in one_before x (y ∷ front)
    (one_before y front (h front rest tail))

nothing_ends : EndsLinesWithCRLF []
nothing_ends [] rest e = absurd cc
nothing_ends (x ∷ front) rest e = absurd cc

crlf_ends : (text : List ℕ) → EndsLinesWithCRLF (with_crlf text)
crlf_ends [] = nothing_ends
crlf_ends (c ∷ cs) = go (c == 10) refl (crlf_ends cs)
  where
    go : (b : Bool) → (c == 10) ≡ b → EndsLinesWithCRLF (with_crlf cs)
        → EndsLinesWithCRLF (cond b (13 ∷ (10 ∷ with_crlf cs)) (c ∷ with_crlf cs))
    go true e h = both_end (with_crlf cs) h
    go false e h = other_ends c (with_crlf cs) e h

-- after a mark
marked_ends : (source text : List ℕ) → EndsLinesWithCRLF text → EndsLinesWithCRLF (mark_of source ++ text)
marked_ends [] text h = h
marked_ends (c ∷ cs) text h = go (c == 0xFEFF) refl
  where
    go : (b : Bool) → (c == 0xFEFF) ≡ b → EndsLinesWithCRLF (cond b (c ∷ []) [] ++ text)
    go true e = other_ends c text (ap (λ d. d == 10) (eqb-true c 0xFEFF e)) h
    go false e = h

pub formatted_crlf : (layout : Layout) (source : List ℕ) (ts : List Token)
    → ends_crlf layout.newlines (unmarked source) ≡ true → EndsLinesWithCRLF (formatted layout source ts)
formatted_crlf layout source ts e =
    let text = laid_out layout (pieces (unmarked source) ts) in
    subst (λ b. EndsLinesWithCRLF (mark_of source ++ with_line_ends b text)) (sym e)
    (marked_ends source (with_crlf text) (crlf_ends text))

-- ---- with LF

none_after : (text : List ℕ) → HasNoCrlf text → HasNoCRLF text
none_after [] h [] rest e = absurd cc
none_after [] h (x ∷ front) rest e = absurd cc
none_after (c ∷ cs) h [] rest e = let both : HasNoCrlf (13 ∷ (10 ∷ rest)) = subst HasNoCrlf e h in true≢false both.0
none_after (c ∷ cs) h (x ∷ front) rest e =
    let tail : cs ≡ front ++ (13 ∷ (10 ∷ rest)) = cc in none_after cs h.1 front rest tail

marked_none : (source text : List ℕ) → HasNoCrlf text → HasNoCrlf (mark_of source ++ text)
marked_none [] text h = h
marked_none (c ∷ cs) text h = go (c == 0xFEFF) refl
  where
    go : (b : Bool) → (c == 0xFEFF) ≡ b → HasNoCrlf (cond b (c ∷ []) [] ++ text)
    go true e = subst (λ d. HasNoCrlf (d ∷ text)) (sym (eqb-true c 0xFEFF e)) (refl, h)
    go false e = h

pub formatted_lf : (layout : Layout) (source : List ℕ) (ts : List Token)
    → HasNoCrlf (laid_out layout (pieces (unmarked source) ts))
    → ends_crlf layout.newlines (unmarked source) ≡ false → HasNoCRLF (formatted layout source ts)
formatted_lf layout source ts h e =
    let text = laid_out layout (pieces (unmarked source) ts) in
    subst (λ b. HasNoCRLF (mark_of source ++ with_line_ends b text)) (sym e)
    (none_after (mark_of source ++ text) (marked_none source text h))
