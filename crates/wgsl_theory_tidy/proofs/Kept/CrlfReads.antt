-- A text with CR LF in place of each LF is read with the same kinds and the same pieces, but for
-- the line ends in these; and a text is read in one way.
use Rattle.std.proofs.Common.{◌≡◌, ℕ, ◌==◌, ◌&&◌, Bool, true, false, refl, sym, ap, subst, ◌∙◌, List, [], ◌∷◌, ◌++◌, map}
use Rattle.wgsl_model.specs.Tokens.Kind.{Kind}
use Rattle.wgsl_model.specs.Tokens.Raw.{Raw.token, raw}
use Rattle.wgsl_model.specs.Tokens.Trivia.{outside, after_trivia}
use Rattle.wgsl_theory_printed.proofs.Spelling.Spellings.{IsSpelling}
use Rattle.wgsl_model_tidy.specs.Pieces.{Piece, comments}
use Rattle.wgsl_model_tidy.specs.Formatted.{with_crlf}
use Rattle.wgsl_theory_tidy.proofs.Kept.Alone.{line_end_alone}
use Rattle.wgsl_theory_tidy.proofs.Kept.Readings.{IsToken, is_word, is_slash, is_slash_equal, is_start, is_end, token_piece, Reads, reads_end, reads_token}
use Rattle.wgsl_theory_tidy.proofs.Kept.LaidTokens.{same_before, same_token}
use Rattle.wgsl_theory_tidy.proofs.Kept.CrlfTrivia.{crlf_append, over_crlf}
use Rattle.wgsl_theory_tidy.proofs.Kept.CrlfTokens.{none_alone, no_lf, no_lf_same, raw_crlf}
use Rattle.wgsl_theory_tidy.proofs.Kept.CrlfPieces.{HasNoCrlf, crlf_piece, comments_crlf}

-- ---- parts of a text without CR LF

pub front_without : (xs ys : List ℕ) → HasNoCrlf (xs ++ ys) → HasNoCrlf xs
front_without [] ys h = tt
front_without (x ∷ []) ys h = (nothing (x == 13), tt)
  where
    nothing : (b : Bool) → (b && false) ≡ false
    nothing true = refl
    nothing false = refl
front_without (x ∷ (y ∷ xs)) ys h = (h.0, front_without (y ∷ xs) ys h.1)

pub rest_without : (xs ys : List ℕ) → HasNoCrlf (xs ++ ys) → HasNoCrlf ys
rest_without [] ys h = h
rest_without (x ∷ xs) ys h = rest_without xs ys h.1

-- ---- a token

word_same : (k : Kind) (w : List ℕ) → IsSpelling k w → with_crlf w ≡ w
word_same k [] s = refl
word_same k (x ∷ xs) s = no_lf_same (x ∷ xs) (none_alone 10 x xs line_end_alone (no_lf x s.begins.0) s.spelled)

-- it has no LF
pub token_same : (k : Kind) (w rest : List ℕ) → IsToken k w rest → with_crlf w ≡ w
token_same k w rest (is_word j v r m s e) = word_same k w s
token_same k w rest (is_slash r e) = refl
token_same k w rest (is_slash_equal r e) = refl
token_same k w rest (is_start r) = refl
token_same k w rest (is_end r) = refl

pub token_before : (k : Kind) (w rest : List ℕ) → IsToken k w rest → with_crlf (w ++ rest) ≡ w ++ with_crlf rest
token_before k w rest i = crlf_append w rest ∙ ap (λ xs. xs ++ with_crlf rest) (token_same k w rest i)

-- it is the same token before the rest
token_crlf : (k : Kind) (w rest : List ℕ) → IsToken k w rest → IsToken k w (with_crlf rest)
token_crlf k w rest (is_word j v r m s e) =
    is_word k w (with_crlf rest) m s (subst (λ xs. raw xs ≡ token k xs (with_crlf rest))
    (crlf_append w rest ∙ ap (λ xs. xs ++ with_crlf rest) (word_same k w s))
    (raw_crlf (w ++ rest) (w ++ rest) rest k e).is_token)
token_crlf k w rest (is_slash r e) = is_slash (with_crlf rest) (raw_crlf (47 ∷ rest) (47 ∷ rest) rest k e).is_token
token_crlf k w rest (is_slash_equal r e) = is_slash_equal (with_crlf rest)
    (raw_crlf (47 ∷ (61 ∷ rest)) (47 ∷ (61 ∷ rest)) rest k e).is_token
token_crlf k w rest (is_start r) = is_start (with_crlf rest)
token_crlf k w rest (is_end r) = is_end (with_crlf rest)

-- ---- the whole text

pub reads_crlf : (text : List ℕ) (ks : List Kind) (ps : List Piece) → Reads text ks ps
    → HasNoCrlf text → Reads (with_crlf text) ks (map crlf_piece ps)
reads_crlf _ _ _ (reads_end text e) h =
    subst (Reads (with_crlf text) []) (comments_crlf (λ n. []) (λ n. []) (λ n. refl) outside 0 text h tt)
    (reads_end (with_crlf text) (over_crlf outside text tt ∙ ap with_crlf e))
reads_crlf _ _ _ (reads_token trivia w rest k ks ps p i r) h =
    let word = token_before k w rest i in
    let whole : with_crlf (trivia ++ (w ++ rest)) ≡ with_crlf trivia ++ (w ++ with_crlf rest) =
    crlf_append trivia (w ++ rest) ∙ ap (λ xs. with_crlf trivia ++ xs) word in
    let passed : after_trivia outside (with_crlf trivia ++ (w ++ with_crlf rest)) ≡ w ++ with_crlf rest =
    ap (after_trivia outside) (sym whole) ∙ over_crlf outside (trivia ++ (w ++ rest)) tt ∙ ap with_crlf p ∙ word in
    let left = reads_crlf rest ks ps r (rest_without w rest (rest_without trivia (w ++ rest) h)) in
    let changed = λ (n : ℕ). ap (λ (text : List ℕ). token_piece k text n ∷ map crlf_piece ps)
    (sym (token_same k w rest i)) in
    let found = comments_crlf (λ n. token_piece k w n ∷ map crlf_piece ps)
    (λ n. token_piece k w n ∷ ps) changed outside 0 trivia (front_without trivia (w ++ rest) h) tt in
    subst (λ xs. Reads xs (k ∷ ks) (map crlf_piece (comments (λ n. token_piece k w n ∷ ps) outside 0 trivia)))
    (sym whole)
    (subst (Reads (with_crlf trivia ++ (w ++ with_crlf rest)) (k ∷ ks)) found (reads_token
    (with_crlf trivia) w (with_crlf rest) k ks (map crlf_piece ps) passed (token_crlf k w rest i) left))

-- ---- one reading

pub read_once : (text : List ℕ) (ks : List Kind) (ps : List Piece) → Reads text ks ps
    → (out : List ℕ) (js : List Kind) (qs : List Piece) → Reads out js qs → out ≡ text → js ≡ ks → qs ≡ ps
read_once _ _ _ (reads_end text e) _ _ _ (reads_end out f) q s = ap (comments (λ n. []) outside 0) q
read_once _ _ _ (reads_end text e) _ _ _ (reads_token trivia w rest k ks ps p i r) q s = absurd cc
read_once _ _ _ (reads_token trivia w rest k ks ps p i r) _ _ _ (reads_end out f) q s = absurd cc
read_once _ _ _ (reads_token trivia w rest k ks ps p i r) _ _ _ (reads_token other v more j js qs o g x) q s =
    let kind : j ≡ k = cc in
    let kinds : js ≡ ks = cc in
    let seen : v ++ more ≡ w ++ rest = sym o ∙ ap (after_trivia outside) q ∙ p in
    let same = same_token k v more w rest (subst (λ (m : Kind). IsToken m v more) kind g) i seen in
    let first : other ≡ trivia = same_before other trivia (w ++ rest) (ap (λ xs. other ++ xs) (sym seen) ∙ q) in
    let left : qs ≡ ps = read_once rest ks ps r more js qs x same.1 kinds in
    ap (λ xs. comments (λ n. token_piece j v n ∷ qs) outside 0 xs) first
    ∙ ap (λ (m : Kind). comments (λ n. token_piece m v n ∷ qs) outside 0 trivia) kind
    ∙ ap (λ u. comments (λ n. token_piece k u n ∷ qs) outside 0 trivia) same.0
    ∙ ap (λ us. comments (λ n. token_piece k w n ∷ us) outside 0 trivia) left
