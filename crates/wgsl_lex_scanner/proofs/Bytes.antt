-- The bytes of a text that is cut.
use Rattle.std.proofs.Common.{◌≡◌, ℕ, ◌-◌, ◌≤◌, ◌<◌, drop, slice_get, refl, sym, ap, subst, List, [], ◌∷◌, ◌++◌, length, take, chars, ◌∙◌, arith, length-append, append-nil, Option, Some, None}
use Rattle.std.specs.Prelude.{slice_range, MatchOption}
use Rattle.std.specs.Char.{encode_utf8}
use Rattle.std.specs.Str.{IsUtf8, IsCharBoundary, encode_utf8_all}
use Rattle.std.proofs.lemmas.Str.{encode_ascii, chars-nil, chars_past_char, encodes-chars, encodes-append, chars_from_encodes, IsCharBoundary-at_seam, IsCharBoundary-after_ascii}
use Rattle.wgsl_model.specs.Tokens.Numbers.{without_last}
use Rattle.wgsl_model.proofs.Tokens.Fronts.{take-append_front}

-- a text takes as many bytes as its characters
pub length-chars : (text : List ℕ) → IsUtf8 text → length (encode_utf8_all (chars text)) ≡ length text
length-chars text t = ap length (encodes-chars text t)

seam : (text rest front : List ℕ) → IsUtf8 text → IsUtf8 rest → chars text ≡ front ++ chars rest
    → text ≡ encode_utf8_all front ++ rest
seam text rest front t r e =
    sym (encodes-chars text t) ∙ ap encode_utf8_all e ∙ encodes-append front (chars rest)
    ∙ ap (λ bs. encode_utf8_all front ++ bs) (encodes-chars rest r)

size : (text rest xs : List ℕ) → text ≡ xs ++ rest → length xs ≡ length text - length rest
size text rest xs e = omega (arith, ap length e, length-append xs rest)

-- the rest is no longer than the text
pub rest-within : (text rest front : List ℕ) → IsUtf8 text → IsUtf8 rest
    → chars text ≡ front ++ chars rest → length rest ≤ length text
rest-within text rest front t r e =
    omega (arith, ap length (seam text rest front t r e), length-append (encode_utf8_all front) rest)

-- the rest begins between two characters
pub rest-boundary : (text rest front : List ℕ) → IsUtf8 text → IsUtf8 rest
    → chars text ≡ front ++ chars rest → IsCharBoundary text (length text - length rest)
rest-boundary text rest front t r e =
    let s = seam text rest front t r e in
    subst (λ n. IsCharBoundary text n) (size text rest (encode_utf8_all front) s)
    (IsCharBoundary-at_seam text (encode_utf8_all front) rest s r)

whole_range : (bs : List ℕ) (n : ℕ) → slice_range bs 0 n ≡ take n bs
whole_range bs n = let e : n - 0 ≡ n = omega arith in rw e refl

-- the bytes before the rest
pub front-bytes : (text rest front : List ℕ) → IsUtf8 text → IsUtf8 rest → chars text ≡ front ++ chars rest
    → slice_range text 0 (length text - length rest) ≡ encode_utf8_all front
front-bytes text rest front t r e =
    let s = seam text rest front t r e in
    whole_range text (length text - length rest) ∙ ap (take (length text - length rest)) s
    ∙ take-append_front (encode_utf8_all front) rest (length text - length rest)
    (sym (size text rest (encode_utf8_all front) s))

pub chars_of : (bs front : List ℕ) → IsUtf8 bs → bs ≡ encode_utf8_all front → chars bs ≡ front
chars_of bs front u e = sym (chars_from_encodes front bs u (sym e))

pub bytes_of : (bs xs : List ℕ) → IsUtf8 bs → chars bs ≡ xs → bs ≡ encode_utf8_all xs
bytes_of bs xs u e = sym (encodes-chars bs u) ∙ ap encode_utf8_all e

pub without_last-append : (word : List ℕ) (c : ℕ) → without_last (word ++ c ∷ []) ≡ word
without_last-append [] c = refl
without_last-append (a ∷ []) c = refl
without_last-append (a ∷ (b ∷ word)) c = ap (λ w. a ∷ w) (without_last-append (b ∷ word) c)

-- the last character of a text is taken off
pub chars-before_last : (text rest : List ℕ) (c : ℕ) → IsUtf8 text → IsUtf8 rest
    → text ≡ rest ++ encode_utf8 c → chars rest ≡ without_last (chars text)
chars-before_last text rest c t r e =
    let last : encode_utf8_all (c ∷ []) ≡ encode_utf8 c = append-nil (encode_utf8 c) in
    let whole : text ≡ encode_utf8_all (chars rest ++ c ∷ []) = e ∙ ap (λ bs. bs ++ encode_utf8 c)
    (sym (encodes-chars rest r)) ∙ ap (λ bs. encode_utf8_all (chars rest) ++ bs) (sym last)
    ∙ sym (encodes-append (chars rest) (c ∷ [])) in
    sym (ap without_last (chars_of text (chars rest ++ c ∷ []) t whole) ∙ without_last-append (chars rest) c)

no_chars : (text : List ℕ) → length text ≡ 0 → IsUtf8 text → chars text ≡ without_last (chars text)
no_chars [] e t = let none : chars [] ≡ [] = chars_of [] [] t refl in none ∙ sym (ap without_last none)
no_chars (b ∷ bs) e t = absurd (omega (arith, e))

-- the same, where the text may be empty
pub chars-last_taken : (text rest : List ℕ) (P : Type 0) (last : Option ℕ) → (P → rest ≡ text)
    → MatchOption last ((length text ≡ 0) × P) (λ c. text ≡ rest ++ encode_utf8 c) → IsUtf8 text
    → IsUtf8 rest → chars rest ≡ without_last (chars text)
chars-last_taken text rest P None same h t r = ap chars (same h.1) ∙ no_chars text h.0 t
chars-last_taken text rest P (Some c) same h t r = chars-before_last text rest c t r h

-- ---- a first byte of ASCII

-- the text may be cut after it, and it is the first character
pub first_ascii : (text : List ℕ) (b : ℕ) → Some b ≡ slice_get text 0 → b < 128 → IsUtf8 text
    → IsCharBoundary text 1 × (chars text ≡ b ∷ chars (drop 1 text))
first_ascii [] b e low t = absurd (cc)
first_ascii (x ∷ xs) b e low t =
    let same : b ≡ x = cc in
    let low_first : x < 128 = omega (arith, low, same) in
    let first : chars (x ∷ xs) ≡ x ∷ chars xs = chars_past_char (x ∷ xs) xs x t
    (sym (ap (λ bs. bs ++ xs) (encode_ascii x low_first))) in
    (IsCharBoundary-after_ascii (x ∷ xs) 0 t (omega arith) low_first, first ∙ ap (λ c. c ∷ chars xs) (sym same))

pub no_first : (text : List ℕ) → None ≡ slice_get text 0 → chars text ≡ []
no_first [] e = chars-nil
no_first (x ∷ xs) e = absurd (cc)

pub no_bytes : (text : List ℕ) → None ≡ slice_get text 0 → length text ≡ 0
no_bytes [] e = refl
no_bytes (x ∷ xs) e = absurd (cc)
