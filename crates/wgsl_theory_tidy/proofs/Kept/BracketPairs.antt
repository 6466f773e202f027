-- In a text where each closing bracket that begins a line is as deep as the line of the
-- innermost open bracket, the brackets of each pair do.
use Rattle.std.proofs.Common.{◌≡◌, ℕ, suc, ◌-◌, ◌==◌, ◌&&◌, ◌||◌, Bool, true, false, cond, not, refl, sym, ap, subst, ◌∙◌, List, [], ◌∷◌, ◌++◌, length, drop, append_assoc, arith}
use Rattle.std.proofs.lemmas.Bool.{true≢false, eqb-true, and_parts}
use Rattle.wgsl_model.specs.Tokens.Trivia.{Place, outside, in_line, in_block, second}
use Rattle.wgsl_model_tidy.specs.Lines.{next_place, place_after, place_of}
use Rattle.wgsl_model_tidy.specs.Brackets.{Line, blank, next_line, line_after, line_of, opens_at, closes_at, are_paired, BracketPair, AlignsClosingBrackets}
use Rattle.wgsl_theory_tidy.proofs.Kept.AlignedTexts.{Aligned, next_opened}

-- ---- along a text

-- the lines of the brackets that are open after a front
abbrev opened_through : Place → Line → List Line → List ℕ → List ℕ → List Line
opened_through p l ls [] rest = ls
opened_through p l ls (c ∷ front) rest = opened_through (next_place p c (front ++ rest))
    (next_line p l c) (next_opened p (next_line p l c) ls c) front rest

rest_aligned : (p : Place) (l : Line) (ls : List Line) (front rest : List ℕ)
    → Aligned p l ls (front ++ rest)
    → Aligned (place_after p front rest) (line_after p l front rest) (opened_through p l ls front rest) rest
rest_aligned p l ls [] rest h = h
rest_aligned p l ls (c ∷ front) rest h = rest_aligned (next_place p c (front ++ rest))
    (next_line p l c) (next_opened p (next_line p l c) ls c) front rest h.1

-- after one front and another
line_both : (p : Place) (l : Line) (xs ys rest : List ℕ) → line_after p l (xs ++ ys) rest
    ≡ line_after (place_after p xs (ys ++ rest)) (line_after p l xs (ys ++ rest)) ys rest
line_both p l [] ys rest = refl
line_both p l (x ∷ xs) ys rest =
    ap (λ zs. line_after (next_place p x zs) (next_line p l x) (xs ++ ys) rest) (append_assoc xs ys rest)
    ∙ line_both (next_place p x (xs ++ (ys ++ rest))) (next_line p l x) xs ys rest

opened_both : (p : Place) (l : Line) (ls : List Line) (xs ys rest : List ℕ)
    → opened_through p l ls (xs ++ ys) rest ≡ opened_through (place_after p xs (ys ++ rest))
    (line_after p l xs (ys ++ rest)) (opened_through p l ls xs (ys ++ rest)) ys rest
opened_both p l ls [] ys rest = refl
opened_both p l ls (x ∷ xs) ys rest =
    ap (λ zs. opened_through (next_place p x zs) (next_line p l x)
    (next_opened p (next_line p l x) ls x) (xs ++ ys) rest) (append_assoc xs ys rest)
    ∙ opened_both (next_place p x (xs ++ (ys ++ rest))) (next_line p l x)
    (next_opened p (next_line p l x) ls x) xs ys rest

-- ---- brackets in pairs

none_more : (ms : List Line) → (length ms == 0) ≡ true → ms ≡ []
none_more [] h = refl
none_more (m ∷ ms) h = absurd (omega (arith, eqb-true (length (m ∷ ms)) 0 h))

-- those that are open before are open after them
abbrev StayOpen : List ℕ → List ℕ → Type 0
StayOpen front rest = (p : Place) (l : Line) (ms ls : List Line)
    → are_paired p (length ms) front rest ≡ true → opened_through p l (ms ++ ls) front rest ≡ ls

one_less : (n : ℕ) → suc n - 1 ≡ n
one_less n = omega arith

one_character : (c : ℕ) (front rest : List ℕ) → StayOpen front rest → StayOpen (c ∷ front) rest
one_character c front rest others p l ms ls h = go (opens_at p c) (closes_at p c) ms
    (and_parts _ _ h).0 (and_parts (not (closes_at p c && length ms == 0)) _ h).1
  where
    q : Place
    q = next_place p c (front ++ rest)

    m : Line
    m = next_line p l c

    go : (x y : Bool) (ms : List Line) → not (y && length ms == 0) ≡ true
        → are_paired q (cond x (suc (length ms)) (cond y (length ms - 1) (length ms))) front rest ≡ true
        → opened_through q m (cond x (m ∷ (ms ++ ls)) (cond y (drop 1 (ms ++ ls)) (ms ++ ls))) front rest ≡ ls
    go true y ms k h = others q m (m ∷ ms) ls h
    go false true [] k h = absurd (true≢false (sym k))
    go false true (n ∷ ms) k h = others q m ms ls
        (subst (λ n. are_paired q n front rest ≡ true) (one_less (length ms)) h)
    go false false ms k h = others q m ms ls h

paired_through : (front rest : List ℕ) → StayOpen front rest
paired_through [] rest p l ms ls h = ap (λ xs. xs ++ ls) (none_more ms h)
paired_through (c ∷ front) rest p l ms ls h = one_character c front rest (paired_through front rest) p l ms ls h

-- a bracket is outside comments, and so does what follows it
opens_outside : (p : Place) (c : ℕ) → opens_at p c ≡ true → p ≡ outside
opens_outside outside c h = refl
opens_outside in_line c h = absurd (true≢false (sym h))
opens_outside (in_block n) c h = absurd (true≢false (sym h))
opens_outside (second p) c h = absurd (true≢false (sym h))

next_outside : (c : ℕ) (r : List ℕ) → opens_at outside c ≡ true → next_place outside c r ≡ outside
next_outside c r h = go (c == 40) (c == 91) refl refl h
  where
    go : (x y : Bool) → (c == 40) ≡ x → (c == 91) ≡ y → (x || y) ≡ true → next_place outside c r ≡ outside
    go true y e f k = subst (λ d. next_place outside d r ≡ outside) (sym (eqb-true c 40 e)) refl
    go false true e f k = subst (λ d. next_place outside d r ≡ outside) (sym (eqb-true c 91 f)) refl
    go false false e f k = absurd (true≢false (sym k))

opens_next : (p : Place) (l : Line) (ls : List Line) (c : ℕ) → opens_at p c ≡ true → next_opened p l ls c ≡ l ∷ ls
opens_next p l ls c h = rw h refl

-- ---- a pair

-- the line of the opening bracket is the last that is open before the closing one
inside_pair : (text : List ℕ) (pair : BracketPair text) → (outer : List Line) × (opened_through outside
    (blank []) [] (pair.before ++ (pair.opening ∷ pair.inside)) (pair.closing ∷ pair.rest)
    ≡ line_of (pair.before ++ (pair.opening ∷ [])) (pair.inside ++ (pair.closing ∷ pair.rest)) ∷ outer)
inside_pair text pair = (ls, both ∙ opened ∙ ap (λ x. x ∷ ls) (sym line))
  where
    more : List ℕ
    more = pair.inside ++ (pair.closing ∷ pair.rest)

    p : Place
    p = place_of pair.before (pair.opening ∷ more)

    l : Line
    l = next_line p (line_of pair.before (pair.opening ∷ more)) pair.opening

    ls : List Line
    ls = opened_through outside (blank []) [] pair.before (pair.opening ∷ more)

    both : opened_through outside (blank []) [] (pair.before ++ (pair.opening ∷ pair.inside)) (pair.closing ∷ pair.rest)
        ≡ opened_through (next_place p pair.opening more) l
        (next_opened p l ls pair.opening) pair.inside (pair.closing ∷ pair.rest)
    both = opened_both outside (blank []) [] pair.before (pair.opening ∷ pair.inside) (pair.closing ∷ pair.rest)

    next : next_place p pair.opening more ≡ outside
    next =
        let here = opens_outside p pair.opening pair.opens in
        ap (λ q. next_place q pair.opening more) here
        ∙ next_outside pair.opening more (subst (λ q. opens_at q pair.opening ≡ true) here pair.opens)

    opened : opened_through (next_place p pair.opening more) l
        (next_opened p l ls pair.opening) pair.inside (pair.closing ∷ pair.rest) ≡ l ∷ ls
    opened = rw (next, opens_next p l ls pair.opening pair.opens)
        (paired_through pair.inside (pair.closing ∷ pair.rest) outside l [] (l ∷ ls) pair.paired)

    line : line_of (pair.before ++ (pair.opening ∷ [])) more ≡ l
    line = line_both outside (blank []) pair.before (pair.opening ∷ []) more

pub pairs_aligned : (text : List ℕ) → Aligned outside (blank []) [] text → AlignsClosingBrackets text
pairs_aligned text h pair start space e f =
    let front = pair.before ++ (pair.opening ∷ pair.inside) in
    let rest = pair.closing ∷ pair.rest in
    let whole : text ≡ front ++ rest = pair.whole ∙ sym (append_assoc pair.before (pair.opening ∷ pair.inside) rest) in
    let i = inside_pair text pair in
    (rest_aligned outside (blank []) [] front rest (subst (Aligned outside (blank []) []) whole h)).0
    pair.closes space start i.0 f (i.1 ∙ ap (λ x. x ∷ i.0) e)
