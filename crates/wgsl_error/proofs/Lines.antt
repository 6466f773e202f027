-- What is round the line ends of a text.
use Rattle.std.proofs.Common.{ℕ, zero, suc, ◌+◌, ◌-◌, ◌<◌, ◌≤◌, ◌≡◌, refl, sym, ◌∙◌, ap, subst, Bool, true, false, not, List, [], ◌∷◌, ◌++◌, length, take, drop, get_or, None, arith}
use Rattle.std.proofs.Math.Seq.{get_or-append_seam, get_or-append_right, take-append_seam, take-length, drop-append-add}
use Rattle.std.proofs.Math.ListN.{get_or-append}
use Rattle.std.proofs.lemmas.List.{length-append, length-drop, take-append-drop}
use Rattle.std.proofs.lemmas.List.Sums.{position_or_len_is, suffix_len_is}
use Rattle.std.proofs.lemmas.Str.{IsUtf8-take, IsUtf8-drop, IsCharBoundary-before_ascii, chars-append, chars_past_char, chars_from_encodes}
use Rattle.std.proofs.lemmas.Str.Pattern.{drop_at_char}
use Rattle.std.specs.List.{before_first, after_last, suffix_len}
use Rattle.std.specs.Str.{chars, IsUtf8, IsCharBoundary, NonePass, NoCharPasses}
use Rattle.std.specs.Str.Pattern.{HasCharAt, FindsChar, RFindsChar, SplitsAroundMatch}
use Rattle.wgsl_model.specs.Faults.Snippets.{is_line_feed}

-- where no element passes, by index
none_at : (p : ℕ → Bool) (cs : List ℕ) → NonePass p cs → (k : ℕ) → k < length cs → p (get_or cs k 0) ≡ false
none_at p [] none k lt = absurd (omega (arith, lt))
none_at p (c ∷ cs) none zero lt = none.0
none_at p (c ∷ cs) none (suc k) lt = none_at p cs none.1 k (omega (arith, lt))

-- what is before the first element that passes, and after the last: all where none passes
before_first_none : (p : ℕ → Bool) (cs : List ℕ) → NonePass p cs → before_first p cs ≡ cs
before_first_none p cs none =
    ap (λ n. take n cs) (position_or_len_is p cs (length cs) 0 (omega arith) (none_at p cs none)
    (λ lt. absurd (omega (arith, lt)))) ∙ take-length cs

before_first_at : (p : ℕ → Bool) (xs : List ℕ) (x : ℕ) (ys : List ℕ) → NonePass p xs → p x ≡ true
    → before_first p (xs ++ (x ∷ ys)) ≡ xs
before_first_at p xs x ys none passes =
    let whole = xs ++ (x ∷ ys) in
    let fits : length xs ≤ length whole = omega (arith, length-append xs (x ∷ ys)) in
    ap (λ n. take n whole) (position_or_len_is p whole (length xs) 0 fits
    (λ k lt. ap p (get_or-append xs (x ∷ ys) 0 k lt) ∙ none_at p xs none k lt)
    (λ lt. ap p (get_or-append_seam xs x ys 0) ∙ passes))
    ∙ take-append_seam xs (x ∷ ys)

after_last_none : (p : ℕ → Bool) (cs : List ℕ) → NonePass p cs → after_last p cs ≡ cs
after_last_none p cs none =
    let whole : suffix_len (λ c. not (p c)) cs ≡ length cs - 0 = suffix_len_is (λ c. not (p c)) cs 0 0
    (omega arith) (λ k from lt. ap not (none_at p cs none k lt)) (λ lt. absurd (omega (arith, lt))) in
    let start : length cs - suffix_len (λ c. not (p c)) cs ≡ 0 = omega (arith, whole) in
    ap (λ n. drop n cs) start

after_last_at : (p : ℕ → Bool) (xs : List ℕ) (x : ℕ) (ys : List ℕ) → p x ≡ true → NonePass p ys
    → after_last p (xs ++ (x ∷ ys)) ≡ ys
after_last_at p xs x ys passes none =
    let whole = xs ++ (x ∷ ys) in
    let n = length xs + 1 in
    let sizes : length whole ≡ length xs + suc (length ys) = length-append xs (x ∷ ys) in
    let following : (k : ℕ) → n ≤ k → k < length whole → p (get_or whole k 0) ≡ false =
    (λ k from lt.
    let further : k - length xs ≡ suc (k - n) = omega (arith, from) in
    let inside : k - n < length ys = omega (arith, from, lt, sizes) in
    ap p (get_or-append_right xs (x ∷ ys) k 0 (omega (arith, from))
    ∙ ap (λ i. get_or (x ∷ ys) i 0) further) ∙ none_at p ys none (k - n) inside) in
    let back : suffix_len (λ c. not (p c)) whole ≡ length whole - n =
    suffix_len_is (λ c. not (p c)) whole n 0 (omega (arith, sizes)) (λ k from lt. ap not (following k from lt))
    (λ lt. let at : n - 1 ≡ length xs = omega arith in ap (λ i. not (p (get_or whole i 0))) at
    ∙ ap (λ c. not (p c)) (get_or-append_seam xs x ys 0) ∙ ap not passes) in
    let start : length whole - suffix_len (λ c. not (p c)) whole ≡ n = omega (arith, back, sizes) in
    ap (λ i. drop i whole) start ∙ drop-append-add xs (x ∷ ys) 1

-- where no character of a text passes
none_of_text : (p : ℕ → Bool) (bs : List ℕ) → IsUtf8 bs → NoCharPasses p bs → NonePass p (chars bs)
none_of_text p bs utf8 none = subst (NonePass p) (chars_from_encodes none.0 bs utf8 none.1) none.2

-- a text with an LF from i to j: where it may be cut, and its characters
record IsLineFeedAt (bs : List ℕ) (i j : ℕ) : Type 0 where
  front : IsUtf8 (take i bs)
  back : IsUtf8 (drop j bs)
  characters : chars bs ≡ chars (take i bs) ++ (10 ∷ chars (drop j bs))

line_feed_at : (bs : List ℕ) (i j : ℕ) → IsUtf8 bs → HasCharAt 10 bs i j → IsLineFeedAt bs i j
line_feed_at bs i j utf8 at =
    let cut : drop i bs ≡ 10 ∷ drop j bs = drop_at_char 10 bs i j at (omega arith) in
    let inside : i < length bs = omega (arith, length-drop i bs, ap length cut) in
    let byte : get_or bs i 0 ≡ 10 = at.byte (omega arith) in
    let boundary : IsCharBoundary bs i = IsCharBoundary-before_ascii bs i inside (omega (arith, byte)) in
    let front : IsUtf8 (take i bs) = IsUtf8-take bs i utf8 boundary in
    let rest : IsUtf8 (drop i bs) = IsUtf8-drop bs i utf8 boundary in record {
      front = front;
      back = IsUtf8-drop bs j utf8 (subst (IsCharBoundary bs) (sym at.ends) at.after);
      characters =
          ap chars (sym (take-append-drop i bs)) ∙ chars-append (take i bs) (drop i bs) front
          ∙ ap (λ cs. chars (take i bs) ++ cs) (chars_past_char (drop i bs) (drop j bs) 10 rest at.split);
    }

-- what `rsplit_once` and `split_once` give at an LF
pub line_front_none : (bs : List ℕ) → IsUtf8 bs → RFindsChar 10 bs None → chars bs ≡ after_last is_line_feed (chars bs)
line_front_none bs utf8 none = sym (after_last_none is_line_feed (chars bs) (none_of_text is_line_feed bs utf8 none))

pub line_front_at : (bs front back : List ℕ) → IsUtf8 bs
    → SplitsAroundMatch (RFindsChar 10) bs front back → chars back ≡ after_last is_line_feed (chars bs)
line_front_at bs front back utf8 split =
    let i = split.0 in
    let j = split.1 in
    let at = line_feed_at bs i j utf8 split.2.1 in
    let none = none_of_text is_line_feed (drop j bs) at.back split.2.0 in
    ap chars split.4 ∙ sym (ap (after_last is_line_feed) at.characters
    ∙ after_last_at is_line_feed (chars (take i bs)) 10 (chars (drop j bs)) refl none)

pub line_back_none : (bs : List ℕ) → IsUtf8 bs → FindsChar 10 bs None → chars bs ≡ before_first is_line_feed (chars bs)
line_back_none bs utf8 none = sym (before_first_none is_line_feed (chars bs) (none_of_text is_line_feed bs utf8 none))

pub line_back_at : (bs front back : List ℕ) → IsUtf8 bs → SplitsAroundMatch (FindsChar 10) bs front back
    → chars front ≡ before_first is_line_feed (chars bs)
line_back_at bs front back utf8 split =
    let i = split.0 in
    let j = split.1 in
    let at = line_feed_at bs i j utf8 split.2.1 in
    let none = none_of_text is_line_feed (take i bs) at.front split.2.0 in
    ap chars split.3 ∙ sym (ap (before_first is_line_feed) at.characters
    ∙ before_first_at is_line_feed (chars (take i bs)) 10 (chars (drop j bs)) none refl)
