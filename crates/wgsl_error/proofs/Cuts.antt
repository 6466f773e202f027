-- Where a text is cut at a place.
use Rattle.std.proofs.Common.{ℕ, ◌+◌, ◌-◌, ◌<◌, ◌≤◌, ◌≡◌, refl, sym, ◌∙◌, ap, subst, if◌then◌else◌, List, [], ◌∷◌, ◌++◌, length, take, drop, Option, Some, None, Bor, arith}
use Rattle.std.proofs.Math.Seq.{drop-append_seam, take-add}
use Rattle.std.proofs.Math.ListN.{drop_of_length-le}
use Rattle.std.proofs.lemmas.Bool.{le-leb, lt-leb}
use Rattle.std.proofs.lemmas.List.{length-append, length-take-le, take-append-drop}
use Rattle.std.proofs.lemmas.Str.{IsUtf8-take, IsUtf8-drop, IsCharBoundary-past_char, length-encode, len_utf8_bounds, encodes-chars, chars-nil, chars-append}
use Rattle.std.specs.Char.{len_utf8}
use Rattle.std.specs.List.{slice_range}
use Rattle.std.specs.Option.{UnwrapsOrElse}
use Rattle.std.specs.Str.{chars, encode_utf8_all, IsUtf8, IsCharBoundary}
use Rattle.std.specs.Str.Pattern.{GetsRange}
use Rattle.wgsl_model.specs.Faults.Snippets.{characters_before}

-- the next character of the rest ends past the place
abbrev EndsPast : List ℕ → ℕ → Type 0
EndsPast ys room = (y : ℕ) (zs : List ℕ) → ys ≡ y ∷ zs → room < len_utf8 y

-- the characters that end up to a place are those of a front after which no other ends there
characters_before_cut : (xs ys : List ℕ) (place : ℕ) → length (encode_utf8_all xs) ≤ place
    → EndsPast ys (place - length (encode_utf8_all xs)) → characters_before place (xs ++ ys) ≡ xs
characters_before_cut [] [] place fits past = refl
characters_before_cut [] (y ∷ ys) place fits past =
    let over : place < len_utf8 y = omega (arith, past y ys refl) in
    ap (λ t. if t then y ∷ characters_before (place - len_utf8 y) ys else []) (lt-leb (len_utf8 y) place over)
characters_before_cut (x ∷ xs) ys place fits past =
    let sizes : length (encode_utf8_all (x ∷ xs)) ≡ len_utf8 x + length (encode_utf8_all xs) =
    length-append _ (encode_utf8_all xs) ∙ ap (λ n. n + length (encode_utf8_all xs)) (length-encode x) in
    let room : place - length (encode_utf8_all (x ∷ xs))
    ≡ (place - len_utf8 x) - length (encode_utf8_all xs) = omega (arith, sizes) in
    ap (λ t. if t then x ∷ characters_before (place - len_utf8 x) (xs ++ ys) else [])
    (le-leb (len_utf8 x) place (omega (arith, sizes, fits)))
    ∙ ap (λ cs. x ∷ cs) (characters_before_cut xs ys (place - len_utf8 x)
    (omega (arith, sizes, fits)) (subst (EndsPast ys) room past))

-- r is the last place up to the given one where the text may be cut
pub record IsFloor (bs : List ℕ) (place r : ℕ) : Type 0 where
  pub bound : r ≤ place
  pub boundary : IsCharBoundary bs r
  pub nearest : (i : ℕ) → r < i → i ≤ place → ¬ (IsCharBoundary bs i)

-- a text is the characters up to where it may be cut, and those from there on
chars_cut : (bs : List ℕ) (r : ℕ) → IsUtf8 bs → IsCharBoundary bs r → chars bs ≡ chars (take r bs) ++ chars (drop r bs)
chars_cut bs r utf8 boundary = ap chars (sym (take-append-drop r bs))
    ∙ chars-append (take r bs) (drop r bs) (IsUtf8-take bs r utf8 boundary)

-- the characters before a place are those before the last place up to it where the text may be cut
pub floor_characters : (bs : List ℕ) (place r : ℕ) → IsUtf8 bs → IsFloor bs place r
    → chars (take r bs) ≡ characters_before place (chars bs)
floor_characters bs place r utf8 floor =
    let xs = chars (take r bs) in
    let ys = chars (drop r bs) in
    let rest : IsUtf8 (drop r bs) = IsUtf8-drop bs r utf8 floor.boundary in
    let size : length (encode_utf8_all xs) ≡ r = ap length (encodes-chars (take r bs)
    (IsUtf8-take bs r utf8 floor.boundary)) ∙ length-take-le r bs floor.boundary.0 in
    let past : EndsPast ys (place - length (encode_utf8_all xs)) =
    (λ y zs first.
    let split : drop r bs ≡ encode_utf8_all (y ∷ zs) = sym (encodes-chars (drop r bs) rest)
    ∙ ap encode_utf8_all first in
    let next : IsCharBoundary bs (r + len_utf8 y) = IsCharBoundary-past_char bs
    (encode_utf8_all zs) r y floor.boundary.0 rest split in
    let wide : 1 ≤ len_utf8 y = (len_utf8_bounds y).0 in
    let no : r + len_utf8 y ≤ place → ⊥ =
    (λ within. floor.nearest (r + len_utf8 y) (omega (arith, wide)) within next) in
    omega (arith, no, size, wide, floor.bound)) in
    sym (ap (characters_before place) (chars_cut bs r utf8 floor.boundary)
    ∙ characters_before_cut xs ys place (omega (arith, size, floor.bound)) past)

-- what is after the characters before a place
pub rest_characters : (bs : List ℕ) (place r : ℕ) → IsUtf8 bs → IsFloor bs place r
    → chars (drop r bs) ≡ drop (length (characters_before place (chars bs))) (chars bs)
rest_characters bs place r utf8 floor = sym (
    ap (λ cs. drop (length cs) (chars bs)) (sym (floor_characters bs place r utf8 floor))
    ∙ ap (drop (length (chars (take r bs)))) (chars_cut bs r utf8 floor.boundary)
    ∙ drop-append_seam (chars (take r bs)) (chars (drop r bs)))

-- the characters before a place, and those from there up to a later one
chars_until : (bs : List ℕ) (i j : ℕ) → IsUtf8 bs → IsCharBoundary bs i → i ≤ j
    → chars (take j bs) ≡ chars (take i bs) ++ chars (slice_range bs i j)
chars_until bs i j utf8 boundary order =
    let e : j ≡ i + (j - i) = omega (arith, order) in
    ap (λ n. chars (take n bs)) e ∙ ap chars (take-add i (j - i) bs)
    ∙ chars-append (take i bs) (slice_range bs i j) (IsUtf8-take bs i utf8 boundary)

-- what is between two places
between_characters : (bs : List ℕ) (from to i j : ℕ) → IsUtf8 bs → IsFloor bs from i
    → IsFloor bs to j → i ≤ j → chars (slice_range bs i j)
    ≡ drop (length (characters_before from (chars bs))) (characters_before to (chars bs))
between_characters bs from to i j utf8 start end order = sym (
    ap (λ cs. drop (length cs) (characters_before to (chars bs))) (sym (floor_characters bs from i utf8 start))
    ∙ ap (drop (length (chars (take i bs))))
    (sym (floor_characters bs to j utf8 end) ∙ chars_until bs i j utf8 start.boundary order)
    ∙ drop-append_seam (chars (take i bs)) (chars (slice_range bs i j)))

-- between two places of which the second is first, there is nothing
nothing_between : (bs : List ℕ) (from to i j : ℕ) → IsUtf8 bs → IsFloor bs from i → IsFloor bs to j
    → j ≤ i → drop (length (characters_before from (chars bs))) (characters_before to (chars bs)) ≡ []
nothing_between bs from to i j utf8 start end order =
    let sizes = ap length (chars_until bs j i utf8 end.boundary order)
    ∙ length-append (chars (take j bs)) (chars (slice_range bs j i)) in
    let fewer : length (chars (take j bs)) ≤ length (chars (take i bs)) = omega (arith, sizes) in
    ap (λ cs. drop (length cs) (characters_before to (chars bs))) (sym (floor_characters bs from i utf8 start))
    ∙ ap (drop (length (chars (take i bs)))) (sym (floor_characters bs to j utf8 end))
    ∙ drop_of_length-le (chars (take j bs)) fewer

-- what `get` gives between two places, or nothing
pub spanned_characters : (bs : List ℕ) (from to i j : ℕ) (r : Option (Bor (List ℕ))) (x : Bor (List ℕ))
    → IsUtf8 bs → IsFloor bs from i → IsFloor bs to j → GetsRange bs i j r
    → UnwrapsOrElse r (λ y. y.now ≡ []) x
    → chars x.now ≡ drop (length (characters_before from (chars bs))) (characters_before to (chars bs))
spanned_characters bs from to i j None x utf8 start end gets is =
    let no : i ≤ j → ⊥ = (λ order. gets order start.boundary end.boundary) in
    ap chars is ∙ chars-nil ∙ sym (nothing_between bs from to i j utf8 start end (omega (arith, no)))
spanned_characters bs from to i j (Some y) x utf8 start end gets is =
    ap (λ (z : Bor (List ℕ)). chars z.now) is ∙ ap chars gets.0
    ∙ between_characters bs from to i j utf8 start end (omega (arith, gets.1))
