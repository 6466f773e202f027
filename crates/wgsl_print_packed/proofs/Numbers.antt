-- Numbers and spans at the front of a form.
use Rattle.std.proofs.Common.{ℕ, zero, suc, ◌≡◌, ◌<◌, ◌≤◌, ◌+◌, refl, sym, ◌∙◌, ap, subst, List, [], ◌∷◌, ◌++◌, codes, length, take, drop, get_or, ◌^◌, ◌%◌, ◌/◌, arith}
use Rattle.std.specs.Int.{w64, from_le_bytes, to_le_bytes}
use Rattle.std.proofs.lemmas.Nat.{le_bytes_8, from_le_bytes-to_le_bytes_8}
use Rattle.std.proofs.lemmas.List.{append_assoc, take-append-drop, length-take-le, get_or-drop, length-drop, drop-drop}
use Rattle.std.specs.Fmt.{decimal}
use Rattle.grammar.specs.Tokens.{Span}
use Rattle.wgsl_model_packed.specs.Json.{span_json}
use Rattle.wgsl_model_packed.specs.Printing.{packed_number, packed_span}
use Rattle.wgsl_print_packed.specs.declared.notation.Notation.{Notation}
use Rattle.wgsl_print_packed.specs.declared.notation.Notation.TheVariants.{Wgsl, Json}
use Rattle.wgsl_print_packed.specs.Notations.{notation_of}

low_take : (n : ℕ) (form : List ℕ) → ((i : ℕ) → get_or form i 0 < 256) → (i : ℕ) → get_or (take n form) i 0 < 256
low_take zero form low i = omega arith
low_take (suc n) [] low i = omega arith
low_take (suc n) (b ∷ form) low zero = low 0
low_take (suc n) (b ∷ form) low (suc i) = low_take n form (λ k. low (suc k)) i

-- eight bytes are a number
pub number_read : (form : List ℕ) (n : ℕ) → 8 ≤ length form → ((i : ℕ) → get_or form i 0 < 256)
    → n ≡ from_le_bytes w64 (take 8 form) → form ≡ packed_number n ++ drop 8 form
number_read form n long low is =
    let eight = length-take-le 8 form long in
    let bytes = le_bytes_8 (take 8 form) n eight (low_take 8 form low) is in
    sym (take-append-drop 8 form) ∙ ap (λ (z : List ℕ). z ++ drop 8 form) (sym bytes)

in_parts : (form after rest first second : List ℕ) → form ≡ first ++ after → after ≡ second ++ rest
    → form ≡ (first ++ second) ++ rest
in_parts form after rest first second one two =
    one ∙ ap (λ (z : List ℕ). first ++ z) two ∙ sym (append_assoc first second rest)

-- sixteen bytes are a span
pub span_read : (form : List ℕ) → 16 ≤ length form → ((i : ℕ) → get_or form i 0 < 256)
    → (span : Span) × (form ≡ packed_span span ++ drop 16 form)
span_read form long low =
    let after = drop 8 form in
    let start = from_le_bytes w64 (take 8 form) in
    let end = from_le_bytes w64 (take 8 after) in
    let size = length-drop 8 form in
    let one = number_read form start (omega (arith, long)) low refl in
    let two = number_read after end (omega (arith, long, size))
    (λ i. subst (λ (z : ℕ). z < 256) (sym (get_or-drop 8 form i 0)) (low (8 + i))) refl in (
      record { start = start; end = end },
      in_parts form after _ (packed_number start) (packed_number end) one
          (two ∙ ap (λ (z : List ℕ). packed_number end ++ z) (drop-drop 8 8 form)),
    )

-- eight bytes that were split off are a number
pub number_read_in : (form bytes left : List ℕ) (n : ℕ) → bytes ≡ take 8 form → left ≡ drop 8 form
    → length left + 8 ≡ length form → ((i : ℕ) → get_or form i 0 < 256) → n ≡ from_le_bytes w64 bytes
    → form ≡ packed_number n ++ left
number_read_in form bytes left n front back size low is =
    number_read form n (omega (arith, size)) low (is ∙ ap (from_le_bytes w64) front)
    ∙ ap (λ (z : List ℕ). packed_number n ++ z) (sym back)

cong_8 : {a a' b b' c c' d d' e e' f f' g g' h h' : ℕ} → a ≡ a' → b ≡ b' → c ≡ c' → d ≡ d' → e ≡ e' → f ≡ f'
    → g ≡ g' → h ≡ h' → a ∷ b ∷ c ∷ d ∷ e ∷ f ∷ g ∷ h ∷ [] ≡ a' ∷ b' ∷ c' ∷ d' ∷ e' ∷ f' ∷ g' ∷ h' ∷ []
cong_8 p q r s t u v w = rw (p, q, r, s, t, u, v, w) refl

-- the bytes of a number are those of its lowest 64 bits
low_bytes : (n : ℕ) → packed_number n ≡ packed_number (n % 2 ^ 64)
low_bytes n =
    let a : n % 256 ≡ n % 18446744073709551616 % 256 = omega arith in
    let b : n / 256 % 256 ≡ n % 18446744073709551616 / 256 % 256 = omega arith in
    let d : n / 65536 % 256 ≡ n % 18446744073709551616 / 65536 % 256 = omega arith in
    let e : n / 16777216 % 256 ≡ n % 18446744073709551616 / 16777216 % 256 = omega arith in
    let f : n / 4294967296 % 256 ≡ n % 18446744073709551616 / 4294967296 % 256 = omega arith in
    let g : n / 1099511627776 % 256 ≡ n % 18446744073709551616 / 1099511627776 % 256 = omega arith in
    let h : n / 281474976710656 % 256 ≡ n % 18446744073709551616 / 281474976710656 % 256 = omega arith in
    let i : n / 72057594037927936 % 256 ≡ n % 18446744073709551616 / 72057594037927936 % 256 = omega arith in
    cong_8 a b d e f g h i

-- so that is the number that they are
pub number_kept : (n : ℕ) → from_le_bytes w64 (packed_number n) ≡ n % 2 ^ 64
number_kept n = ap (from_le_bytes w64) (low_bytes n) ∙ from_le_bytes-to_le_bytes_8 (n % 2 ^ 64) (omega arith)

-- what is printed of a span is printed of the numbers that were read of it
pub span_kept : (notation : Notation) (span : Span) (start end : ℕ) → start ≡ span.start % 2 ^ 64
    → end ≡ span.end % 2 ^ 64
    → (notation_of notation).span (record { start = start; end = end }) ≡ (notation_of notation).span span
span_kept Wgsl span start end one two = refl
span_kept Json span start end one two =
    let first : start % 2 ^ 64 ≡ span.start % 2 ^ 64 = omega (arith, one) in
    let last : end % 2 ^ 64 ≡ span.end % 2 ^ 64 = omega (arith, two) in
    ap (λ (n : ℕ). codes "[" ++ (decimal n ++ (codes "," ++ (decimal (end % 2 ^ 64) ++ codes "]")))) first
    ∙ ap (λ (n : ℕ). codes "[" ++ (decimal (span.start % 2 ^ 64) ++ (codes "," ++ (decimal n ++ codes "]")))) last
