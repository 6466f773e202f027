-- The test that each byte is ASCII.
use Rattle.std.proofs.Common.{◌≡◌, refl, ap, sym, ℕ, zero, suc, ◌<◌, ◌≤◌, nat_lt, Bool, true, false, ◌&&◌, List, [], ◌∷◌, slice_index, arith}
use Rattle.std.proofs.lemmas.Bool.Decides.{nat_tests}
use Rattle.std.proofs.lemmas.Str.{IsUtf8-from_ascii}
use Rattle.std.specs.Bool.{MatchBool}
use Rattle.std.specs.Str.{IsAscii, IsNotAscii, IsUtf8}
use Rattle.wgsl_server_protocol.specs.Fronts.{all_ascii}

both : (x y : Bool) → x ≡ true → y ≡ true → (x && y) ≡ true
both true true h k = refl
both true false h k = k
both false y h k = h

second_fails : (x y : Bool) → y ≡ false → (x && y) ≡ false
second_fails true y h = h
second_fails false y h = refl

ascii_true : (bytes : List ℕ) → IsAscii bytes → all_ascii bytes ≡ true
ascii_true [] h = refl
ascii_true (b ∷ bs) h =
    let first : b < 128 = h 0 in
    let low : nat_lt b 128 ≡ true = grind (arith, nat_tests) in
    both (nat_lt b 128) (all_ascii bs) low (ascii_true bs (λ i. h (suc i)))

ascii_false : (bytes : List ℕ) (i : ℕ) → 128 ≤ slice_index bytes i → all_ascii bytes ≡ false
ascii_false [] zero h = absurd (omega arith)
ascii_false [] (suc i) h = absurd (omega arith)
ascii_false (b ∷ bs) zero h =
    let high : nat_lt b 128 ≡ false = grind (arith, nat_tests) in
    ap (λ t. t && all_ascii bs) high
ascii_false (b ∷ bs) (suc i) h = second_fails (nat_lt b 128) (all_ascii bs) (ascii_false bs i h)

pub told : (b : Bool) (bytes : List ℕ) → MatchBool b (IsAscii bytes) (IsNotAscii bytes) → b ≡ all_ascii bytes
told true bytes h = sym (ascii_true bytes h)
told false bytes h = sym (ascii_false bytes h.0 h.1)

pub told_text : (b : Bool) (bytes : List ℕ) → MatchBool b (IsAscii bytes) (IsNotAscii bytes) → b ≡ true → IsUtf8 bytes
told_text true bytes h is = IsUtf8-from_ascii bytes h
told_text false bytes h is = cc
