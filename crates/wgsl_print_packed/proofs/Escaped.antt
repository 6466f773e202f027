-- A text that is written up to each byte with an escape in turn.
use Rattle.std.proofs.Common.{ℕ, zero, suc, ◌≡◌, ◌+◌, ◌<◌, ◌≤◌, sym, refl, ◌∙◌, ap, false, List, [], ◌∷◌, ◌++◌, length, take, get_or, arith}
use Rattle.std.proofs.lemmas.Grind.{flat_map-append, common_steps}
use Rattle.std.proofs.lemmas.List.{append_assoc, append-nil}
use Rattle.wgsl_model_packed.specs.Json.{escaped, escaped_byte}
use Rattle.wgsl_print_packed.specs.Escapes.{is_escaped, IsEscapeAt, IsPlainTo}

plain_byte : (b : ℕ) → is_escaped b ≡ false → escaped_byte b ≡ b ∷ []
plain_byte b plain = grind (arith, common_steps)

-- the bytes before the first with an escape, and its escape
escape_taken : (left : List ℕ) (at : ℕ) → at < length left → IsPlainTo left at
    → escaped (take (suc at) left) ≡ take at left ++ escaped_byte (get_or left at 0)
escape_taken [] at here plain = absurd (omega (arith, here))
escape_taken (b ∷ left) zero here plain = append-nil (escaped_byte b)
escape_taken (b ∷ left) (suc at) here plain =
    ap (λ (z : List ℕ). z ++ escaped (take (suc at) left)) (plain_byte b (plain 0 (omega arith)))
    ∙ ap (λ (z : List ℕ). b ∷ z)
    (escape_taken left at (omega (arith, here)) (λ k low. plain (suc k) (omega (arith, low))))

-- a text without escapes
plain_all : (left : List ℕ) → IsPlainTo left (length left) → escaped left ≡ left
plain_all [] plain = refl
plain_all (b ∷ left) plain =
    ap (λ (z : List ℕ). z ++ escaped left) (plain_byte b (plain 0 (omega arith)))
    ∙ ap (λ (z : List ℕ). b ∷ z) (plain_all left (λ k low. plain (suc k) (omega (arith, low))))

-- one escape more
pub escape_written : (start done left before plain broken : List ℕ) (at : ℕ) → IsEscapeAt left at
    → before ≡ start ++ escaped done → plain ≡ before ++ take at left
    → broken ≡ plain ++ escaped_byte (get_or left at 0) → broken ≡ start ++ escaped (done ++ take (at + 1) left)
escape_written start done left before plain broken at here e f g =
    let more : at + 1 ≡ suc at = omega arith in
    let bytes = get_or left at 0 in
    g ∙ ap (λ (z : List ℕ). z ++ escaped_byte bytes) (f ∙ ap (λ (z : List ℕ). z ++ take at left) e)
    ∙ append_assoc (start ++ escaped done) (take at left) (escaped_byte bytes)
    ∙ append_assoc start (escaped done) (take at left ++ escaped_byte bytes)
    ∙ ap (λ (z : List ℕ). start ++ (escaped done ++ z)) (sym (escape_taken left at here.1 here.0))
    ∙ ap (λ (z : List ℕ). start ++ z) (sym (flat_map-append escaped_byte done (take (suc at) left)))
    ∙ ap (λ (n : ℕ). start ++ escaped (done ++ take n left)) (sym more)

-- what is after the last escape
pub last_escaped : (start done left text before out : List ℕ) → IsPlainTo left (length left) → text ≡ done ++ left
    → before ≡ start ++ escaped done → out ≡ before ++ left → out ≡ start ++ escaped text
last_escaped start done left text before out plain is e f =
    f ∙ ap (λ (z : List ℕ). z ++ left) e ∙ append_assoc start (escaped done) left
    ∙ ap (λ (z : List ℕ). start ++ (escaped done ++ z)) (sym (plain_all left plain))
    ∙ ap (λ (z : List ℕ). start ++ z) (sym (flat_map-append escaped_byte done left) ∙ ap escaped (sym is))
