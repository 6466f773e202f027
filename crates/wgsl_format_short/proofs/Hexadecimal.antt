-- A number in hexadecimal and its text, by their bytes.
use Rattle.std.proofs.Common.{◌≡◌, ℕ, zero, suc, ◌^◌, ◌<◌, false, cond, sym, ap, subst, ◌∙◌, List, [], ◌∷◌, length, Option, String, chars, codes, arith, ℤ, pos, negsuc, nat_abs, nat_lt, SFits, w64, to_z, of_z, to_z-of_z}
use Rattle.std.specs.Global.{Global}
use Rattle.std.specs.Int.{FitsUnsignedBits}
use Rattle.std.specs.Fmt.{digits}
use Rattle.std.specs.Str.{IsAscii, IsUtf8}
use Rattle.std.specs.Str.Parse.{AllDigits}
use Rattle.std.specs.Char.{digit_value}
use Rattle.std.proofs.lemmas.Bool.Decides.{nat_tests}
use Rattle.std.proofs.lemmas.Fmt.{digits_is_IsNumeral}
use Rattle.std.proofs.lemmas.Str.{IsAscii-append, chars-IsAscii}
use Rattle.grammar.specs.Tokens.{Payload.number}
use Rattle.wgsl_model.specs.Tokens.TokenList.{width}
use Rattle.wgsl_theory_grammar.proofs.Tokens.Places.{bytes_width}
use Rattle.wgsl_model_short.specs.Respelled.{hexadecimal, shorter_number}
use Rattle.wgsl_format_short.specs.Spelled.{spelled}

low : (c : ℕ) → digit_value c < 16 → c < 128
low c h = grind (arith, nat_tests)

digits_ascii : (ds : List ℕ) → AllDigits 16 ds → IsAscii ds
digits_ascii [] h i = omega arith
digits_ascii (d ∷ ds) h zero = low d h.0
digits_ascii (d ∷ ds) h (suc i) = digits_ascii ds h.1 i

mark_ascii : IsAscii (codes "0x")
mark_ascii zero = omega arith
mark_ascii (suc zero) = omega arith
mark_ascii (suc (suc i)) = omega arith

hexadecimal_ascii : (n : ℕ) → n < 2 ^ 64 → IsAscii (hexadecimal n)
hexadecimal_ascii n h = IsAscii-append (codes "0x") (digits 16 false n) mark_ascii
    (digits_ascii (digits 16 false n) (digits_is_IsNumeral 16 false (omega arith) (omega arith) n (omega (arith, h))).0.1)

-- the number, where it is converted to one that is not negative
converted : (z y : ℤ) (n : ℕ) → y ≡ z → FitsUnsignedBits 64 y × (n ≡ nat_abs y) → (z ≡ pos n) × (n < 2 ^ 64)
converted z (pos k) n e h = (sym e ∙ ap pos (sym h.1), subst (λ m. m < 2 ^ 64) (sym h.1) h.0)
converted z (negsuc k) n e h = absurd h.0

-- the other text of a number is in hexadecimal, if that has fewer bytes
pub shorter_is : (z : ℤ) (n : ℕ) (other text : List ℕ) (o : Option (String Global)) → SFits w64 z
    → FitsUnsignedBits 64 (to_z w64 (of_z w64 z)) × (n ≡ nat_abs (to_z w64 (of_z w64 z)))
    → IsUtf8 other → IsUtf8 text → other ≡ hexadecimal n
    → spelled o (chars text) ≡ cond (nat_lt (length other) (length text)) (chars other) (chars text)
    → shorter_number (number z) (chars text) ≡ spelled o (chars text)
shorter_is z n other text o f h v u q s =
    let is = converted z (to_z w64 (of_z w64 z)) n (to_z-of_z f) h in
    let same : chars other ≡ hexadecimal n = ap chars q ∙ chars-IsAscii (hexadecimal n) (hexadecimal_ascii n is.1) in
    let size : width (hexadecimal n) ≡ length other = ap width (sym same) ∙ bytes_width other v in
    ap (λ k. shorter_number (number k) (chars text)) is.0
    ∙ (λ j. cond (nat_lt (size j) (bytes_width text u j)) (sym same j) (chars text)) ∙ sym s
