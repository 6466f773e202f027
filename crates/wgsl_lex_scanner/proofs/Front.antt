-- What the scanner reads at the front of a text is what the definition says.
use Rattle.std.proofs.Common.{◌≡◌, ℕ, Bool, true, false, ◌==◌, ◌||◌, refl, List, [], ◌∷◌, Option, Some, None, ◌∙◌}
use Rattle.std.specs.Char.{is_ascii_digit}
use Rattle.std.specs.Str.{encode_utf8_all}
use Rattle.unicode_ident.specs.Ident.{is_xid_start}
use Rattle.wgsl_model.specs.Tokens.ClassTable.{SymPeriod}
use Rattle.wgsl_model.specs.Tokens.Raw.{raw_at, kind_of_spelling, token, front, kind_of_word}
use Rattle.wgsl_lex_token.specs.View.{view_of_class}
use Rattle.wgsl_lex_scanner.specs.ScannedNumbers.{NumericLiteral, as_optional_float, point, number}
use Rattle.wgsl_lex_scanner.specs.Scanning.{scan_at, after_word, number_or_symbol}
use Rattle.wgsl_lex_scanner.proofs.Cut.{found}
use Rattle.wgsl_lex_scanner.proofs.Walk.{at_code}
use Rattle.wgsl_lex_scanner.proofs.CharacterClasses.{is_digit-decimal}
use Rattle.wgsl_lex_scanner.proofs.Numbers.{number-read, point_alone, not_start_46}
use Rattle.wgsl_lex_scanner.proofs.Symbols.{symbol-read, IsRead}
use Rattle.wgsl_lex_scanner.proofs.Words.{word-read}

abbrev IsScanned : List ℕ → Type 0
IsScanned text = raw_at text ≡ scan_at text

-- ---- where no number begins

value-period : kind_of_spelling (46 ∷ []) ≡ Some (view_of_class SymPeriod)
value-period = rw not_start_46 refl

point_or_none : (o : Option (ℕ × List ℕ)) (cs : List ℕ) → point cs ≡ o → as_optional_float o ≡ None → IsRead 46 cs
point_or_none None cs e h = found 46 [] cs (Some (view_of_class SymPeriod)) (point_alone cs e) value-period
point_or_none (Some float) cs e h = absurd (cc)

digit_or_not : (b : Bool) (c : ℕ) (cs : List ℕ) → is_ascii_digit c ≡ b → is_xid_start c ≡ false
    → (c == 95) ≡ false → (c == 46) ≡ false → (c == 48) ≡ false → number c cs ≡ None → IsRead c cs
digit_or_not true c cs d h n no_point no_zero e =
    let known = rw (no_point, no_zero, is_digit-decimal c ∙ d) at e in absurd (cc)
digit_or_not false c cs d h n no_point no_zero e = symbol-read c cs h d n no_point

no_number : (c : ℕ) (cs : List ℕ) → is_xid_start c ≡ false → (c == 95) ≡ false → number c cs ≡ None → IsRead c cs
no_number c cs h n e =
    let P : ℕ → Type 0 = λ c. is_xid_start c ≡ false → (c == 95) ≡ false → number c cs ≡ None → IsRead c cs in
    at_code 46 c P (λ h n e. point_or_none (point cs) cs refl e) (λ no_point.
    at_code 48 c P (λ h n e. absurd (cc)) (λ no_zero. λ h n e.
    digit_or_not (is_ascii_digit c) c cs refl h n no_point no_zero e)) h n e

-- ---- any character

number_or_not : (o : Option (NumericLiteral × List ℕ)) (c : ℕ) (cs : List ℕ) → number c cs ≡ o
    → is_xid_start c ≡ false → (c == 95) ≡ false → raw_at (c ∷ cs) ≡ number_or_symbol o c cs
number_or_not None c cs e h n = no_number c cs h n e
number_or_not (Some found) c cs e h n = (number-read c cs found e).0

underscore_or_not : (b : Bool) (c : ℕ) (cs : List ℕ) → (c == 95) ≡ b → is_xid_start c ≡ false → IsScanned (c ∷ cs)
underscore_or_not true c cs n h = word-read c cs (rw (h, n) refl) ∙ rw (h, n) refl
underscore_or_not false c cs n h = number_or_not (number c cs) c cs refl h n ∙ rw (h, n) refl

start_or_not : (b : Bool) (c : ℕ) (cs : List ℕ) → is_xid_start c ≡ b → IsScanned (c ∷ cs)
start_or_not true c cs h = word-read c cs (rw h refl) ∙ rw h refl
start_or_not false c cs h = underscore_or_not (c == 95) c cs refl h

pub raw_at-scanned : (text : List ℕ) → raw_at text ≡ scan_at text
raw_at-scanned [] = refl
raw_at-scanned (c ∷ cs) = start_or_not (is_xid_start c) c cs refl

pub scan_at-word : (c : ℕ) (cs : List ℕ) → (is_xid_start c || c == 95) ≡ true
    → token (kind_of_word (encode_utf8_all (front (c ∷ cs) (after_word cs)))) (c ∷ cs) (after_word cs)
    ≡ scan_at (c ∷ cs)
scan_at-word c cs h = rw h refl
