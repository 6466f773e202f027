-- The ends of a text, by the places where they begin.
use Rattle.std.proofs.Common.{◌≡◌, ℕ, ◌+◌, ◌≤◌, List, [], ◌∷◌, ◌++◌, Some, take, drop, length, length-drop, chars, Bor, true, refl, sym, ap, ◌∙◌, arith}
use Rattle.std.proofs.lemmas.Str.{encodes-chars, encodes-append, chars-encodes, IsCharBoundary-at_seam, scalars-chars}
use Rattle.std.proofs.Math.Seq.{drop-append_seam, take-length}
use Rattle.std.proofs.lemmas.List.{length-append}
use Rattle.std.specs.Str.Pattern.{GetsRange}
use Rattle.std.specs.Str.{IsUtf8, IsCharBoundary, encode_utf8_all}
use Rattle.std.proofs.Math.Utf8.{scalars}
use Rattle.grammar.proofs.Reading.Sets.{and_true}
use Rattle.wgsl_model.specs.Tokens.Places.{place, width}
use Rattle.wgsl_theory_grammar.proofs.Tokens.Cuts.{EndsWith}
use Rattle.wgsl_theory_grammar.proofs.Tokens.Widths.{within, past}

-- ends of a text that are as wide are the same
pub same_end : (xs ys t u : List ℕ) → xs ++ t ≡ ys ++ u → width t ≡ width u → t ≡ u
same_end [] [] t u e w = e
same_end [] (y ∷ ys) t u e w = absurd (omega (arith, past t u (y, ys, e)))
same_end (x ∷ xs) [] t u e w = absurd (omega (arith, past u t (x, xs, sym e)))
same_end (x ∷ xs) (y ∷ ys) t u e w = let tails : xs ++ t ≡ ys ++ u = cc in same_end xs ys t u tails w

-- so are those that are at the same place
pub same_place : (total : ℕ) (text xs ys t u : List ℕ) → width text ≤ total → text ≡ xs ++ t
    → text ≡ ys ++ u → place total t ≡ place total u → t ≡ u
same_place total text xs ys t u fits e f p =
    same_end xs ys t u (sym e ∙ f) (omega (arith, p, fits, within text t (xs, e), within text u (ys, f)))

-- a text has as many bytes as it is wide
pub bytes_width : (bs : List ℕ) → IsUtf8 bs → width (chars bs) ≡ length bs
bytes_width bs u = ap length (encodes-chars bs u)

scalar_end : (xs ys : List ℕ) → scalars (xs ++ ys) ≡ true → scalars ys ≡ true
scalar_end [] ys e = e
scalar_end (x ∷ xs) ys e = scalar_end xs ys (and_true _ (scalars (xs ++ ys)) e).1

-- an end of a text is a text, and what the text has from there on
pub cut_end : (bs xs ys : List ℕ) → IsUtf8 bs → chars bs ≡ xs ++ ys
    → (drop (width xs) bs ≡ encode_utf8_all ys) × (chars (encode_utf8_all ys) ≡ ys)
    × IsCharBoundary bs (width xs) × (length bs ≡ width xs + width ys)
cut_end bs xs ys u e =
    let all = scalar_end xs ys (ap scalars (sym e) ∙ scalars-chars bs u) in
    let parts : bs ≡ encode_utf8_all xs ++ encode_utf8_all ys = sym (encodes-chars bs u)
    ∙ ap encode_utf8_all e ∙ encodes-append xs ys in (
      ap (drop (width xs)) parts ∙ drop-append_seam (encode_utf8_all xs) (encode_utf8_all ys),
      chars-encodes ys all,
      IsCharBoundary-at_seam bs (encode_utf8_all xs) (encode_utf8_all ys) parts (ys, (all, refl)),
      ap length parts ∙ length-append _ _,
    )

-- what `get` gives from there on
pub gets_bytes : (bs : List ℕ) (n : ℕ) (rest : List ℕ) (x : Bor (List ℕ)) → IsUtf8 bs
    → EndsWith (chars bs) rest → n ≡ place (length bs) rest → GetsRange bs n (length bs) (Some x)
    → x.now ≡ encode_utf8_all rest
gets_bytes bs n rest x u e at gets =
    let cut = cut_end bs e.0 rest u e.1 in
    let start : n ≡ width e.0 = omega (arith, at, cut.3) in
    gets.0 ∙ ap (λ m. take m (drop n bs)) (sym (length-drop n bs)) ∙ take-length (drop n bs)
    ∙ ap (λ m. drop m bs) start ∙ cut.0

pub gets_end : (bs : List ℕ) (n : ℕ) (rest : List ℕ) (x : Bor (List ℕ)) → IsUtf8 bs
    → EndsWith (chars bs) rest → n ≡ place (length bs) rest → GetsRange bs n (length bs) (Some x)
    → chars x.now ≡ rest
gets_end bs n rest x u e at gets = ap chars (gets_bytes bs n rest x u e at gets) ∙ (cut_end bs e.0 rest u e.1).1
