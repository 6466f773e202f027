-- The table of the texts of the rules is that of the definition.
use Rattle.std.proofs.Common.{◌≡◌, ℕ, zero, suc, ◌<◌, ◌≤◌, refl, ap, true, List, [], ◌∷◌, length, get_or, map, Some, None, nat_lt, arith}
use Rattle.std.specs.List.{list_all}
use Rattle.std.proofs.lemmas.Bool.{ltb-true, and_parts}
use Rattle.wgsl_model_packed.specs.JsonRules.{json_rules}
use Rattle.wgsl_model_packed.specs.Rules.{rules}
use Rattle.wgsl_model_packed.specs.Printing.{text_in}
use Rattle.wgsl_print_packed.specs.declared.notation.Notation.{Notation}
use Rattle.wgsl_print_packed.specs.declared.notation.Notation.TheVariants.{Wgsl, Json}
use Rattle.wgsl_print_packed.specs.Notations.{notation_of}

module _ {X : Type 0} (now : X → List ℕ) where
  pub text_in-at : (table : List X) (n : ℕ) (d : X) → n < length table
      → text_in (map now table) n ≡ Some (now (get_or table n d))
  text_in-at [] n d h = absurd (omega (arith, h))
  text_in-at (x ∷ xs) zero d h = refl
  text_in-at (x ∷ xs) (suc n) d h = text_in-at xs n d (omega (arith, h))

  pub text_in-past : (table : List X) (n : ℕ) → length table ≤ n → text_in (map now table) n ≡ None
  text_in-past [] n h = refl
  text_in-past (x ∷ xs) zero h = absurd (omega (arith, h))
  text_in-past (x ∷ xs) (suc n) h = text_in-past xs n (omega (arith, h))

-- each text has fewer than 128 bytes

text_in-short : (texts : List (List ℕ)) (n : ℕ) (text : List ℕ)
    → list_all (λ (t : List ℕ). nat_lt (length t) 128) texts ≡ true
    → text_in texts n ≡ Some text → length text < 128
text_in-short [] n text all is = absurd (cc)
text_in-short (x ∷ xs) zero text all is =
    let e : x ≡ text = cc in
    let low = ltb-true (length x) 128
    (and_parts (nat_lt (length x) 128) (list_all (λ (t : List ℕ). nat_lt (length t) 128) xs) all).0 in
    omega (arith, low, ap length e)
text_in-short (x ∷ xs) (suc n) text all is =
    text_in-short xs n text
    (and_parts (nat_lt (length x) 128) (list_all (λ (t : List ℕ). nat_lt (length t) 128) xs) all).1 is

pub rule_short : (notation : Notation) (n : ℕ) (text : List ℕ) → text_in (notation_of notation).texts n ≡ Some text
    → length text < 128
rule_short Wgsl n text is = text_in-short rules n text refl is
rule_short Json n text is = text_in-short json_rules n text refl is
