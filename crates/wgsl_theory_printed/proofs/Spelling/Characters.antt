-- What the characters of identifiers are: scalar values, and neither blank space nor `/`.
use Rattle.std.proofs.Common.{◌≡◌, ℕ, Bool, true, false, not, ◌&&◌, ◌||◌, ◌==◌, refl, subst, List, [], ◌∷◌, arith}
use Rattle.std.specs.Char.{IsScalar}
use Rattle.std.proofs.lemmas.Bool.{and_parts, not-true}
use Rattle.std.proofs.lemmas.Bool.Decides.{nat_tests}
use Rattle.ucd_table.specs.Rows.{Range, in_ranges}
use Rattle.ucd_table.proofs.Stepped.{of_ranges, zip_stepped}
use Rattle.ucd_table.proofs.Facts.{Stepped-everywhere}
use Rattle.ucd_derived.proofs.BinaryLemmas.{is_xid_continue_stepped}
use Rattle.unicode_ident.specs.Ident.{is_xid_start, is_xid_continue}
use Rattle.unicode_ident.proofs.IdentLemmas.{is_xid_start-is_xid_continue}
use Rattle.unicode_ident.proofs.Computing.{unicode_ident}
use Rattle.wgsl_model.specs.Tokens.Characters.{is_blank}

-- neither blank space nor `/`: the characters of a word that does not begin with `/`
abbrev pub is_in_words : ℕ → Bool
is_in_words c = not (is_blank c) && not (c == 47)

abbrev scalar_ranges : List Range
scalar_ranges = (0, 0xD7FF) ∷ (0xE000, 0x10FFFF) ∷ []

-- blank space, and `/`
abbrev other_ranges : List Range
other_ranges = (9, 13) ∷ (32, 32) ∷ (47, 47) ∷ (133, 133) ∷ (160, 160) ∷ (5760, 5760) ∷ (8192, 8202)
    ∷ (0x200E, 0x200F) ∷ (8232, 8233) ∷ (8239, 8239) ∷ (8287, 8287) ∷ (12288, 12288) ∷ []

continues-in_ranges : (c : ℕ) → is_xid_continue c ≡ true → in_ranges scalar_ranges c ≡ true
unfolding unicode_ident
continues-in_ranges c h =
    let both = zip_stepped (λ a b. not a || b) is_xid_continue
    (in_ranges scalar_ranges) is_xid_continue_stepped (of_ranges scalar_ranges refl) in
    subst (λ a. (not a || in_ranges scalar_ranges c) ≡ true) h (Stepped-everywhere _ both refl c)

continues-no_other : (c : ℕ) → is_xid_continue c ≡ true → not (in_ranges other_ranges c) ≡ true
unfolding unicode_ident
continues-no_other c h =
    let both = zip_stepped (λ a b. not a || not b) is_xid_continue
    (in_ranges other_ranges) is_xid_continue_stepped (of_ranges other_ranges refl) in
    subst (λ a. (not a || not (in_ranges other_ranges c)) ≡ true) h (Stepped-everywhere _ both refl c)

in_ranges-scalar : (c : ℕ) → in_ranges scalar_ranges c ≡ true → IsScalar c
unfolding in_ranges
in_ranges-scalar c h = grind (arith, nat_tests)

pub xid_continue-scalar : (c : ℕ) → is_xid_continue c ≡ true → IsScalar c
xid_continue-scalar c h = in_ranges-scalar c (continues-in_ranges c h)

in_ranges-in_words : (c : ℕ) → not (in_ranges other_ranges c) ≡ true → is_in_words c ≡ true
unfolding in_ranges
in_ranges-in_words c h = grind (arith, nat_tests)

pub xid_continue-in_words : (c : ℕ) → is_xid_continue c ≡ true → is_in_words c ≡ true
xid_continue-in_words c h = in_ranges-in_words c (continues-no_other c h)

pub xid_start-not_blank : (c : ℕ) → is_xid_start c ≡ true → is_blank c ≡ false
xid_start-not_blank c h = not-true (is_blank c) (and_parts (not (is_blank c)) (not (c == 47))
    (xid_continue-in_words c (is_xid_start-is_xid_continue c h))).0
