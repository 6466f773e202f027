-- Which characters may follow a name and a number without making a longer token.
use Rattle.std.proofs.Common.{◌≡◌, ℕ, ◌<◌, ◌==◌, ◌&&◌, ◌||◌, Bool, true, false, not, refl, sym, ap, subst, List, [], ◌∷◌, ◌++◌, Some, ◌∙◌, lit<, arith}
use Rattle.std.specs.Prelude.{nat_lt}
use Rattle.std.specs.Char.{is_ascii_digit, is_ascii_alphabetic, is_ascii_alphanumeric}
use Rattle.std.specs.Str.{IsUtf8, chars, encode_utf8_all}
use Rattle.std.proofs.lemmas.Bool.{and_parts, ltb-true, eq-eqb, eqb-true, false_from_ne_true, true≢false, not-true}
use Rattle.std.proofs.lemmas.Bool.Decides.{nat_tests}
use Rattle.std.proofs.lemmas.Str.{encodes-chars}
use Rattle.unicode_ident.specs.Ident.{is_xid_start, is_xid_continue}
use Rattle.unicode_ident.proofs.IdentLemmas.{is_xid_start-ascii, is_xid_continue-ascii, is_xid_start-is_xid_continue}
use Rattle.wgsl_model.specs.Tokens.Characters.{is_blank}
use Rattle.wgsl_model.specs.Tokens.Pattern.{spells}
use Rattle.wgsl_model.specs.Tokens.Numbers.{number_spelling}
use Rattle.wgsl_model.specs.Tokens.Spelling.{identifier, syntactic_token, spelling}
use Rattle.wgsl_model.specs.Tokens.Raw.{kind_of_word}
use Rattle.wgsl_model.proofs.Tokens.Characters.{other_than}
use Rattle.wgsl_theory_printed.proofs.Spelling.Split.{Each, Each-last, spelled_each, takes, differs, lets_differs}
use Rattle.wgsl_theory_printed.proofs.Spelling.Fronts.{spelled_first, stands_alone}
use Rattle.wgsl_theory_printed.proofs.Spelling.Characters.{xid_start-not_blank}
use Rattle.wgsl_theory_printed.proofs.Spelling.Pieces.{Stands}
use Rattle.wgsl_theory_printed.proofs.Spelling.Spellings.{IsSpelling, EndsAt, EndsBefore, spelling_stands}
use Rattle.wgsl_theory_printed.proofs.Spelling.Signs.{is_sign, begins_name, begins_number, identifier_begins, number_begins, symbol_begins, one_of_three}

-- a spelling that a pattern's tests let no such character into
pub no_such : (d : ℕ) (xs z : List ℕ) → Each (differs d) (xs ++ (d ∷ z)) → ⊥
no_such d xs z each = true≢false (sym (Each-last (differs d) xs (d ∷ z) each).0 ∙ ap not (eq-eqb d d refl))

-- ---- names

-- a character that no name goes on with
abbrev pub ends_name : ℕ → Bool
ends_name c = nat_lt c 128 && not (is_ascii_alphanumeric c || c == 95)

ends_continued : (c : ℕ) → ends_name c ≡ true → is_xid_continue c ≡ false
ends_continued c h =
    let parts = and_parts (nat_lt c 128) (not (is_ascii_alphanumeric c || c == 95)) h in
    is_xid_continue-ascii c (ltb-true c 128 parts.0) ∙ not-true _ parts.1

ends_started : (c : ℕ) → ends_name c ≡ true → is_xid_start c ≡ false
ends_started c h = false_from_ne_true (is_xid_start c)
    (λ s. true≢false (sym (is_xid_start-is_xid_continue c s) ∙ ends_continued c h))

ends_taken : (c : ℕ) → ends_name c ≡ true → takes c identifier ≡ false
ends_taken c h =
    let low : (c == 95) ≡ false = grind (arith, nat_tests) in
    rw (ends_started c h, ends_continued c h, low) refl

-- what begins a name begins no number, and no symbol but `_`
pub name_no_number : (x : ℕ) → begins_name x ≡ true → begins_number x ≡ true → ⊥
name_no_number x h k =
    let low : x < 128 = grind (arith, nat_tests) in
    let letter : is_ascii_alphabetic x ≡ false = grind (arith, nat_tests) in
    let start : is_xid_start x ≡ false = is_xid_start-ascii x low ∙ letter in
    let underscore : (x == 95) ≡ false = grind (arith, nat_tests) in
    true≢false (sym h ∙ rw (start, underscore) refl)

sign_starts : (x : ℕ) → is_sign x ≡ true → is_xid_start x ≡ false
sign_starts x h =
    let parts = and_parts (nat_lt x 128) (not (is_ascii_alphanumeric x)) h in
    let letter : is_ascii_alphabetic x ≡ false = grind (arith, nat_tests) in
    is_xid_start-ascii x (ltb-true x 128 parts.0) ∙ letter

underscore_alone : (xs : List ℕ) (d : ℕ) (z : List ℕ) → spells syntactic_token ((95 ∷ xs) ++ (d ∷ z)) ≡ true → ⊥
underscore_alone [] d z h = true≢false (sym (stands_alone 95 syntactic_token refl 95 d z h).0)
underscore_alone (x ∷ xs) d z h = true≢false (sym (stands_alone 95 syntactic_token refl 95 x (xs ++ (d ∷ z)) h).0)

pub name_no_symbol : (x : ℕ) (xs : List ℕ) (d : ℕ) (z : List ℕ) → begins_name x ≡ true
    → spells syntactic_token ((x ∷ xs) ++ (d ∷ z)) ≡ true → ⊥
name_no_symbol x xs d z b h = go (is_xid_start x) refl b
  where
    go : (s : Bool) → is_xid_start x ≡ s → (s || x == 95) ≡ true → ⊥
    go true e f = true≢false
        (sym e ∙ sign_starts x (spelled_first is_sign syntactic_token symbol_begins x (xs ++ (d ∷ z)) h))
    go false e f = underscore_alone xs d z
        (subst (λ y. spells syntactic_token ((y ∷ xs) ++ (d ∷ z)) ≡ true) (eqb-true x 95 f) h)

name_ends : (x : ℕ) (xs : List ℕ) (d : ℕ) → begins_name x ≡ true → ends_name d ≡ true → EndsAt (x ∷ xs) d
name_ends x xs d b e z h =
    one_of_three ((x ∷ xs) ++ (d ∷ z)) h
    (λ k. no_such d (x ∷ xs) z (spelled_each (differs d) identifier
    (lets_differs d identifier (ends_taken d e)) ((x ∷ xs) ++ (d ∷ z)) k))
    (λ k. name_no_number x b (spelled_first begins_number number_spelling number_begins x (xs ++ (d ∷ z)) k))
    (λ k. name_no_symbol x xs d z b k)

-- a rest begins with such a character
abbrev pub EndsName : List ℕ → Type 0
EndsName [] = Unit {0}
EndsName (c ∷ cs) = ends_name c ≡ true

-- the bytes of a name: an identifier, a keyword, a reserved word or `_`
pub record IsNameText (bytes : List ℕ) : Type 0 where
  pub utf8 : IsUtf8 bytes
  pub first : ℕ
  pub others : List ℕ
  pub characters : chars bytes ≡ first ∷ others
  pub begins : begins_name first ≡ true
  pub spelled : spells spelling (first ∷ others) ≡ true

begins_word : (c : ℕ) → begins_name c ≡ true → (is_blank c ≡ false) × ((c == 47) ≡ false)
begins_word c h = go (is_xid_start c) refl h
  where
    go : (b : Bool) → is_xid_start c ≡ b → (b || c == 95) ≡ true → (is_blank c ≡ false) × ((c == 47) ≡ false)
    go true e f = (xid_start-not_blank c e, other_than is_xid_start c e 47 (is_xid_start-ascii 47 (lit< tt)))
    go false e f = subst (λ d. (is_blank d ≡ false) × ((d == 47) ≡ false)) (sym (eqb-true c 95 f)) (refl, refl)

name_spelling : (bytes : List ℕ) → (n : IsNameText bytes) → IsSpelling (kind_of_word bytes) (n.first ∷ n.others)
name_spelling bytes n =
    let same : encode_utf8_all (n.first ∷ n.others) ≡ bytes = ap encode_utf8_all (sym n.characters)
    ∙ encodes-chars bytes n.utf8 in
    record {
      spelled = n.spelled;
      valued = rw n.begins (ap (λ (b : List ℕ). Some (kind_of_word b)) same);
      begins = begins_word n.first n.begins;
    }

name_ends_before : (x : ℕ) (xs rest : List ℕ) → begins_name x ≡ true → EndsName rest → EndsBefore (x ∷ xs) rest
name_ends_before x xs [] b e = tt
name_ends_before x xs (d ∷ ds) b e = name_ends x xs d b e

-- a name is the token at the front
pub name_stands : (bytes rest : List ℕ) → IsNameText bytes → EndsName rest
    → Stands (chars bytes) (kind_of_word bytes) rest
name_stands bytes rest n e =
    subst (λ w. Stands w (kind_of_word bytes) rest) (sym n.characters)
    (spelling_stands (kind_of_word bytes) (n.first ∷ n.others) rest (name_spelling bytes n)
    (name_ends_before n.first n.others rest n.begins e))

-- ---- numbers

-- a rest begins with a character that is in no number
abbrev pub EndsNumber : List ℕ → Type 0
EndsNumber [] = Unit {0}
EndsNumber (c ∷ cs) = takes c number_spelling ≡ false

point_alone : (xs : List ℕ) (d : ℕ) (z : List ℕ) → spells syntactic_token ((46 ∷ xs) ++ (d ∷ z)) ≡ true → ⊥
point_alone [] d z h = true≢false (sym (stands_alone 46 syntactic_token refl 46 d z h).0)
point_alone (x ∷ xs) d z h = true≢false (sym (stands_alone 46 syntactic_token refl 46 x (xs ++ (d ∷ z)) h).0)

pub number_no_name : (x : ℕ) (xs : List ℕ) → begins_number x ≡ true → spells identifier (x ∷ xs) ≡ true → ⊥
number_no_name x xs b h = name_no_number x (spelled_first begins_name identifier identifier_begins x xs h) b

pub number_no_symbol : (x : ℕ) (xs : List ℕ) (d : ℕ) (z : List ℕ) → begins_number x ≡ true
    → spells syntactic_token ((x ∷ xs) ++ (d ∷ z)) ≡ true → ⊥
number_no_symbol x xs d z b h = go (is_ascii_digit x) refl b
  where
    go : (s : Bool) → is_ascii_digit x ≡ s → (s || x == 46) ≡ true → ⊥
    go true e f =
        (let sign : is_sign x ≡ true = spelled_first is_sign syntactic_token symbol_begins x (xs ++ (d ∷ z)) h in
        let none : is_ascii_digit x ≡ false = grind (arith, nat_tests) in true≢false (sym e ∙ none))
    go false e f = point_alone xs d z
        (subst (λ y. spells syntactic_token ((y ∷ xs) ++ (d ∷ z)) ≡ true) (eqb-true x 46 f) h)

number_ends : (x : ℕ) (xs : List ℕ) (d : ℕ) → begins_number x ≡ true
    → takes d number_spelling ≡ false → EndsAt (x ∷ xs) d
number_ends x xs d b e z h =
    one_of_three ((x ∷ xs) ++ (d ∷ z)) h
    (λ k. number_no_name x (xs ++ (d ∷ z)) b k)
    (λ k. no_such d (x ∷ xs) z (spelled_each (differs d) number_spelling
    (lets_differs d number_spelling e) ((x ∷ xs) ++ (d ∷ z)) k))
    (λ k. number_no_symbol x xs d z b k)

pub number_ends_before : (x : ℕ) (xs rest : List ℕ) → begins_number x ≡ true → EndsNumber rest
    → EndsBefore (x ∷ xs) rest
number_ends_before x xs [] b e = tt
number_ends_before x xs (d ∷ ds) b e = number_ends x xs d b e
