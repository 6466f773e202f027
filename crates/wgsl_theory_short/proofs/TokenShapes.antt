-- What the characters of a token are by its kind: those of a name, a number or a symbol.
use Rattle.std.proofs.Common.{◌≡◌, ℕ, ◌^◌, ◌==◌, ◌&&◌, ◌||◌, not, Bool, true, false, cond, refl, sym, subst, ◌∙◌, List, [], ◌∷◌, Option, Some, None, arith}
use Rattle.std.specs.Prelude.{codes, bytes_eq, nat_lt, option_map, pos}
use Rattle.std.specs.Char.{is_ascii_digit}
use Rattle.std.specs.Str.{encode_utf8_all}
use Rattle.std.proofs.lemmas.Bool.{true≢false, and_parts, or_left, or_right}
use Rattle.std.proofs.lemmas.Bool.Decides.{nat_tests}
use Rattle.grammar.specs.Tokens.{Payload.number as number_payload}
use Rattle.grammar.specs.Tables.{is_empty}
use Rattle.wgsl_model.specs.Tokens.ClassTable.{Ident, ReservedWord, SymUnderscore, AbstractInt, I32, U32, AbstractFloat, F32, F16, symbols, keywords}
use Rattle.wgsl_model.specs.Tokens.Kind.{Kind, plain, named}
use Rattle.wgsl_model.specs.Tokens.Numbers.{number_of, number_below, float_of, number_value, without_last, whole_number, i_suffix, u_suffix, f_suffix, h_suffix, abstract_float, float, number_spelling}
use Rattle.wgsl_model.specs.Tokens.Pattern.{empty, spells}
use Rattle.wgsl_model.specs.Tokens.Raw.{kind_of_word, keyword_or_name}
use Rattle.wgsl_model.specs.Tokens.Spelling.{syntactic_token, spelling}
use Rattle.wgsl_model.specs.Tokens.Words.{look_up, is_word_among, reserved_words}
use Rattle.wgsl_theory_grammar.proofs.Tokens.Symbols.{each_passes, found_passes}
use Rattle.wgsl_theory_printed.proofs.Spelling.Split.{by_either}
use Rattle.wgsl_theory_printed.proofs.Spelling.Fronts.{spelled_first}
use Rattle.wgsl_theory_printed.proofs.Spelling.Spellings.{IsSpelling}
use Rattle.wgsl_theory_printed.proofs.Spelling.Signs.{is_sign, symbol_begins, begins_name, begins_number, one_of_three}
use Rattle.wgsl_theory_printed.proofs.Spelling.Ends.{number_no_name, number_no_symbol}

-- a number begins so
abbrev pub is_number_front : ℕ → List ℕ → Bool
is_number_front x xs = is_ascii_digit x || (x == 46 && not (is_empty xs))

pub data Shape (k : Kind) (x : ℕ) (xs : List ℕ) : Type 0 where
  a_name : begins_name x ≡ true → kind_of_word (encode_utf8_all (x ∷ xs)) ≡ k → Shape k x xs
  a_number : begins_number x ≡ true → spells number_spelling (x ∷ xs) ≡ true → number_of (x ∷ xs) ≡ Some k
      → Shape k x xs
  a_sign : (class : ℕ) → begins_name x ≡ false → is_number_front x xs ≡ false
      → look_up symbols (x ∷ xs) ≡ Some class → plain class ≡ k → Shape k x xs

number_spelled : (x : ℕ) (xs : List ℕ) → is_number_front x xs ≡ true → spells spelling (x ∷ xs) ≡ true
    → (begins_number x ≡ true) × (spells number_spelling (x ∷ xs) ≡ true)
number_spelled x xs d h = (
  first,
  one_of_three (x ∷ xs) h (λ s. absurd (number_no_name x xs first s)) (λ s. s)
      (λ s. absurd (by_either (is_ascii_digit x) (x == 46 && not (is_empty xs)) d
      (λ e. no_digit e (spelled_first is_sign syntactic_token symbol_begins x xs s))
      (λ e. more xs (and_parts (x == 46) (not (is_empty xs)) e).1 s))),
)
  where
    first : begins_number x ≡ true
    first = by_either (is_ascii_digit x) (x == 46 && not (is_empty xs)) d
        (λ e. or_left (is_ascii_digit x) (x == 46) e)
        (λ e. or_right (is_ascii_digit x) (x == 46) (and_parts (x == 46) (not (is_empty xs)) e).0)

    no_digit : is_ascii_digit x ≡ true → is_sign x ≡ true → ⊥
    no_digit e s = (let none : is_ascii_digit x ≡ false = grind (arith, nat_tests) in true≢false (sym e ∙ none))

    more : (ys : List ℕ) → not (is_empty ys) ≡ true → spells syntactic_token (x ∷ ys) ≡ true → ⊥
    more [] e s = true≢false (sym e)
    more (y ∷ ys) e s = number_no_symbol x [] y ys first s

pub shape : (k : Kind) (x : ℕ) (xs : List ℕ) → IsSpelling k (x ∷ xs) → Shape k x xs
shape k x xs s = by (begins_name x) (is_number_front x xs) refl refl s.valued
  where
    of_symbol : begins_name x ≡ false → is_number_front x xs ≡ false
        → (o : Option ℕ) → look_up symbols (x ∷ xs) ≡ o → option_map plain o ≡ Some k → Shape k x xs
    of_symbol e f None p q = absurd (cc)
    of_symbol e f (Some class) p q = let same : plain class ≡ k = cc in a_sign class e f p same

    by : (a b : Bool) → begins_name x ≡ a → is_number_front x xs ≡ b
        → cond a (Some (kind_of_word (encode_utf8_all (x ∷ xs)))) (cond b (number_of (x ∷ xs))
        (option_map plain (look_up symbols (x ∷ xs)))) ≡ Some k → Shape k x xs
    by true b e f v = let same : kind_of_word (encode_utf8_all (x ∷ xs)) ≡ k = cc in a_name e same
    by false true e f v = let number = number_spelled x xs f s.spelled in a_number number.0 number.1 v
    by false false e f v = of_symbol e f (look_up symbols (x ∷ xs)) refl v

-- ---- classes

module _ (test : ℕ → Bool) where
  -- the classes of names pass
  module _ (in_keywords : each_passes (λ w class. test class) keywords ≡ true) (underscore : test SymUnderscore ≡ true)
      (ident : test Ident ≡ true) (reserved : test ReservedWord ≡ true) where
    word_class : (bytes : List ℕ) → test (kind_of_word bytes).class ≡ true
    word_class bytes = by_underscore (bytes_eq bytes (codes "_"))
      where
        by_reserved : (b : Bool) → test (cond b (named ReservedWord bytes) (named Ident bytes)).class ≡ true
        by_reserved true = reserved
        by_reserved false = ident

        by_keyword : (o : Option ℕ) → look_up keywords bytes ≡ o → test (keyword_or_name o bytes).class ≡ true
        by_keyword (Some c) e = found_passes (λ w class. test class) keywords bytes c in_keywords e
        by_keyword None e = by_reserved (is_word_among reserved_words bytes)

        by_underscore : (b : Bool) → test
            (cond b (plain SymUnderscore) (keyword_or_name (look_up keywords bytes) bytes)).class ≡ true
        by_underscore true = underscore
        by_underscore false = by_keyword (look_up keywords bytes) refl

    pub name_class : (bytes : List ℕ) (k : Kind) → kind_of_word bytes ≡ k → test k.class ≡ true
    name_class bytes k e = subst (λ (kind : Kind). test kind.class ≡ true) e (word_class bytes)

  below_class : (class limit n : ℕ) (k : Kind) → test class ≡ true
      → number_below class limit n ≡ Some k → test k.class ≡ true
  below_class class limit n k r h = go (nat_lt n limit) h
    where
      go : (b : Bool)
          → cond b (Some (record { class = class; payload = number_payload (pos n) })) None ≡ Some k
          → test k.class ≡ true
      go true e = let same : class ≡ k.class = cc in subst (λ c. test c ≡ true) same r
      go false e = absurd (cc)

  float_class : (class : ℕ) (text : List ℕ) (k : Kind) → test class ≡ true → float_of class text ≡ Some k
      → test k.class ≡ true
  float_class class text k r e = let same : class ≡ k.class = cc in subst (λ c. test c ≡ true) same r

  -- those of numbers pass
  pub number_class : (w : List ℕ) → (spells (whole_number empty) w ≡ true → test AbstractInt ≡ true)
      → test I32 ≡ true → test U32 ≡ true → test AbstractFloat ≡ true → test F32 ≡ true → test F16 ≡ true
      → (k : Kind) → number_of w ≡ Some k → test k.class ≡ true
  number_class w t1 t2 t3 t4 t5 t6 k h = go (spells (whole_number empty) w) (spells (whole_number i_suffix) w)
      (spells (whole_number u_suffix) w) (spells abstract_float w) (spells (float f_suffix) w)
      (spells (float h_suffix) w) refl h
    where
      go : (a b c d e f : Bool) → spells (whole_number empty) w ≡ a
          → cond a (number_below AbstractInt (2 ^ 63) (number_value w))
          (cond b (number_below I32 (2 ^ 31) (number_value (without_last w)))
          (cond c (number_below U32 (2 ^ 32) (number_value (without_last w)))
          (cond d (float_of AbstractFloat w)
          (cond e (float_of F32 (without_last w))
          (cond f (float_of F16 (without_last w)) None))))) ≡ Some k
          → test k.class ≡ true
      go true b c d e f i g = below_class AbstractInt (2 ^ 63) (number_value w) k (t1 i) g
      go false true c d e f i g = below_class I32 (2 ^ 31) (number_value (without_last w)) k t2 g
      go false false true d e f i g = below_class U32 (2 ^ 32) (number_value (without_last w)) k t3 g
      go false false false true e f i g = float_class AbstractFloat w k t4 g
      go false false false false true f i g = float_class F32 (without_last w) k t5 g
      go false false false false false true i g = float_class F16 (without_last w) k t6 g
      go false false false false false false i g = absurd (cc)
