-- A token is in the table of symbols where its class passes a test that no keyword, no name and
-- no number passes.
use Rattle.std.proofs.Common.{◌≡◌, ℕ, Bool, true, false, not, ◌&&◌, cond, Option, Some, None, List, [], ◌∷◌, refl, ap₂, subst, sym, ◌∙◌}
use Rattle.std.specs.Prelude.{◌^◌, ◌||◌, ◌==◌, option_map, nat_lt, pos, codes, bytes_eq}
use Rattle.std.specs.Char.{is_ascii_digit}
use Rattle.std.specs.Str.{encode_utf8_all}
use Rattle.std.proofs.lemmas.Slice.Eq.{bytes_eq-Decides}
use Rattle.unicode_ident.specs.Ident.{is_xid_start}
use Rattle.std.proofs.lemmas.Bool.{false_from_ne_true}
use Rattle.grammar.specs.Grammar.{is_among as among}
use Rattle.grammar.specs.Tokens.{Payload.number}
use Rattle.grammar.specs.Tables.{is_empty}
use Rattle.grammar.proofs.Reading.Sets.{and_true, not_true, clash}
use Rattle.wgsl_model.specs.Tokens.ClassTable.{SymUnderscore, Ident, ReservedWord, AbstractInt, I32, U32, AbstractFloat, F32, F16, symbols, keywords}
use Rattle.wgsl_model.specs.Tokens.Kind.{Kind, plain, named}
use Rattle.wgsl_model.specs.Tokens.Numbers.{whole_number, i_suffix, u_suffix, f_suffix, h_suffix, abstract_float, float, float_of, number_value, number_of, without_last, number_below}
use Rattle.wgsl_model.specs.Tokens.Words.{look_up, is_word_among, reserved_words}
use Rattle.wgsl_model.specs.Tokens.Pattern.{empty, spells, after_spelling}
use Rattle.wgsl_model.specs.Tokens.Spelling.{spelling}
use Rattle.wgsl_model.specs.Tokens.Trivia.{after_trivia, outside}
use Rattle.wgsl_model.specs.Tokens.Raw.{Raw, none_left, invalid, token, front, keyword_or_name, kind_of_word, kind_of_spelling, valued, spelled, raw_at, raw}
use Rattle.wgsl_theory_grammar.proofs.Tokens.Classes.{all_pass, passes_on}

-- ---- tables

-- each word of a table passes a test with its class
abbrev pub each_passes : (List ℕ → ℕ → Bool) → List (List ℕ × ℕ) → Bool
each_passes test [] = true
each_passes test (e ∷ es) = test e.0 e.1 && each_passes test es

-- so does a word that is looked up
pub found_passes : (test : List ℕ → ℕ → Bool) (es : List (List ℕ × ℕ)) (w : List ℕ) (c : ℕ)
    → each_passes test es ≡ true → look_up es w ≡ Some c → test w c ≡ true
found_passes test [] w c s h = absurd (cc)
found_passes test (e ∷ es) w c s h = go (found_passes test es w c parts.1) (bytes_eq e.0 w) refl h
  where
    parts : (test e.0 e.1 ≡ true) × (each_passes test es ≡ true)
    parts = and_true (test e.0 e.1) (each_passes test es) s

    go : (look_up es w ≡ Some c → test w c ≡ true) → (b : Bool) → bytes_eq e.0 w ≡ b
        → cond b (Some e.1) (look_up es w) ≡ Some c → test w c ≡ true
    go more true same k =
        let class : e.1 ≡ c = cc in
        let text : e.0 ≡ w = (bytes_eq-Decides e.0 w).0 same in
        ap₂ test (sym text) (sym class) ∙ parts.0
    go more false same k = more k

-- no class of a table passes a test
abbrev pub none_passes : (ℕ → Bool) → List (List ℕ × ℕ) → Bool
none_passes test = each_passes (λ w c. not (test c))

-- the classes of words that are no keywords, and of numbers
abbrev pub other_classes : List ℕ
other_classes = SymUnderscore ∷ Ident ∷ ReservedWord ∷ AbstractInt ∷ I32 ∷ U32 ∷ AbstractFloat ∷ F32 ∷ F16 ∷ []

-- ---- tokens

abbrev Maybe : (Kind → Type 0) → Option Kind → Type 0
Maybe P None = Unit {0}
Maybe P (Some k) = P k

-- whichever of two is chosen
either : {A : Type 0} (P : A → Type 0) (b : Bool) (x y : A) → P x → P y → P (cond b x y)
either P true x y h g = h
either P false x y h g = g

module _ (test : ℕ → Bool) (in_keywords : none_passes test keywords ≡ true)
    (in_others : all_pass (λ c. not (test c)) other_classes ≡ true) where
  -- the token's class does not pass
  abbrev IsOther : Kind → Type 0
  IsOther k = test k.class ≡ false

  other : (c : ℕ) → among c other_classes ≡ true → test c ≡ false
  other c m = not_true (test c) (passes_on (λ d. not (test d)) c other_classes in_others m)

  keyword_other : (o : Option ℕ) (word : List ℕ) → look_up keywords word ≡ o → IsOther (keyword_or_name o word)
  keyword_other None word e = either IsOther (is_word_among reserved_words word)
      (named ReservedWord word) (named Ident word) (other ReservedWord refl) (other Ident refl)
  keyword_other (Some c) word e = not_true (test c) (found_passes (λ w d. not (test d)) keywords word c in_keywords e)

  word_other : (word : List ℕ) → IsOther (kind_of_word word)
  word_other word = either IsOther (bytes_eq word (codes "_")) (plain SymUnderscore)
      (keyword_or_name (look_up keywords word) word) (other SymUnderscore refl)
      (keyword_other (look_up keywords word) word refl)

  below_other : (class limit n : ℕ) → test class ≡ false → Maybe IsOther (number_below class limit n)
  below_other class limit n e = either (Maybe IsOther) (nat_lt n limit)
      (Some (record { class = class; payload = number (pos n) })) None e tt

  number_other : (word : List ℕ) → Maybe IsOther (number_of word)
  number_other word =
      either (Maybe IsOther) (spells (whole_number empty) word)
      (number_below AbstractInt (2 ^ 63) (number_value word)) _
      (below_other AbstractInt (2 ^ 63) (number_value word) (other AbstractInt refl)) (
      either (Maybe IsOther) (spells (whole_number i_suffix) word)
      (number_below I32 (2 ^ 31) (number_value (without_last word))) _
      (below_other I32 (2 ^ 31) (number_value (without_last word)) (other I32 refl)) (
      either (Maybe IsOther) (spells (whole_number u_suffix) word)
      (number_below U32 (2 ^ 32) (number_value (without_last word))) _
      (below_other U32 (2 ^ 32) (number_value (without_last word)) (other U32 refl)) (
      either (Maybe IsOther) (spells abstract_float word) (float_of AbstractFloat word) _ (other AbstractFloat refl) (
      either (Maybe IsOther) (spells (float f_suffix) word) (float_of F32 (without_last word)) _ (other F32 refl) (
      either (Maybe IsOther) (spells (float h_suffix) word) (float_of F16 (without_last word)) None
      (other F16 refl) tt)))))

  -- what is known of the token of a word
  abbrev IsSymbol : List ℕ → Kind → Type 0
  IsSymbol word k = test k.class ≡ true → look_up symbols word ≡ Some k.class

  other_symbol : (word : List ℕ) (o : Option Kind) → Maybe IsOther o → Maybe (IsSymbol word) o
  other_symbol word None h = tt
  other_symbol word (Some k) h = λ t. clash _ t h

  looked_up : (word : List ℕ) (o : Option ℕ) → look_up symbols word ≡ o → Maybe (IsSymbol word) (option_map plain o)
  looked_up word None e = tt
  looked_up word (Some c) e = λ t. e

  value_symbol : (word : List ℕ) → Maybe (IsSymbol word) (kind_of_spelling word)
  value_symbol [] = tt
  value_symbol (c ∷ cs) =
      either (Maybe (IsSymbol (c ∷ cs))) (is_xid_start c || c == 95)
      (Some (kind_of_word (encode_utf8_all (c ∷ cs)))) _
      (other_symbol (c ∷ cs) (Some (kind_of_word (encode_utf8_all (c ∷ cs)))) (word_other (encode_utf8_all (c ∷ cs)))) (
      either (Maybe (IsSymbol (c ∷ cs))) (is_ascii_digit c || (c == 46 && not (is_empty cs)))
      (number_of (c ∷ cs)) (option_map plain (look_up symbols (c ∷ cs)))
      (other_symbol (c ∷ cs) (number_of (c ∷ cs)) (number_other (c ∷ cs)))
      (looked_up (c ∷ cs) (look_up symbols (c ∷ cs)) refl))

  -- the token of a word, whose class passes, is the symbol
  pub is_symbol : (word : List ℕ) (k : Kind) → kind_of_spelling word ≡ Some k → test k.class ≡ true
      → look_up symbols word ≡ Some k.class
  is_symbol word k e = subst (Maybe (IsSymbol word)) e (value_symbol word)

  -- ---- where no symbol passes either

  module _ (in_symbols : none_passes test symbols ≡ true) where
    -- the token of no word passes
    pub none_valued : (word : List ℕ) (k : Kind) → kind_of_spelling word ≡ Some k → test k.class ≡ false
    none_valued word k e = false_from_ne_true (test k.class) (λ t. clash _ t (not_true (test k.class)
        (found_passes (λ w c. not (test c)) symbols word k.class in_symbols (is_symbol word k e t))))

    abbrev Front : Raw → Type 0
    Front none_left = Unit {0}
    Front (invalid from after) = Unit {0}
    Front (token k from after) = IsOther k

    valued_other : (text rest word : List ℕ) (o : Option Kind) → kind_of_spelling word ≡ o → Front (valued text rest o)
    valued_other text rest word None e = tt
    valued_other text rest word (Some k) e = none_valued word k e

    spelled_other : (text cs : List ℕ) (o : Option (List ℕ)) → Front (spelled text cs o)
    spelled_other text cs None = tt
    spelled_other text cs (Some rest) = valued_other text rest (front text rest)
        (kind_of_spelling (front text rest)) refl

    at_other : (text : List ℕ) → Front (raw_at text)
    at_other [] = tt
    at_other (c ∷ cs) = spelled_other (c ∷ cs) cs (after_spelling spelling (c ∷ cs))

    -- nor the token at the front of a text
    pub none_at_front : (text from after : List ℕ) (k : Kind) → raw text ≡ token k from after → test k.class ≡ false
    none_at_front text from after k e = subst Front e (at_other (after_trivia outside text))
