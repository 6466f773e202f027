-- The places and the numbers of the tokens of a text fit in 64 bits.
use Rattle.std.proofs.Common.{◌≡◌, ℕ, zero, suc, pos, ◌^◌, ◌<◌, ◌≤◌, Bool, true, false, cond, List, [], ◌∷◌, length, Option, Some, None, refl, subst, arith, ltb-true}
use Rattle.std.specs.Prelude.{codes, bytes_eq, nat_lt, option_map}
use Rattle.std.specs.Int.{w64}
use Rattle.std.specs.Int.RustNames.{FitsSigned}
use Rattle.std.specs.Str.{encode_utf8_all}
use Rattle.grammar.specs.Tokens.{Token, Payload, Payload.nothing, Payload.name, Payload.number}
use Rattle.grammar.specs.Endings.{Ending}
use Rattle.wgsl_model.specs.Tokens.ClassTable.{Ident, ReservedWord, SymUnderscore, AbstractInt, I32, U32, AbstractFloat, F32, F16, TemplateArgsStart, TemplateArgsEnd, symbols, keywords}
use Rattle.wgsl_model.specs.Tokens.Kind.{Kind, plain, named}
use Rattle.wgsl_model.specs.Tokens.Words.{look_up, is_word_among, reserved_words}
use Rattle.wgsl_model.specs.Tokens.Numbers.{whole_number, i_suffix, u_suffix, f_suffix, h_suffix, abstract_float, float, number_below, float_of, number_of, number_value, without_last}
use Rattle.wgsl_model.specs.Tokens.Pattern.{empty, spells, after_spelling}
use Rattle.wgsl_model.specs.Tokens.Spelling.{spelling}
use Rattle.wgsl_model.specs.Tokens.Trivia.{after_trivia, outside}
use Rattle.wgsl_model.specs.Tokens.Raw.{token, raw, raw_at, kind_of_spelling, valued, spelled, front, kind_of_word, keyword_or_name}
use Rattle.wgsl_model.specs.Tokens.TokenList.{TokensOf, at_end, at_fault, before_template, before_more, IsTokenList}
use Rattle.wgsl_model.specs.Tokens.Templates.{TemplateRelation, Inside, at_greater, at_opening, at_closing, at_template, at_other, enclosed, TemplateUpTo}
use Rattle.wgsl_model.specs.Tokens.Places.{place, width}
use Rattle.wgsl_theory_grammar.proofs.Faults.Avoids.{AllOf, all_append}

-- a number that is held fits
abbrev pub PayloadFits : Payload → Type 0
PayloadFits nothing = Unit {0}
PayloadFits (name text) = Unit {0}
PayloadFits (number n) = FitsSigned w64 n

-- the places and the number of a token fit
pub record TokenFits (t : Token) : Type 0 where
  pub start : t.start < 2 ^ 64
  pub end : t.end < 2 ^ 64
  pub payload : PayloadFits t.payload

-- ---- kinds
abbrev KindFits : Kind → Type 0
KindFits k = PayloadFits k.payload

some_kind : (m k : Kind) → KindFits m → Some m ≡ Some k → KindFits k
some_kind m k fits e = let same : m ≡ k = cc in subst KindFits same fits

either_way : (k : Kind) (b : Bool) (x y : Option Kind) → (x ≡ Some k → KindFits k)
    → (y ≡ Some k → KindFits k) → cond b x y ≡ Some k → KindFits k
either_way k true x y f g h = f h
either_way k false x y f g h = g h

below_fits : (class limit n : ℕ) (k : Kind) → limit ≤ 2 ^ 63 → number_below class limit n ≡ Some k → KindFits k
below_fits class limit n k small h = go (nat_lt n limit) refl h where
  go : (b : Bool) → nat_lt n limit ≡ b
      → cond b (Some (record { class = class; payload = number (pos n) })) None ≡ Some k → KindFits k
  go true e f = some_kind (record { class = class; payload = number (pos n) }) k
      (record { sfits = omega (arith, ltb-true n limit e) }) f
  go false e f = absurd (cc)

number_fits : (word : List ℕ) (k : Kind) → number_of word ≡ Some k → KindFits k
number_fits word k =
    either_way k (spells (whole_number empty) word) (number_below AbstractInt (2 ^ 63) (number_value word)) _
    (below_fits AbstractInt (2 ^ 63) (number_value word) k (omega arith))
    (either_way k (spells (whole_number i_suffix) word) (number_below I32 (2 ^ 31) (number_value (without_last word))) _
    (below_fits I32 (2 ^ 31) (number_value (without_last word)) k (omega arith))
    (either_way k (spells (whole_number u_suffix) word) (number_below U32 (2 ^ 32) (number_value (without_last word))) _
    (below_fits U32 (2 ^ 32) (number_value (without_last word)) k (omega arith))
    (either_way k (spells abstract_float word) (float_of AbstractFloat word) _
    (some_kind _ k tt)
    (either_way k (spells (float f_suffix) word) (float_of F32 (without_last word)) _
    (some_kind _ k tt)
    (either_way k (spells (float h_suffix) word) (float_of F16 (without_last word)) None
    (some_kind _ k tt) (λ h. absurd (cc)))))))

name_fits : (b : Bool) (word : List ℕ) → KindFits (cond b (named ReservedWord word) (named Ident word))
name_fits true word = tt
name_fits false word = tt

keyword_fits : (o : Option ℕ) (word : List ℕ) → KindFits (keyword_or_name o word)
keyword_fits (Some c) word = tt
keyword_fits None word = name_fits (is_word_among reserved_words word) word

word_fits : (word : List ℕ) → KindFits (kind_of_word word)
word_fits word = go (bytes_eq word (codes "_")) where
  go : (b : Bool) → KindFits (cond b (plain SymUnderscore) (keyword_or_name (look_up keywords word) word))
  go true = tt
  go false = keyword_fits (look_up keywords word) word

sign_fits : (o : Option ℕ) (k : Kind) → option_map plain o ≡ Some k → KindFits k
sign_fits None k h = absurd (cc)
sign_fits (Some c) k h = some_kind (plain c) k tt h

value_fits : (word : List ℕ) (k : Kind) → kind_of_spelling word ≡ Some k → KindFits k
value_fits [] k h = absurd (cc)
value_fits (c ∷ cs) k h =
    either_way k _ _ _ (some_kind _ k (word_fits (encode_utf8_all (c ∷ cs))))
    (either_way k _ (number_of (c ∷ cs)) (option_map plain (look_up symbols (c ∷ cs)))
    (number_fits (c ∷ cs) k) (sign_fits (look_up symbols (c ∷ cs)) k)) h

-- ---- the token at the front of a text
valued_fits : (o : Option Kind) (text rest from after : List ℕ) (k : Kind)
    → ((m : Kind) → o ≡ Some m → KindFits m) → valued text rest o ≡ token k from after → KindFits k
valued_fits None text rest from after k fits e = absurd (cc)
valued_fits (Some m) text rest from after k fits e =
    let same : m ≡ k = cc in subst KindFits same (fits m refl)

spelled_fits : (o : Option (List ℕ)) (text cs from after : List ℕ) (k : Kind)
    → spelled text cs o ≡ token k from after → KindFits k
spelled_fits None text cs from after k h = absurd (cc)
spelled_fits (Some rest) text cs from after k h =
    valued_fits (kind_of_spelling (front text rest)) text rest from after k (value_fits (front text rest)) h

raw_at_fits : (text from after : List ℕ) (k : Kind) → raw_at text ≡ token k from after → KindFits k
raw_at_fits [] from after k h = absurd (cc)
raw_at_fits (c ∷ cs) from after k h = spelled_fits (after_spelling spelling (c ∷ cs)) (c ∷ cs) cs from after k h

-- ---- the tokens of a text
abbrev pub AllFit : List Token → Type 0
AllFit = AllOf TokenFits

module _ (total : ℕ) (small : total < 2 ^ 64) where
  place_fits : (text : List ℕ) → place total text < 2 ^ 64
  place_fits text = omega (arith, small)

  one_fits : (text from after : List ℕ) (k : Kind) → raw text ≡ token k from after
      → TokenFits (record { class = k.class; payload = k.payload; start = place total from; end = place total after })
  one_fits text from after k h = record {
    start = place_fits from;
    end = place_fits after;
    payload = raw_at_fits (after_trivia outside text) from after k h;
  }

  mark_fits : (c : ℕ) (from after : List ℕ)
      → TokenFits (record { class = c; payload = nothing; start = place total from; end = place total after })
  mark_fits c from after = record { start = place_fits from; end = place_fits after; payload = tt }

  abbrev FitBy : TemplateRelation → Type 0
  FitBy R = (text : List ℕ) (ts : List Token) (rest : List ℕ) → R text ts rest → AllFit ts

  inside_fit : (R : TemplateRelation) → FitBy R → (depth : ℕ) (text : List ℕ) (ts : List Token) (end : List ℕ)
      → Inside total R depth text ts end → AllFit ts
  inside_fit R s depth text ts end (at_greater t e after k r g) = tt
  inside_fit R s depth text ts end (at_opening d t from after e k us r g h) =
      (one_fits t from after k r, inside_fit R s (suc d) after us e h)
  inside_fit R s depth text ts end (at_closing d t from after e k us r g h) =
      (one_fits t from after k r, inside_fit R s d after us e h)
  inside_fit R s depth text ts end (at_template d t from after rest e k us vs r w m h) =
      (one_fits t from after k r, all_append TokenFits us vs (s after us rest m) (inside_fit R s d rest vs e h))
  inside_fit R s depth text ts end (at_other d t from after e k us r g n h) =
      (one_fits t from after k r, inside_fit R s d after us e h)

  template_fits : (bound : ℕ) → FitBy (TemplateUpTo bound total)
  template_fits zero text ts rest h = absurd h
  template_fits (suc bound) text ts rest (enclosed t from after end k us v r c h d) = (
    mark_fits TemplateArgsStart _ _,
    all_append TokenFits us _ (inside_fit (TemplateUpTo bound total) (template_fits bound) 0 after us end h)
        (mark_fits TemplateArgsEnd _ _, tt),
  )

  tokens_fit : (text : List ℕ) (ts : List Token) (e : Ending) → TokensOf total text ts e → AllFit ts
  tokens_fit text ts e (at_end s h) = tt
  tokens_fit text ts e (at_fault s from after h) = tt
  tokens_fit text ts e (before_template s from after rest k us vs f h w t more) = (
    one_fits s from after k h,
    all_append TokenFits us vs (template_fits (length after) after us rest t) (tokens_fit rest vs f more),
  )
  tokens_fit text ts e (before_more s from after k us f h n more) =
      (one_fits s from after k h, tokens_fit after us f more)

-- of a text whose number of bytes fits
pub text_fits : (source : List ℕ) (ts : List Token) (e : Ending) → width source < 2 ^ 64
    → IsTokenList source ts e → AllFit ts
text_fits source ts e small h = tokens_fit (width source) small source ts e h
