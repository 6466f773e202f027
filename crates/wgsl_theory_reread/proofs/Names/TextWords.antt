-- The words among the tokens of a text have the classes of their spellings.
use Rattle.std.proofs.Common.{◌≡◌, ℕ, zero, suc, Bool, true, false, cond, List, [], ◌∷◌, ◌++◌, map, length, Option, Some, None, refl, sym, ap, subst, ◌∙◌}
use Rattle.std.specs.Prelude.{codes, bytes_eq, nat_lt, option_map, pos, ◌^◌}
use Rattle.std.specs.Str.{encode_utf8_all}
use Rattle.std.proofs.lemmas.Bool.{true≢false}
use Rattle.grammar.specs.Tokens.{Token, Payload.number}
use Rattle.grammar.specs.Grammar.{is_among}
use Rattle.grammar.specs.Endings.{Ending}
use Rattle.wgsl_model.specs.Tokens.ClassTable.{Ident, ReservedWord, SymUnderscore, AbstractInt, I32, U32, AbstractFloat, F32, F16, symbols, keywords}
use Rattle.wgsl_model.specs.Tokens.Kind.{Kind, plain, named}
use Rattle.wgsl_model.specs.Tokens.Words.{look_up, is_word_among, reserved_words}
use Rattle.wgsl_model.specs.Tokens.Texts.{word_in}
use Rattle.wgsl_model.specs.Trees.NamedValues.{WordTable}
use Rattle.wgsl_model.specs.Tokens.Numbers.{whole_number, i_suffix, u_suffix, f_suffix, h_suffix, abstract_float, float, number_below, float_of, number_of, number_value, without_last}
use Rattle.wgsl_model.specs.Tokens.Pattern.{empty, spells, after_spelling}
use Rattle.wgsl_model.specs.Tokens.Spelling.{spelling}
use Rattle.wgsl_model.specs.Tokens.Trivia.{after_trivia, outside}
use Rattle.wgsl_model.specs.Tokens.Raw.{token, raw, raw_at, kind_of_spelling, valued, spelled, front, kind_of_word, keyword_or_name}
use Rattle.wgsl_model.specs.Grammar.TokenValues as values
use Rattle.wgsl_model.specs.Tokens.TokenList.{TokensOf, at_end, at_fault, before_template, before_more, IsTokenList}
use Rattle.wgsl_model.specs.Tokens.Templates.{TemplateRelation, Inside, at_greater, at_opening, at_closing, at_template, at_other, enclosed, TemplateUpTo}
use Rattle.wgsl_model.specs.Tokens.Places.{width}
use Rattle.wgsl_model.specs.Grammar.Written.{keyword_classes}
use Rattle.wgsl_theory_reread.proofs.Words.{NoPeriod, AllWords}
use Rattle.wgsl_theory_reread.proofs.Names.NamedWords.{named_word}

-- ---- kinds of tokens
-- the kind of a word
abbrev pub IsNamed : Kind → Type 0
IsNamed k = is_among k.class (Ident ∷ ReservedWord ∷ keyword_classes) ≡ true

-- the word of a kind
abbrev pub text_in : Kind → List ℕ
text_in k = values.word_of k.class k.payload

-- a word at the front of a text has no `.`
abbrev pub WordsArePlain : Type 0
WordsArePlain = (text rest : List ℕ) (kind : Kind) → after_spelling spelling text ≡ Some rest
    → kind_of_spelling (front text rest) ≡ Some kind → IsNamed kind → NoPeriod (text_in kind)

-- the kind of a word has its text
name_text : (b : Bool) (word : List ℕ) → text_in (cond b (named ReservedWord word) (named Ident word)) ≡ word
name_text true word = refl
name_text false word = refl

keyword_text : (o : Option ℕ) (word : List ℕ) → look_up keywords word ≡ o → text_in (keyword_or_name o word) ≡ word
keyword_text (Some c) word h = named_word (λ class. word_in keywords class) keywords refl word c h
keyword_text None word h = name_text (is_word_among reserved_words word) word

pub word_text : (word : List ℕ) → IsNamed (kind_of_word word) → text_in (kind_of_word word) ≡ word
word_text word h = go (bytes_eq word (codes "_")) h where
  go : (b : Bool) → IsNamed (cond b (plain SymUnderscore) (keyword_or_name (look_up keywords word) word))
      → text_in (cond b (plain SymUnderscore) (keyword_or_name (look_up keywords word) word)) ≡ word
  go true e = absurd (cc)
  go false e = keyword_text (look_up keywords word) word refl

-- what holds of a value that is one of two
either_way : (P : Kind → Type 0) {k : Kind} (b : Bool) (x y : Option Kind) → (x ≡ Some k → P k)
    → (y ≡ Some k → P k) → cond b x y ≡ Some k → P k
either_way P true x y f g h = f h
either_way P false x y f g h = g h

-- a number is no word
abbrev NotNamed : Kind → Type 0
NotNamed k = is_among k.class (Ident ∷ ReservedWord ∷ keyword_classes) ≡ false

below_class : (class limit n : ℕ) (k : Kind) → number_below class limit n ≡ Some k → k.class ≡ class
below_class class limit n k h = go (nat_lt n limit) h where
  go : (b : Bool) → cond b (Some (record { class = class; payload = number (pos n) })) None ≡ Some k → k.class ≡ class
  go true e =
      let same : record { class = class; payload = number (pos n) } ≡ k = cc in
      sym (ap (λ (z : Kind). z.class) same)
  go false e = absurd (cc)

whole_unnamed : (class limit n : ℕ) (k : Kind)
    → is_among class (Ident ∷ ReservedWord ∷ keyword_classes) ≡ false
    → number_below class limit n ≡ Some k → NotNamed k
whole_unnamed class limit n k u h =
    ap (λ (c : ℕ). is_among c (Ident ∷ ReservedWord ∷ keyword_classes)) (below_class class limit n k h) ∙ u

float_unnamed : (class : ℕ) (word : List ℕ) (k : Kind)
    → is_among class (Ident ∷ ReservedWord ∷ keyword_classes) ≡ false → float_of class word ≡ Some k
    → NotNamed k
float_unnamed class word k u h =
    let same : named class (encode_utf8_all word) ≡ k = cc in
    sym (ap (λ (z : Kind). is_among z.class (Ident ∷ ReservedWord ∷ keyword_classes)) same) ∙ u

pub number_unnamed : (word : List ℕ) (k : Kind) → number_of word ≡ Some k → NotNamed k
number_unnamed word k =
    either_way NotNamed (spells (whole_number empty) word)
    (number_below AbstractInt (2 ^ 63) (number_value word)) _
    (whole_unnamed AbstractInt (2 ^ 63) (number_value word) k refl)
    (either_way NotNamed (spells (whole_number i_suffix) word) (number_below I32 (2 ^ 31)
    (number_value (without_last word))) _ (whole_unnamed I32 (2 ^ 31) (number_value (without_last word)) k refl)
    (either_way NotNamed (spells (whole_number u_suffix) word) (number_below U32 (2 ^ 32)
    (number_value (without_last word))) _ (whole_unnamed U32 (2 ^ 32) (number_value (without_last word)) k refl)
    (either_way NotNamed (spells abstract_float word) (float_of AbstractFloat word) _
    (float_unnamed AbstractFloat word k refl)
    (either_way NotNamed (spells (float f_suffix) word) (float_of F32 (without_last word)) _
    (float_unnamed F32 (without_last word) k refl)
    (either_way NotNamed (spells (float h_suffix) word) (float_of F16 (without_last word)) None
    (float_unnamed F16 (without_last word) k refl) (λ h. absurd (cc)))))))

-- a symbol is no word
abbrev NoneNamed : WordTable ℕ → Type 0
NoneNamed table =
    map (λ (entry : List ℕ × ℕ). is_among entry.1 (Ident ∷ ReservedWord ∷ keyword_classes)) table
    ≡ map (λ (entry : List ℕ × ℕ). false) table

found_unnamed : (table : WordTable ℕ) → NoneNamed table → (word : List ℕ) (c : ℕ)
    → look_up table word ≡ Some c → NotNamed (plain c)
found_unnamed [] n word c h = absurd (cc)
found_unnamed (entry ∷ entries) n word c h = go (found_unnamed entries (cc) word c) (bytes_eq entry.0 word) h where
  go : (look_up entries word ≡ Some c → NotNamed (plain c)) → (b : Bool)
      → cond b (Some entry.1) (look_up entries word) ≡ Some c → NotNamed (plain c)
  go others true e =
      let same : entry.1 ≡ c = cc in
      let this : is_among entry.1 (Ident ∷ ReservedWord ∷ keyword_classes) ≡ false = cc in
      subst (λ (z : ℕ). NotNamed (plain z)) same this
  go others false e = others e

pub sign_unnamed : (word : List ℕ) (k : Kind) → option_map plain (look_up symbols word) ≡ Some k → NotNamed k
sign_unnamed word k h = go (look_up symbols word) refl h where
  go : (o : Option ℕ) → look_up symbols word ≡ o → option_map plain o ≡ Some k → NotNamed k
  go None e f = absurd (cc)
  go (Some c) e f = let same : plain c ≡ k = cc in subst NotNamed same (found_unnamed symbols refl word c e)

-- ---- spellings
-- a word is the kind of its text
abbrev pub IsOwnWord : Kind → Type 0
IsOwnWord k = IsNamed k → k ≡ kind_of_word (text_in k)

unnamed_word : (k : Kind) → NotNamed k → IsOwnWord k
unnamed_word k n h = absurd (true≢false (sym h ∙ n))

word_own : (word : List ℕ) → IsOwnWord (kind_of_word word)
word_own word h = ap kind_of_word (sym (word_text word h))

pub value_own : (word : List ℕ) (k : Kind) → kind_of_spelling word ≡ Some k → IsOwnWord k
value_own [] k h = absurd (cc)
value_own (c ∷ cs) k h =
    either_way IsOwnWord _ (Some (kind_of_word (encode_utf8_all (c ∷ cs)))) _
    (λ e. let same : kind_of_word (encode_utf8_all (c ∷ cs)) ≡ k = cc in subst IsOwnWord same
    (word_own (encode_utf8_all (c ∷ cs))))
    (either_way IsOwnWord _ (number_of (c ∷ cs)) (option_map plain (look_up symbols (c ∷ cs)))
    (λ e. unnamed_word k (number_unnamed (c ∷ cs) k e)) (λ e. unnamed_word k (sign_unnamed (c ∷ cs) k e)))
    h

-- ---- the token at the front of a text
abbrev IsWordKind : Kind → Type 0
IsWordKind k = IsNamed k → (k ≡ kind_of_word (text_in k)) × NoPeriod (text_in k)

pub valued_kind : (o : Option Kind) (text rest from after : List ℕ) (k : Kind)
    → valued text rest o ≡ token k from after → o ≡ Some k
valued_kind None text rest from after k e = absurd (cc)
valued_kind (Some m) text rest from after k e = cc

spelled_kind : WordsArePlain → (o : Option (List ℕ)) (c : ℕ) (cs from after : List ℕ) (k : Kind)
    → after_spelling spelling (c ∷ cs) ≡ o → spelled (c ∷ cs) cs o ≡ token k from after → IsWordKind k
spelled_kind plain_words None c cs from after k e h n = absurd (cc)
spelled_kind plain_words (Some rest) c cs from after k e h n =
    let found : kind_of_spelling (front (c ∷ cs) rest) ≡ Some k =
    valued_kind (kind_of_spelling (front (c ∷ cs) rest)) (c ∷ cs) rest from after k h in
    (value_own (front (c ∷ cs) rest) k found n, plain_words (c ∷ cs) rest k e found n)

raw_at_kind : WordsArePlain → (text from after : List ℕ) (k : Kind) → raw_at text ≡ token k from after → IsWordKind k
raw_at_kind plain_words [] from after k h = absurd (cc)
raw_at_kind plain_words (c ∷ cs) from after k h = spelled_kind plain_words
    (after_spelling spelling (c ∷ cs)) c cs from after k refl h

raw_kind : WordsArePlain → (text from after : List ℕ) (k : Kind) → raw text ≡ token k from after → IsWordKind k
raw_kind plain_words text from after k h = raw_at_kind plain_words (after_trivia outside text) from after k h

-- ---- the tokens of a text
words_before : (ts us : List Token) → AllWords ts → AllWords us → AllWords (ts ++ us)
words_before [] us h k = k
words_before (t ∷ ts) us h k = (h.0, words_before ts us h.1 k)

-- the tokens of template lists
abbrev HasWords : TemplateRelation → Type 0
HasWords R = (text : List ℕ) (ts : List Token) (rest : List ℕ) → R text ts rest → AllWords ts

inside_words : WordsArePlain → (total : ℕ) (R : TemplateRelation) → HasWords R
    → (depth : ℕ) (text : List ℕ) (ts : List Token) (end : List ℕ)
    → Inside total R depth text ts end → AllWords ts
inside_words p total R s depth text ts end (at_greater t e after k r g) = tt
inside_words p total R s depth text ts end (at_opening d t from after e k us r g h) =
    (raw_kind p t from after k r, inside_words p total R s (suc d) after us e h)
inside_words p total R s depth text ts end (at_closing d t from after e k us r g h) =
    (raw_kind p t from after k r, inside_words p total R s d after us e h)
inside_words p total R s depth text ts end (at_template d t from after rest e k us vs r w m h) =
    (raw_kind p t from after k r, words_before us vs (s after us rest m) (inside_words p total R s d rest vs e h))
inside_words p total R s depth text ts end (at_other d t from after e k us r g n h) =
    (raw_kind p t from after k r, inside_words p total R s d after us e h)

template_words : WordsArePlain → (bound total : ℕ) → HasWords (TemplateUpTo bound total)
template_words p zero total text ts rest h = absurd h
template_words p (suc bound) total text ts rest (enclosed t from after end k us v r c h d) = (
  λ n. absurd (cc),
  words_before us _
      (inside_words p total (TemplateUpTo bound total) (template_words p bound total) 0 after us end h)
      (λ n. absurd (cc), tt),
)

tokens_words : WordsArePlain → (total : ℕ) (text : List ℕ) (ts : List Token) (e : Ending)
    → TokensOf total text ts e → AllWords ts
tokens_words p total text ts e (at_end s h) = tt
tokens_words p total text ts e (at_fault s from after h) = tt
tokens_words p total text ts e (before_template s from after rest k us vs f h w t more) = (
  raw_kind p s from after k h,
  words_before us vs (template_words p (length after) total after us rest t)
      (tokens_words p total rest vs f more),
)
tokens_words p total text ts e (before_more s from after k us f h n more) =
    (raw_kind p s from after k h, tokens_words p total after us f more)

pub text_words : WordsArePlain → (source : List ℕ) (ts : List Token) (e : Ending)
    → IsTokenList source ts e → AllWords ts
text_words p source ts e h = tokens_words p (width source) source ts e h
