-- What the tokens of a text hold: words and literals are spelled as they are printed.
use Rattle.std.proofs.Common.{◌≡◌, ℕ, zero, suc, ◌^◌, ◌<◌, ◌==◌, ◌||◌, Bool, true, false, cond, not, refl, sym, ap, subst, List, [], ◌∷◌, ◌++◌, length, Option, Some, None, ◌∙◌, arith}
use Rattle.std.specs.Prelude.{pos, nat_lt, codes, bytes_eq, option_map, ◌&&◌}
use Rattle.std.specs.Char.{is_ascii_digit}
use Rattle.std.specs.Str.{chars, encode_utf8_all}
use lib.Utf8.{encode}
use Rattle.std.proofs.lemmas.Bool.{ltb-true, eqb-true, and_parts, true≢false, not-true}
use Rattle.std.proofs.lemmas.Bool.Decides.{nat_tests}
use Rattle.std.proofs.lemmas.Str.{chars-encodes, encodes-append}
use Rattle.grammar.specs.Tokens.{Token, Payload.number}
use Rattle.grammar.specs.Grammar.{is_among}
use Rattle.grammar.specs.Endings.{Ending}
use Rattle.grammar.specs.Tables.{is_empty}
use Rattle.wgsl_model.specs.Tokens.Characters.{is_blank}
use Rattle.wgsl_model.specs.Tokens.ClassTable.{Ident, ReservedWord, AbstractInt, I32, U32, AbstractFloat, F32, F16, KwTrue, KwFalse, SymUnderscore, TemplateArgsStart, TemplateArgsEnd, symbols, keywords}
use Rattle.wgsl_model.specs.Trees.Expressions.{LiteralExpression, boolean}
use Rattle.wgsl_model.specs.Tokens.Kind.{Kind, plain, named, placed}
use Rattle.wgsl_model.specs.Tokens.Words.{look_up, is_word_among, reserved_words}
use Rattle.wgsl_model.specs.Tokens.Texts.{word_in}
use Rattle.wgsl_model.specs.Tokens.Numbers.{whole_number, i_suffix, u_suffix, f_suffix, h_suffix, abstract_float, float, float_of, number_value, number_of, without_last, number_below}
use Rattle.wgsl_model.specs.Tokens.Pattern.{empty, spells, after_spelling}
use Rattle.wgsl_model.specs.Tokens.Spelling.{spelling}
use Rattle.wgsl_model.specs.Tokens.Raw.{Raw.token, raw, raw_at, kind_of_spelling, spelled, front, kind_of_word, keyword_or_name}
use Rattle.wgsl_model.specs.Tokens.TokenList.{TokensOf, at_end, at_fault, before_template, before_more}
use Rattle.wgsl_model.specs.Tokens.Templates.{TemplateRelation, Inside, at_greater, at_opening, at_closing, at_template, at_other, enclosed, TemplateUpTo}
use Rattle.wgsl_model.specs.Grammar.TokenValues as values
use Rattle.wgsl_model.specs.Grammar.TokenValues.{literal_of}
use Rattle.wgsl_model.specs.Tokens.Trivia.{after_trivia, outside}
use Rattle.wgsl_model.specs.Grammar.Written.{keyword_classes}
use Rattle.wgsl_theory_grammar.proofs.Faults.Avoids.{AllOf, all_append}
use Rattle.wgsl_theory_reread.specs.CanonicalUnits.{without_place}
use Rattle.wgsl_theory_reread.proofs.EachRule.ExpressionRules.{literal_classes}
use Rattle.wgsl_theory_reread.proofs.Names.TextWords.{valued_kind}
use Rattle.wgsl_model.proofs.Tokens.Fronts.{front-append}
use Rattle.wgsl_model.proofs.Tokens.Characters.{other_than}
use Rattle.wgsl_theory_printed.proofs.Spelling.Cut.{longest_spelling}
use Rattle.wgsl_theory_printed.proofs.Spelling.Numerals.{integer_spelled, signed_spelled, unsigned_spelled, without_last-append}
use Rattle.wgsl_theory_printed.proofs.Spelling.Scalars.{spelled_scalars}
use Rattle.wgsl_theory_printed.proofs.Spelling.Spellings.{IsSpelling, IsSpelled}
use Rattle.wgsl_theory_printed.proofs.Spelling.Split.{spelled_last}
use Rattle.wgsl_theory_printed.proofs.Spelling.Signs.{begins_name}
use Rattle.wgsl_theory_printed.proofs.Spelling.Ends.{IsNameText}
use Rattle.wgsl_theory_printed.proofs.Fits.FittingWords.{looked_up_below, word_class}
use Rattle.wgsl_theory_printed.proofs.Fits.SoundExpressions.{IsNumberText, IsSoundLiteral}
use Rattle.wgsl_theory_reread.proofs.Names.NamedWords.{named_word}

-- the classes of words and of literals
abbrev pub word_classes : List ℕ
word_classes = Ident ∷ ReservedWord ∷ keyword_classes

-- what a token of a text holds
pub record IsScanned (k : Kind) : Type 0 where
  pub words : is_among k.class word_classes ≡ true → IsNameText (values.word_of k.class k.payload)
  pub literals : is_among k.class literal_classes ≡ true → IsSoundLiteral (literal_of (placed k 0 0))

-- ---- words

-- the kind of a word has its text
name_text : (b : Bool) (word : List ℕ) → (values.word_of (cond b (named ReservedWord word)
    (named Ident word)).class (cond b (named ReservedWord word) (named Ident word)).payload) ≡ word
name_text true word = refl
name_text false word = refl

keyword_text : (o : Option ℕ) (word : List ℕ) → look_up keywords word ≡ o
    → values.word_of (keyword_or_name o word).class (keyword_or_name o word).payload ≡ word
keyword_text (Some c) word h = named_word (λ class. word_in keywords class) keywords refl word c h
keyword_text None word h = name_text (is_word_among reserved_words word) word

word_text : (word : List ℕ) → is_among (kind_of_word word).class word_classes ≡ true
    → values.word_of (kind_of_word word).class (kind_of_word word).payload ≡ word
word_text word h = go (bytes_eq word (codes "_")) h where
  go : (b : Bool)
      → is_among (cond b (plain SymUnderscore) (keyword_or_name (look_up keywords word) word)).class word_classes ≡ true
      → values.word_of (cond b (plain SymUnderscore) (keyword_or_name (look_up keywords word) word)).class
      (cond b (plain SymUnderscore) (keyword_or_name (look_up keywords word) word)).payload ≡ word
  go true e = absurd (cc)
  go false e = keyword_text (look_up keywords word) word refl

-- a word that is a literal is `true` or `false`
low_literal : (k : Kind) → k.class < AbstractInt → is_among k.class literal_classes ≡ true
    → IsSoundLiteral (literal_of (placed k 0 0))
low_literal k h m = go _ (k.class == KwTrue) (k.class == KwFalse) (k.class == AbstractInt)
    (k.class == I32) (k.class == U32) (k.class == AbstractFloat) (k.class == F32)
    (k.class == F16) refl refl refl refl refl refl m
  where
    go : (l : LiteralExpression) (a b d e f g i j : Bool) → (k.class == AbstractInt) ≡ d
        → (k.class == I32) ≡ e → (k.class == U32) ≡ f → (k.class == AbstractFloat) ≡ g
        → (k.class == F32) ≡ i → (k.class == F16) ≡ j
        → cond a true (cond b true (cond d true
        (cond e true (cond f true (cond g true (cond i true (cond j true false))))))) ≡ true
        → IsSoundLiteral (cond a (boolean true) (cond b (boolean false) l))
    go l true b d e f g i j u v w x y z q = tt
    go l false true d e f g i j u v w x y z q = tt
    go l false false true e f g i j u v w x y z q = absurd (omega (arith, h, eqb-true k.class AbstractInt u))
    go l false false false true f g i j u v w x y z q = absurd (omega (arith, h, eqb-true k.class I32 v))
    go l false false false false true g i j u v w x y z q = absurd (omega (arith, h, eqb-true k.class U32 w))
    go l false false false false false true i j u v w x y z q =
        absurd (omega (arith, h, eqb-true k.class AbstractFloat x))
    go l false false false false false false true j u v w x y z q = absurd (omega (arith, h, eqb-true k.class F32 y))
    go l false false false false false false false true u v w x y z q =
        absurd (omega (arith, h, eqb-true k.class F16 z))
    go l false false false false false false false false u v w x y z q = absurd (cc)

-- the text of characters that are a word
text_of_word : (k : Kind) (w : List ℕ) → IsSpelling k w → IsSpelled k (encode_utf8_all w)
text_of_word k w h =
    let s = spelled_scalars w h.spelled in
    record { utf8 = (w, (s, refl)); word = subst (IsSpelling k) (sym (chars-encodes w s)) h }

-- an identifier, a keyword, a reserved word or `_`
word_scanned : (c : ℕ) (cs : List ℕ) → begins_name c ≡ true → spells spelling (c ∷ cs) ≡ true
    → IsScanned (kind_of_word (encode_utf8_all (c ∷ cs)))
word_scanned c cs b h =
    let bytes = encode_utf8_all (c ∷ cs) in
    let s = spelled_scalars (c ∷ cs) h in
    let named_text : IsNameText bytes = record {
      utf8 = (c ∷ cs, (s, refl));
      first = c;
      others = cs;
      characters = chars-encodes (c ∷ cs) s;
      begins = b;
      spelled = h;
    } in
    record {
      words = λ m. subst IsNameText (sym (word_text bytes m)) named_text;
      literals = low_literal (kind_of_word bytes) (word_class bytes);
    }

-- ---- numbers

-- the value of the characters of a number
number_text : (k : Kind) (text : List ℕ) → ReservedWord < k.class → IsSpelled k text → IsNumberText k text
number_text k text h n = go (chars text) refl n.word
  where
    go : (w : List ℕ) → chars text ≡ w → IsSpelling k w → IsNumberText k text
    go [] e s = absurd s.begins
    go (c ∷ cs) e s = by (begins_name c) (is_ascii_digit c || (c == 46 && not (is_empty cs))) refl refl s.valued
      where
        by : (a b : Bool) → begins_name c ≡ a → (is_ascii_digit c || (c == 46 && not (is_empty cs))) ≡ b
            → cond a (Some (kind_of_word (encode_utf8_all (c ∷ cs)))) (cond b (number_of (c ∷ cs))
            (option_map plain (look_up symbols (c ∷ cs)))) ≡ Some k → IsNumberText k text
        by true b x y v =
            let same : kind_of_word (encode_utf8_all (c ∷ cs)) ≡ k = cc in absurd
            (omega (arith, h, ap (λ (z : Kind). z.class) same, word_class (encode_utf8_all (c ∷ cs))))
        by false true x y v = record {
          utf8 = n.utf8;
          first = c;
          others = cs;
          characters = e;
          begins = begins_so (is_ascii_digit c) refl y;
          spelling = s;
          numbered = v;
        }
          where
            begins_so : (d : Bool) → is_ascii_digit c ≡ d
                → (d || (c == 46 && not (is_empty cs))) ≡ true → (is_ascii_digit c || c == 46) ≡ true
            begins_so true p q = rw p refl
            begins_so false p q = rw (p, (and_parts (c == 46) _ q).0) refl
        by false false x y v = symbol_low (look_up symbols (c ∷ cs)) refl v
          where
            symbol_low : (o : Option ℕ) → look_up symbols (c ∷ cs) ≡ o → option_map plain o ≡ Some k
                → IsNumberText k text
            symbol_low None p q = absurd (cc)
            symbol_low (Some d) p q =
                let same : plain d ≡ k = cc in absurd
                (omega (arith, h, ap (λ (z : Kind). z.class) same, looked_up_below symbols (c ∷ cs) d refl p))

-- a number is no word
number_made : (k : Kind) → is_among k.class word_classes ≡ false
    → IsSoundLiteral (literal_of (placed k 0 0)) → IsScanned k
number_made k n h = record { words = λ e. absurd (true≢false (sym e ∙ n)); literals = λ m. h }

below_scanned : (class limit n : ℕ) (kind : Kind)
    → ((m : ℕ) → m < limit → IsScanned (record { class = class; payload = number (pos m) }))
    → number_below class limit n ≡ Some kind → IsScanned kind
below_scanned class limit n kind made h = go (nat_lt n limit) refl h
  where
    go : (b : Bool) → nat_lt n limit ≡ b
        → cond b (Some (record { class = class; payload = number (pos n) })) None ≡ Some kind
        → IsScanned kind
    go true e f =
        let same : record { class = class; payload = number (pos n) } ≡ kind = cc in
        subst IsScanned same (made n (ltb-true n limit e))
    go false e f = absurd (cc)

-- a float without suffix
float_scanned : (word : List ℕ) (kind : Kind) → IsSpelling kind word
    → float_of AbstractFloat word ≡ Some kind → IsScanned kind
float_scanned word kind h e =
    let same : named AbstractFloat (encode_utf8_all word) ≡ kind = cc in
    subst IsScanned same (number_made _ refl (number_text _ _ (omega arith)
    (text_of_word _ word (subst (λ (k : Kind). IsSpelling k word) (sym same) h))))

-- a word with its suffix is spelled as it is printed: the text without the suffix, and the suffix
suffixed : (k : Kind) (word : List ℕ) (d : ℕ) → IsSpelling k word → (before : List ℕ)
    → word ≡ before ++ (d ∷ []) → encode_utf8_all (d ∷ []) ≡ d ∷ []
    → IsSpelled k (encode_utf8_all (without_last word) ++ (d ∷ []))
suffixed k word d h before e one =
    let without : without_last word ≡ before = ap without_last e ∙ without_last-append before d in
    let text : encode_utf8_all word ≡ encode_utf8_all (without_last word) ++ (d ∷ []) =
    ap encode_utf8_all e ∙ encodes-append before (d ∷ []) ∙ ap (λ (x : List ℕ). encode_utf8_all before ++ x) one
    ∙ ap (λ (x : List ℕ). encode_utf8_all x ++ (d ∷ [])) (sym without) in
    subst (IsSpelled k) text (text_of_word k word h)

f_is : encode_utf8_all (codes "f") ≡ codes "f"
unfolding encode
f_is = refl

h_is : encode_utf8_all (codes "h") ≡ codes "h"
unfolding encode
h_is = refl

f_scanned : (word : List ℕ) (kind : Kind) → IsSpelling kind word → spells (float f_suffix) word ≡ true
    → float_of F32 (without_last word) ≡ Some kind → IsScanned kind
f_scanned word kind h s e =
    let same : named F32 (encode_utf8_all (without_last word)) ≡ kind = cc in
    let last = spelled_last 102 (float f_suffix) ((λ c x. x), (λ c x. x)) word s in
    subst IsScanned same (number_made _ refl (number_text _ _ (omega arith)
    (suffixed _ word 102 (subst (λ (k : Kind). IsSpelling k word) (sym same) h) last.0 last.1 f_is)))

h_scanned : (word : List ℕ) (kind : Kind) → IsSpelling kind word → spells (float h_suffix) word ≡ true
    → float_of F16 (without_last word) ≡ Some kind → IsScanned kind
h_scanned word kind h s e =
    let same : named F16 (encode_utf8_all (without_last word)) ≡ kind = cc in
    let last = spelled_last 104 (float h_suffix) ((λ c x. x), (λ c x. x)) word s in
    subst IsScanned same (number_made _ refl (number_text _ _ (omega arith)
    (suffixed _ word 104 (subst (λ (k : Kind). IsSpelling k word) (sym same) h) last.0 last.1 h_is)))

number_scanned : (word : List ℕ) (kind : Kind) → IsSpelling kind word → number_of word ≡ Some kind → IsScanned kind
number_scanned word kind w h = go (spells (whole_number empty) word) (spells (whole_number i_suffix) word)
    (spells (whole_number u_suffix) word) (spells abstract_float word)
    (spells (float f_suffix) word) (spells (float h_suffix) word) refl refl h
  where
    go : (a b c d e f : Bool) → spells (float f_suffix) word ≡ e → spells (float h_suffix) word ≡ f
        → cond a (number_below AbstractInt (2 ^ 63) (number_value word)) (cond b (number_below I32 (2 ^ 31)
        (number_value (without_last word))) (cond c (number_below U32 (2 ^ 32) (number_value (without_last word)))
        (cond d (float_of AbstractFloat word) (cond e (float_of F32 (without_last word))
        (cond f (float_of F16 (without_last word)) None))))) ≡ Some kind → IsScanned kind
    go true b c d e f x y z = below_scanned AbstractInt (2 ^ 63) (number_value word) kind
        (λ m l. number_made _ refl (number_text _ _ (omega arith) (integer_spelled m l))) z
    go false true c d e f x y z = below_scanned I32 (2 ^ 31) (number_value (without_last word)) kind
        (λ m l. number_made _ refl (number_text _ _ (omega arith) (signed_spelled m l))) z
    go false false true d e f x y z = below_scanned U32 (2 ^ 32) (number_value (without_last word))
        kind (λ m l. number_made _ refl (number_text _ _ (omega arith) (unsigned_spelled m l))) z
    go false false false true e f x y z = float_scanned word kind w z
    go false false false false true f x y z = f_scanned word kind w x z
    go false false false false false true x y z = h_scanned word kind w y z
    go false false false false false false x y z = absurd (cc)

-- ---- each token of a text

-- a symbol holds nothing
abbrev no_words : List (List ℕ × ℕ) → Bool
no_words [] = true
no_words (e ∷ es) = not (is_among e.1 word_classes) && no_words es

symbol_no_word : (es : List (List ℕ × ℕ)) (w : List ℕ) (c : ℕ) → no_words es ≡ true
    → look_up es w ≡ Some c → is_among c word_classes ≡ false
symbol_no_word [] w c s h = absurd (cc)
symbol_no_word (e ∷ es) w c s h = go (symbol_no_word es w c parts.1) (bytes_eq e.0 w) h
  where
    parts : (not (is_among e.1 word_classes) ≡ true) × (no_words es ≡ true)
    parts = and_parts (not (is_among e.1 word_classes)) (no_words es) s

    go : (look_up es w ≡ Some c → is_among c word_classes ≡ false) → (b : Bool)
        → cond b (Some e.1) (look_up es w) ≡ Some c → is_among c word_classes ≡ false
    go more true k =
        let same : e.1 ≡ c = cc in subst (λ d. is_among d word_classes ≡ false) same
        (not-true (is_among e.1 word_classes) parts.0)
    go more false k = more k

sign_scanned : (o : Option ℕ) (word : List ℕ) (kind : Kind) → look_up symbols word ≡ o
    → option_map plain o ≡ Some kind → IsScanned kind
sign_scanned None word kind e f = absurd (cc)
sign_scanned (Some c) word kind e f =
    let same : plain c ≡ kind = cc in
    subst IsScanned same (record {
      words = λ m. absurd (true≢false (sym m ∙ symbol_no_word symbols word c refl e));
      literals = low_literal (plain c) (omega (arith, looked_up_below symbols word c refl e));
    })

-- what begins a number
number_begins : (c : ℕ) (b : Bool) → (is_ascii_digit c || (c == 46 && b)) ≡ true
    → (is_blank c ≡ false) × ((c == 47) ≡ false)
number_begins c b h = go (is_ascii_digit c) refl h
  where
    go : (d : Bool) → is_ascii_digit c ≡ d → (d || (c == 46 && b)) ≡ true → (is_blank c ≡ false) × ((c == 47) ≡ false)
    go true e f = (grind (arith, nat_tests), other_than is_ascii_digit c e 47 refl)
    go false e f = subst (λ x. (is_blank x ≡ false) × ((x == 47) ≡ false))
        (sym (eqb-true c 46 (and_parts (c == 46) b f).0)) (refl, refl)

value_scanned : (word : List ℕ) (kind : Kind) → spells spelling word ≡ true
    → kind_of_spelling word ≡ Some kind → IsScanned kind
value_scanned [] kind s h = absurd (cc)
value_scanned (c ∷ cs) kind s h = go (begins_name c) (is_ascii_digit c || (c == 46 && not (is_empty cs))) refl refl h
  where
    go : (a b : Bool) → begins_name c ≡ a → (is_ascii_digit c || (c == 46 && not (is_empty cs))) ≡ b
        → cond a (Some (kind_of_word (encode_utf8_all (c ∷ cs)))) (cond b (number_of (c ∷ cs))
        (option_map plain (look_up symbols (c ∷ cs)))) ≡ Some kind → IsScanned kind
    go true b e d f =
        let same : kind_of_word (encode_utf8_all (c ∷ cs)) ≡ kind = cc in subst IsScanned same
        (word_scanned c cs e s)
    go false true e d f = number_scanned (c ∷ cs) kind
        (record { spelled = s; valued = h; begins = number_begins c (not (is_empty cs)) d }) f
    go false false e d f = sign_scanned (look_up symbols (c ∷ cs)) (c ∷ cs) kind refl f

spelled_scanned : (o : Option (List ℕ)) (c : ℕ) (cs from after : List ℕ) (kind : Kind)
    → after_spelling spelling (c ∷ cs) ≡ o → spelled (c ∷ cs) cs o ≡ token kind from after → IsScanned kind
spelled_scanned None c cs from after kind e h = absurd (cc)
spelled_scanned (Some rest) c cs from after kind e h =
    let f = longest_spelling spelling (c ∷ cs) rest e in
    let word : front (c ∷ cs) rest ≡ f.0 = ap (λ text. front text rest) f.1.whole ∙ front-append f.0 rest in
    value_scanned f.0 kind f.1.passes (ap kind_of_spelling (sym word)
    ∙ valued_kind (kind_of_spelling (front (c ∷ cs) rest)) (c ∷ cs) rest from after kind h)

raw_at_scanned : (text from after : List ℕ) (kind : Kind) → raw_at text ≡ token kind from after → IsScanned kind
raw_at_scanned [] from after kind h = absurd (cc)
raw_at_scanned (c ∷ cs) from after kind h =
    spelled_scanned (after_spelling spelling (c ∷ cs)) c cs from after kind refl h

-- each token holds what a token of a text holds
abbrev pub AllScanned : List Token → Type 0
AllScanned = AllOf (λ (t : Token). IsScanned (without_place t))

raw_scanned : (text from after : List ℕ) (kind : Kind) → raw text ≡ token kind from after → IsScanned kind
raw_scanned text from after kind h = raw_at_scanned (after_trivia outside text) from after kind h

-- the marks around a template list hold nothing
mark_scanned : (c : ℕ) → is_among c word_classes ≡ false → is_among c literal_classes ≡ false → IsScanned (plain c)
mark_scanned c h n =
    record { words = λ m. absurd (true≢false (sym m ∙ h)); literals = λ m. absurd (true≢false (sym m ∙ n)) }

-- the tokens of template lists are scanned
abbrev ScannedBy : TemplateRelation → Type 0
ScannedBy R = (text : List ℕ) (ts : List Token) (rest : List ℕ) → R text ts rest → AllScanned ts

inside_scanned : (total : ℕ) (R : TemplateRelation) → ScannedBy R
    → (depth : ℕ) (text : List ℕ) (ts : List Token) (end : List ℕ)
    → Inside total R depth text ts end → AllScanned ts
inside_scanned total R s depth text ts end (at_greater t e after kind r g) = tt
inside_scanned total R s depth text ts end (at_opening d t from after e kind us r g h) =
    (raw_scanned t from after kind r, inside_scanned total R s (suc d) after us e h)
inside_scanned total R s depth text ts end (at_closing d t from after e kind us r g h) =
    (raw_scanned t from after kind r, inside_scanned total R s d after us e h)
inside_scanned total R s depth text ts end (at_template d t from after rest e kind us vs r w k h) = (
  raw_scanned t from after kind r,
  all_append (λ (t : Token). IsScanned (without_place t)) us vs (s after us rest k)
      (inside_scanned total R s d rest vs e h),
)
inside_scanned total R s depth text ts end (at_other d t from after e kind us r g n h) =
    (raw_scanned t from after kind r, inside_scanned total R s d after us e h)

template_scanned : (bound total : ℕ) → ScannedBy (TemplateUpTo bound total)
template_scanned zero total text ts rest h = absurd h
template_scanned (suc bound) total text ts rest (enclosed t from after end kind us v r c h d) = (
  mark_scanned TemplateArgsStart refl refl,
  all_append (λ (t : Token). IsScanned (without_place t)) us _
      (inside_scanned total (TemplateUpTo bound total) (template_scanned bound total) 0 after us end h)
      (mark_scanned TemplateArgsEnd refl refl, tt),
)

pub tokens_scanned : (total : ℕ) (text : List ℕ) (ts : List Token) (e : Ending)
    → TokensOf total text ts e → AllScanned ts
tokens_scanned total text ts e (at_end s h) = tt
tokens_scanned total text ts e (at_fault s from after h) = tt
tokens_scanned total text ts e (before_template s from after rest kind us vs f h w t more) = (
  raw_scanned s from after kind h,
  all_append (λ (t : Token). IsScanned (without_place t)) us vs
      (template_scanned (length after) total after us rest t) (tokens_scanned total rest vs f more),
)
tokens_scanned total text ts e (before_more s from after kind us f h n more) =
    (raw_scanned s from after kind h, tokens_scanned total after us f more)
