-- When a name, a number and a symbol fit before what follows.
use Rattle.std.proofs.Common.{◌≡◌, ℕ, zero, suc, ◌<◌, ◌==◌, ◌&&◌, ◌||◌, Bool, true, false, cond, not, refl, sym, ap, subst, List, [], ◌∷◌, length, get_or, Option, Some, None, ◌∙◌, lit<, arith}
use Rattle.std.specs.Prelude.{nat_lt, codes, bytes_eq}
use Rattle.std.specs.Char.{is_ascii_digit, is_ascii_alphabetic, is_ascii_alphanumeric}
use Rattle.std.specs.Str.{IsAscii, IsUtf8, NoCharPasses, chars, encode_utf8_all}
use Rattle.std.proofs.lemmas.Bool.{and_parts, ltb-true, eqb-true, false_from_ne_true, true≢false, not-true}
use Rattle.std.proofs.lemmas.Str.{IsUtf8-from_ascii, NoCharPasses-byte, chars-IsAscii, encodes-chars}
use Rattle.unicode_ident.specs.Ident.{is_xid_start, is_xid_continue}
use Rattle.unicode_ident.proofs.IdentLemmas.{is_xid_start-ascii, is_xid_continue-ascii}
use Rattle.grammar.specs.Grammar.{is_among}
use Rattle.grammar.specs.Tables.{is_empty}
use Rattle.wgsl_model.specs.Tokens.ClassTable.{Ident, ReservedWord, AbstractInt, TemplateArgsStart, TemplateArgsEnd, KwTrue, KwFalse, SymShiftRightAssign, SymUnderscore, SymForwardSlash, SymDivisionEqual, SymPeriod, symbols, keywords}
use Rattle.wgsl_model.specs.Tokens.Kind.{plain, named}
use Rattle.wgsl_model.specs.Tokens.Pattern.{begins, begins_any, spells}
use Rattle.wgsl_model.specs.Tokens.Numbers.{number_spelling}
use Rattle.wgsl_model.specs.Tokens.Spelling.{identifier, spelling}
use Rattle.wgsl_model.specs.Tokens.Words.{look_up, is_word_among, reserved_words}
use Rattle.wgsl_model.specs.Tokens.Raw.{kind_of_word, keyword_or_name}
use Rattle.wgsl_model.specs.Tokens.Templates.{is_word, is_opening, is_closing, begins_with_greater, is_short_circuit}
use Rattle.wgsl_model.specs.Tokens.Trivia.{after_trivia}
use Rattle.wgsl_theory_templates.proofs.Reaching.Reach.{name, keyword, greater, greater_stop, opening, closing, short_circuit, stop, other, role}
use Rattle.wgsl_theory_templates.proofs.Reaching.Roles.{is_of_expressions}
use Rattle.wgsl_theory_printed.proofs.Spelling.Split.{spelled_each, takes, differs, lets_differs, none_pass}
use Rattle.wgsl_theory_printed.proofs.Spelling.Fronts.{spelled_first}
use Rattle.wgsl_theory_printed.proofs.Spelling.Pieces.{IsOrdinaryRole, IsOrdinary, Stands, OnOneLine, FitsBefore}
use Rattle.wgsl_theory_printed.proofs.Spelling.Spellings.{EndsBefore, spelling_at}
use Rattle.wgsl_theory_printed.proofs.Spelling.Signs.{begins_name, begins_sign, identifier_begins, goes_on, no_longer_symbol, NotOn, one_of_three, looked_up, spelled_symbol, sign_ends_before, sign_stands}
use Rattle.wgsl_theory_printed.proofs.Spelling.Ends.{EndsName, IsNameText, name_no_number, name_stands}

-- ---- no token but a line break holds one

on_one_line : (text : List ℕ) → ((i : ℕ) → i < length text → (get_or text i 0 == 10) ≡ false) → OnOneLine text
on_one_line [] h = tt
on_one_line (b ∷ bs) h = (h 0 (omega arith), on_one_line bs (λ i l. h (suc i) (omega (arith, l))))

line_taken : takes 10 spelling ≡ false
line_taken = rw (is_xid_start-ascii 10 (lit< tt), is_xid_continue-ascii 10 (lit< tt)) refl

-- the bytes of a spelling are on one line
pub spelled_on_one_line : (text cs : List ℕ) → IsUtf8 text → chars text ≡ cs
    → spells spelling cs ≡ true → OnOneLine text
spelled_on_one_line text cs u e h =
    let none : NoCharPasses (λ c. c == 10) text = (
      cs,
      ap encode_utf8_all (sym e) ∙ encodes-chars text u,
      none_pass 10 cs (spelled_each (differs 10) spelling (lets_differs 10 spelling line_taken) cs h),
    ) in
    on_one_line text (λ i l. false_from_ne_true (get_or text i 0 == 10) (λ t.
    (let ten : get_or text i 0 ≡ 10 = eqb-true (get_or text i 0) 10 t in
    true≢false (sym t ∙ NoCharPasses-byte (λ c. c == 10) text i none l (omega (arith, ten))))))

-- ---- names

ordinary_role : (a b d e f g i j : Bool) → IsOrdinaryRole (cond a name (cond b keyword (cond d greater_stop
    (cond e greater (cond f opening (cond g closing (cond i short_circuit (cond j other stop))))))))
ordinary_role true b d e f g i j = tt
ordinary_role false true d e f g i j = tt
ordinary_role false false true e f g i j = tt
ordinary_role false false false true f g i j = tt
ordinary_role false false false false true g i j = tt
ordinary_role false false false false false true i j = tt
ordinary_role false false false false false false true j = tt
ordinary_role false false false false false false false true = tt
ordinary_role false false false false false false false false = tt

not_equal : (c n : ℕ) → c < n → (c == n) ≡ false
not_equal c n h = false_from_ne_true (c == n) (λ e. (let same : c ≡ n = eqb-true c n e in omega (arith, same, h)))

-- a class that is no end of a template list
ordinary_class : (c : ℕ) → c < TemplateArgsStart → IsOrdinaryRole (role c)
ordinary_class c h =
    rw (not_equal c TemplateArgsStart h, not_equal c TemplateArgsEnd (omega (arith, h)))
    (ordinary_role (is_among c (Ident ∷ KwTrue ∷ KwFalse ∷ [])) (is_word c) (is_among c (SymShiftRightAssign ∷ []))
    (begins_with_greater c) (is_opening c) (is_closing c) (is_short_circuit c) (is_of_expressions c))

-- each class of a table is below that of identifiers
abbrev pub all_below : List (List ℕ × ℕ) → Bool
all_below [] = true
all_below (e ∷ es) = nat_lt e.1 Ident && all_below es

pub looked_up_below : (es : List (List ℕ × ℕ)) (w : List ℕ) (c : ℕ) → all_below es ≡ true
    → look_up es w ≡ Some c → c < Ident
looked_up_below [] w c s h = absurd (cc)
looked_up_below (e ∷ es) w c s h = go (looked_up_below es w c parts.1) (bytes_eq e.0 w) h
  where
    parts : (nat_lt e.1 Ident ≡ true) × (all_below es ≡ true)
    parts = and_parts (nat_lt e.1 Ident) (all_below es) s

    go : (look_up es w ≡ Some c → c < Ident) → (b : Bool) → cond b (Some e.1) (look_up es w) ≡ Some c → c < Ident
    go more true k =
        let same : e.1 ≡ c = cc in let low : e.1 < Ident = ltb-true e.1 Ident parts.0 in
        omega (arith, same, low)
    go more false k = more k

-- the class of a word is below those of numbers
pub word_class : (bytes : List ℕ) → (kind_of_word bytes).class < AbstractInt
word_class bytes = by_underscore (bytes_eq bytes (codes "_"))
  where
    by_reserved : (b : Bool) → (cond b (named ReservedWord bytes) (named Ident bytes)).class < AbstractInt
    by_reserved true = omega arith
    by_reserved false = omega arith

    by_keyword : (o : Option ℕ) → look_up keywords bytes ≡ o → (keyword_or_name o bytes).class < AbstractInt
    by_keyword (Some c) e = omega (arith, looked_up_below keywords bytes c refl e)
    by_keyword None e = by_reserved (is_word_among reserved_words bytes)

    by_underscore : (b : Bool)
        → (cond b (plain SymUnderscore) (keyword_or_name (look_up keywords bytes) bytes)).class < AbstractInt
    by_underscore true = omega arith
    by_underscore false = by_keyword (look_up keywords bytes) refl

-- a name fits before what no name goes on with
pub name_fits : (bytes rest : List ℕ) → IsNameText bytes → EndsName rest → FitsBefore bytes (kind_of_word bytes) rest
name_fits bytes rest n e = record {
  ordinary = ordinary_class (kind_of_word bytes).class (omega (arith, word_class bytes));
  stands = name_stands bytes rest n e;
  utf8 = n.utf8;
  on_one_line = spelled_on_one_line bytes (n.first ∷ n.others) n.utf8 n.characters n.spelled;
}

-- a word of letters, digits and `_`
abbrev letters : List ℕ → Bool
letters [] = true
letters (c ∷ cs) = (nat_lt c 128 && (is_ascii_alphanumeric c || c == 95)) && letters cs

letter_continues : (c : ℕ) → (nat_lt c 128 && (is_ascii_alphanumeric c || c == 95)) ≡ true → is_xid_continue c ≡ true
letter_continues c h =
    let parts = and_parts (nat_lt c 128) (is_ascii_alphanumeric c || c == 95) h in
    is_xid_continue-ascii c (ltb-true c 128 parts.0) ∙ parts.1

letters_continue : (w : List ℕ) → letters w ≡ true → begins_any is_xid_continue is_empty w ≡ true
unfolding begins_any
letters_continue [] h = refl
letters_continue (c ∷ cs) h =
    let parts = and_parts (nat_lt c 128 && (is_ascii_alphanumeric c || c == 95)) (letters cs) h in
    rw (letter_continues c parts.0) (letters_continue cs parts.1)

letters_spelled : (c : ℕ) (cs : List ℕ) → is_xid_start c ≡ true → letters cs ≡ true → spells spelling (c ∷ cs) ≡ true
unfolding begins
letters_spelled c cs s h = rw (s, letters_continue cs h) refl

ascii_cons : (c : ℕ) (cs : List ℕ) → c < 128 → IsAscii cs → IsAscii (c ∷ cs)
ascii_cons c cs h k zero = h
ascii_cons c cs h k (suc i) = k i

ascii_nil : IsAscii []
ascii_nil i = omega arith

letters_ascii : (w : List ℕ) → letters w ≡ true → IsAscii w
letters_ascii [] h = ascii_nil
letters_ascii (c ∷ cs) h =
    let parts = and_parts (nat_lt c 128 && (is_ascii_alphanumeric c || c == 95)) (letters cs) h in
    ascii_cons c cs (ltb-true c 128 (and_parts (nat_lt c 128) _ parts.0).0) (letters_ascii cs parts.1)

-- a word with a letter first
abbrev pub is_ascii_word : List ℕ → Bool
is_ascii_word [] = false
is_ascii_word (c ∷ cs) = is_ascii_alphabetic c && letters (c ∷ cs)

-- such a word is a name
pub word_name : (w : List ℕ) → is_ascii_word w ≡ true → IsNameText w
word_name [] h = cc
word_name (c ∷ cs) h =
    let parts = and_parts (is_ascii_alphabetic c) (letters (c ∷ cs)) h in
    let spelled = and_parts (nat_lt c 128 && (is_ascii_alphanumeric c || c == 95)) (letters cs) parts.1 in
    let below = ltb-true c 128 (and_parts (nat_lt c 128) (is_ascii_alphanumeric c || c == 95) spelled.0).0 in
    let start : is_xid_start c ≡ true = is_xid_start-ascii c below ∙ parts.0 in
    let ascii : IsAscii (c ∷ cs) = letters_ascii (c ∷ cs) parts.1 in
    record {
      utf8 = IsUtf8-from_ascii (c ∷ cs) ascii;
      first = c;
      others = cs;
      characters = chars-IsAscii (c ∷ cs) ascii;
      begins = rw start refl;
      spelled = letters_spelled c cs start spelled.1;
    }

-- ---- symbols

-- ASCII on one line
abbrev pub plain_text : List ℕ → Bool
plain_text [] = true
plain_text (c ∷ cs) = (nat_lt c 128 && not (c == 10)) && plain_text cs

pub plain_ascii : (w : List ℕ) → plain_text w ≡ true → IsAscii w
plain_ascii [] h = ascii_nil
plain_ascii (c ∷ cs) h =
    let parts = and_parts (nat_lt c 128 && not (c == 10)) (plain_text cs) h in
    ascii_cons c cs (ltb-true c 128 (and_parts (nat_lt c 128) _ parts.0).0) (plain_ascii cs parts.1)

plain_line : (w : List ℕ) → plain_text w ≡ true → OnOneLine w
plain_line [] h = tt
plain_line (c ∷ cs) h =
    let parts = and_parts (nat_lt c 128 && not (c == 10)) (plain_text cs) h in
    (not-true (c == 10) (and_parts (nat_lt c 128) _ parts.0).1, plain_line cs parts.1)

-- what is fits
text_fits : (w : List ℕ) (class : ℕ) (rest : List ℕ) → plain_text w ≡ true
    → IsOrdinary (plain class) → Stands w (plain class) rest → FitsBefore w (plain class) rest
text_fits w class rest p o s =
    let ascii : IsAscii w = plain_ascii w p in
    record {
      ordinary = o;
      stands = subst (λ x. Stands x (plain class) rest) (sym (chars-IsAscii w ascii)) s;
      utf8 = IsUtf8-from_ascii w ascii;
      on_one_line = plain_line w p;
    }

-- a symbol that begins no name, no number and no comment
pub sign_fits : (c : ℕ) (cs : List ℕ) (class : ℕ) (rest : List ℕ) → begins_sign c ≡ true
    → look_up symbols (c ∷ cs) ≡ Some class → plain_text (c ∷ cs) ≡ true → IsOrdinary (plain class)
    → NotOn (c ∷ cs) rest
    → FitsBefore (c ∷ cs) (plain class) rest
sign_fits c cs class rest b l p o n = text_fits (c ∷ cs) class rest p o (sign_stands c cs class rest b l n)

-- a symbol with which no other begins
pub not_on : (w : List ℕ) → ((c : ℕ) → goes_on w c ≡ false) → (rest : List ℕ) → NotOn w rest
not_on w h [] = tt
not_on w h (d ∷ ds) = h d

-- `/` before a space or `=`
slash_end : (cs : List ℕ) (rest : List ℕ) → NotOn (47 ∷ cs) rest → EndsBefore (47 ∷ cs) rest
slash_end cs rest n = sign_ends_before 47 cs rest (rw (is_xid_start-ascii 47 (lit< tt)) refl) refl n

pub slash_fits : (rest : List ℕ) → FitsBefore (codes "/") (plain SymForwardSlash) (32 ∷ rest)
unfolding after_trivia
slash_fits rest =
    text_fits (codes "/") SymForwardSlash (32 ∷ rest) refl tt
    (spelling_at 47 [] (32 ∷ rest) (plain SymForwardSlash)
    (spelled_symbol (codes "/") (looked_up symbols (codes "/") SymForwardSlash refl))
    (rw (is_xid_start-ascii 47 (lit< tt)) refl) (slash_end [] (32 ∷ rest) refl))

pub slash_equal_fits : (rest : List ℕ) → FitsBefore (codes "/=") (plain SymDivisionEqual) (32 ∷ rest)
unfolding after_trivia
slash_equal_fits rest =
    text_fits (codes "/=") SymDivisionEqual (32 ∷ rest) refl tt
    (spelling_at 47 (61 ∷ []) (32 ∷ rest) (plain SymDivisionEqual)
    (spelled_symbol (codes "/=") (looked_up symbols (codes "/=") SymDivisionEqual refl))
    (rw (is_xid_start-ascii 47 (lit< tt)) refl) (slash_end (61 ∷ []) (32 ∷ rest) refl))

-- `.` before a name
pub point_number : (c : ℕ) (z : List ℕ) → is_ascii_digit c ≡ false → spells number_spelling (46 ∷ (c ∷ z)) ≡ false
unfolding begins begins_any
point_number c z h = rw h refl

pub no_digit : (c : ℕ) → begins_name c ≡ true → is_ascii_digit c ≡ false
no_digit c b = false_from_ne_true (is_ascii_digit c) (λ d. name_no_number c b (rw d refl))

point_ends : (c : ℕ) (cs : List ℕ) → begins_name c ≡ true → EndsBefore (46 ∷ []) (c ∷ cs)
point_ends c cs b z h =
    one_of_three (46 ∷ (c ∷ z)) h
    (λ k. true≢false (sym (spelled_first begins_name identifier identifier_begins 46 (c ∷ z) k)
    ∙ rw (is_xid_start-ascii 46 (lit< tt)) refl))
    (λ k. true≢false (sym k ∙ point_number c z (no_digit c b)))
    (λ k. no_longer_symbol (46 ∷ []) c refl z k)

pub point_fits : (c : ℕ) (cs : List ℕ) → begins_name c ≡ true → FitsBefore (codes ".") (plain SymPeriod) (c ∷ cs)
unfolding after_trivia
point_fits c cs b =
    text_fits (codes ".") SymPeriod (c ∷ cs) refl tt
    (spelling_at 46 [] (c ∷ cs) (plain SymPeriod) (spelled_symbol (codes ".") (looked_up symbols
    (codes ".") SymPeriod refl)) (rw (is_xid_start-ascii 46 (lit< tt)) refl) (point_ends c cs b))
