-- A table of words says of each word what it is, where each of its entries is right and no keyword
-- or reserved word is missing.
use Rattle.std.proofs.Common.{◌≡◌, ℕ, zero, suc, ◌<◌, Bool, true, false, ◌==◌, nat_lt, refl, sym, ap, subst, ◌∙◌, List, [], ◌∷◌, length, get_or, Option, Some, None, is_none, bytes_eq, arith}
use Rattle.std.specs.Prelude.{codes}
use Rattle.std.specs.List.{list_all}
use Rattle.std.proofs.lemmas.Bool.{eqb-true, ltb-true, false_from_ne_true, and_parts}
use Rattle.std.proofs.lemmas.Slice.Eq.{bytes_eq-Decides}
use Rattle.wgsl_model.specs.Tokens.Raw.{kind_of_word}
use Rattle.wgsl_model.specs.Tokens.Words.{look_up, is_word_among, reserved_words}
use Rattle.wgsl_model.specs.Tokens.ClassTable.{keywords}
use Rattle.wgsl_lex_token.specs.View.{class_of_kind}
use Rattle.wgsl_lex_scanner.specs.declared.word_table.Meaning.{Meaning}
use Rattle.wgsl_lex_scanner.specs.declared.word_table.Meaning.TheVariants as meaning
use Rattle.wgsl_lex_scanner.specs.WordTable.{kind_of_name, meant, slot_of, Entry, is_class, says, EntriesHold, stands, HoldsAllWords}
use Rattle.wgsl_lex_scanner.proofs.PlainClasses.{keyword-plain}

true_not_false : true ≡ false → ⊥
true_not_false e = cc

-- what holds of each holds of the one at a place
at : {X : Type 0} (p : X → Bool) (xs : List X) (i : ℕ) (d : X) → list_all p xs ≡ true
    → i < length xs → p (get_or xs i d) ≡ true
at p [] i d h l = absurd (omega (arith, l))
at p (x ∷ xs) zero d h l = (and_parts (p x) (list_all p xs) h).0
at p (x ∷ xs) (suc i) d h l = at p xs i d (and_parts (p x) (list_all p xs) h).1 (omega (arith, l))

pub low_at : (bound : ℕ) (places : List ℕ) (i : ℕ) → list_all (λ n. nat_lt n bound) places ≡ true
    → i < length places → get_or places i 0 < bound
low_at bound places i all low = ltb-true (get_or places i 0) bound (at (λ n. nat_lt n bound) places i 0 all low)

-- ---- an entry is what it says

is_class-some : (o : Option ℕ) (n : ℕ) → is_class o n ≡ true → o ≡ Some n
is_class-some None n h = absurd (cc)
is_class-some (Some m) n h = ap (λ k. Some k) (eqb-true m n h)

is_none-none : (o : Option ℕ) → is_none o ≡ true → o ≡ None
is_none-none None h = refl
is_none-none (Some m) h = absurd (cc)

said : (m : Meaning) (word : List ℕ) → says m word ≡ true → meant (Some m) word ≡ kind_of_name word
unfolding kind_of_name
said (meaning.Keyword kind) word h =
    let found = is_class-some (look_up keywords word) (class_of_kind kind) h in
    keyword-plain word (class_of_kind kind) found ∙ rw found refl
said (meaning.Reserved) word h =
    let parts = and_parts (is_none (look_up keywords word)) (is_word_among reserved_words word) h in
    let none = is_none-none (look_up keywords word) parts.0 in
    rw (none, parts.1) refl

pub right_at : (table : List Entry) (i : ℕ) (d : Entry) → EntriesHold table → i < length table
    → meant (Some (get_or table i d).1) (get_or table i d).0.now ≡ kind_of_name (get_or table i d).0.now
unfolding EntriesHold
right_at table i d all low = said (get_or table i d).1 (get_or table i d).0.now
    (at (λ (e : Entry). says e.1 e.0.now) table i d all low)

-- ---- a word other than the one at its place is neither a keyword nor reserved

differs : (table : List Entry) (d : Entry) (entry word : List ℕ) → stands table d entry ≡ true
    → stands table d word ≡ false → bytes_eq entry word ≡ false
differs table d entry word h f =
    false_from_ne_true (bytes_eq entry word) (λ same. let is : entry ≡ word =
    (bytes_eq-Decides entry word).0 same in true_not_false (sym h ∙ ap (λ w. stands table d w) is ∙ f))

not_looked_up : (table : List Entry) (d : Entry) (entries : List (List ℕ × ℕ)) (word : List ℕ)
    → list_all (λ (e : List ℕ × ℕ). stands table d e.0) entries ≡ true → stands table d word ≡ false
    → look_up entries word ≡ None
not_looked_up table d [] word h f = refl
not_looked_up table d (e ∷ es) word h f =
    let parts = and_parts (stands table d e.0) (list_all (λ (e : List ℕ × ℕ). stands table d e.0) es) h in
    rw (differs table d e.0 word parts.0 f) (not_looked_up table d es word parts.1 f)

not_among : (table : List Entry) (d : Entry) (entries : List (List ℕ)) (word : List ℕ)
    → list_all (λ word. stands table d word) entries ≡ true → stands table d word ≡ false
    → is_word_among entries word ≡ false
not_among table d [] word h f = refl
not_among table d (e ∷ es) word h f =
    let parts = and_parts (stands table d e) (list_all (λ word. stands table d word) es) h in
    rw (differs table d e word parts.0 f) (not_among table d es word parts.1 f)

no_name : (table : List Entry) (d : Entry) (word : List ℕ) → HoldsAllWords table
    → stands table d word ≡ false → meant None word ≡ kind_of_name word
unfolding kind_of_name HoldsAllWords
no_name table d word all f =
    let parts = and_parts (list_all (λ (e : List ℕ × ℕ). stands table d e.0) keywords)
    (list_all (λ word. stands table d word) reserved_words) (all d) in
    rw (not_looked_up table d keywords word parts.0 f, not_among table d reserved_words word parts.1 f) refl

pub only_at : (table : List Entry) (i : ℕ) (d : Entry) (word : List ℕ) → HoldsAllWords table
    → i ≡ slot_of word → bytes_eq (get_or table i d).0.now word ≡ false
    → meant None word ≡ kind_of_name word
only_at table i d word all e f = no_name table d word all (ap (λ k. bytes_eq (get_or table k d).0.now word) (sym e) ∙ f)

-- ---- the word itself

pub empty_name : (word : List ℕ) → (length word == 0) ≡ true → meant None word ≡ kind_of_name word
unfolding kind_of_name
empty_name [] h = refl
empty_name (c ∷ cs) h = absurd (omega (arith, eqb-true (length (c ∷ cs)) 0 h))

pub same_name : (m : Meaning) (entry word : List ℕ) → bytes_eq entry word ≡ true
    → meant (Some m) entry ≡ kind_of_name entry → meant (Some m) word ≡ kind_of_name word
same_name m entry word h e =
    let is : entry ≡ word = (bytes_eq-Decides entry word).0 h in
    subst (λ w. meant (Some m) w ≡ kind_of_name w) is e

-- any word but `_`
pub word_of-name : (word : List ℕ) → bytes_eq word (codes "_") ≡ false → kind_of_name word ≡ kind_of_word word
unfolding kind_of_name
word_of-name word h = rw h refl

-- a meaning that the table gives
pub word_of-meant : (given m : Meaning) (word : List ℕ) → given ≡ m
    → meant (Some given) word ≡ kind_of_name word → bytes_eq word (codes "_") ≡ false
    → meant (Some m) word ≡ kind_of_word word
word_of-meant given m word is e other = ap (λ n. meant (Some n) word) (sym is) ∙ e ∙ word_of-name word other
