-- Which tokens have a bracket among their characters: `(`, `[`, `)` and `]` alone.
use Rattle.std.proofs.Common.{◌≡◌, ◌⊎◌, inl, inr, ℕ, ◌==◌, ◌&&◌, ◌||◌, Bool, true, false, cond, not, refl, sym, ap, subst, ◌∙◌, List, [], ◌∷◌, map, Some, lit<, arith}
use Rattle.std.proofs.lemmas.Bool.{and_parts, eqb-true, not-true, false_from_ne_true, true≢false}
use Rattle.std.proofs.lemmas.Bool.Decides.{nat_tests}
use Rattle.unicode_ident.specs.Ident.{is_xid_continue}
use Rattle.unicode_ident.proofs.IdentLemmas.{is_xid_start-ascii, is_xid_continue-ascii}
use Rattle.grammar.specs.Grammar.{is_among}
use Rattle.wgsl_model.specs.Tokens.Characters.{is_blank}
use Rattle.wgsl_model.specs.Tokens.ClassTable.{SymParenLeft, SymParenRight, SymBracketLeft, SymBracketRight, symbols}
use Rattle.wgsl_model.specs.Tokens.Kind.{Kind, plain}
use Rattle.wgsl_model.specs.Tokens.Numbers.{number_spelling}
use Rattle.wgsl_model.specs.Tokens.Pattern.{begins, literal, any_of, spells}
use Rattle.wgsl_model.specs.Tokens.Raw.{kind_of_spelling}
use Rattle.wgsl_model.specs.Tokens.Spelling.{identifier, spelling}
use Rattle.wgsl_theory_grammar.proofs.Tokens.Classes.{all_pass}
use Rattle.wgsl_theory_grammar.proofs.Tokens.Symbols.{found_passes, is_symbol}
use Rattle.wgsl_theory_printed.proofs.Spelling.Split.{Each, Stricter, wider, by_either, spelled_each, or_none}
use Rattle.wgsl_theory_printed.proofs.Spelling.Signs.{one_of_three}
use Rattle.wgsl_theory_printed.proofs.Spelling.Scalars.{is_numeral, number_lets, identifier_lets, literal_lets}
use Rattle.wgsl_theory_tidy.proofs.Kept.TextFronts.{by_test}
use Rattle.wgsl_theory_tidy.proofs.Kept.AlignedTexts.{is_opening, is_closing}
use Rattle.wgsl_theory_tidy.proofs.Kept.NestedTokens.{Effect, opens, closes, none, effect}
use Rattle.wgsl_theory_tidy.proofs.Kept.Readings.{IsToken, is_word, is_slash, is_slash_equal, is_start, is_end}

-- ---- the characters of a spelling

-- no bracket
abbrev pub is_plain : ℕ → Bool
is_plain c = not (is_opening c) && not (is_closing c)

numeral_plain : Stricter is_numeral is_plain
numeral_plain c h = grind (arith, nat_tests)

-- a character in a name is not one that no name has
other_than : (c n : ℕ) → is_xid_continue n ≡ false → is_xid_continue c ≡ true → (c == n) ≡ false
other_than c n e h = false_from_ne_true (c == n) (λ s. true≢false (sym h ∙ ap is_xid_continue (eqb-true c n s) ∙ e))

name_plain : Stricter is_xid_continue is_plain
name_plain c h =
    rw (
      other_than c 40 (is_xid_continue-ascii 40 (lit< tt)) h,
      other_than c 91 (is_xid_continue-ascii 91 (lit< tt)) h,
      other_than c 41 (is_xid_continue-ascii 41 (lit< tt)) h,
      other_than c 93 (is_xid_continue-ascii 93 (lit< tt)) h,
    ) refl

-- one character alone, or no bracket
abbrev Spelled : List ℕ → Type 0
Spelled w = ((c : ℕ) × (w ≡ c ∷ [])) ⊎ Each is_plain w

abbrev is_single : List ℕ → Bool
is_single (c ∷ []) = true
is_single w = false

single_spelled : (x : ℕ) (w : List ℕ) → spells (literal (x ∷ [])) w ≡ true → w ≡ x ∷ []
unfolding begins
single_spelled x [] h = absurd (true≢false (sym h))
single_spelled x (c ∷ []) h = ap (λ y. y ∷ []) (eqb-true c x (and_parts (c == x) true h).0)
single_spelled x (c ∷ (d ∷ ds)) h = absurd (true≢false (sym (and_parts (c == x) false h).1))

symbol_spelled : (v w : List ℕ) → (is_single v || all_pass is_plain v) ≡ true → spells (literal v) w ≡ true → Spelled w
symbol_spelled [] w a h = inr (spelled_each is_plain (literal []) (literal_lets is_plain [] a) w h)
symbol_spelled (x ∷ []) w a h = inl (x, single_spelled x w h)
symbol_spelled (x ∷ (y ∷ ys)) w a h =
    inr (spelled_each is_plain (literal (x ∷ (y ∷ ys))) (literal_lets is_plain (x ∷ (y ∷ ys)) a) w h)

abbrev all_so : List (List ℕ) → Bool
all_so [] = true
all_so (v ∷ vs) = (is_single v || all_pass is_plain v) && all_so vs

symbols_spelled : (vs : List (List ℕ)) (w : List ℕ) → all_so vs ≡ true → spells (any_of vs) w ≡ true → Spelled w
unfolding begins
symbols_spelled [] w a h = absurd (true≢false (sym h))
symbols_spelled (v ∷ vs) w a h =
    let parts = and_parts (is_single v || all_pass is_plain v) (all_so vs) a in
    by_either (spells (literal v) w) (spells (any_of vs) w) h (λ e. symbol_spelled v w parts.0 e)
    (λ e. symbols_spelled vs w parts.1 e)

spelled_so : (w : List ℕ) → spells spelling w ≡ true → Spelled w
spelled_so w h =
    one_of_three w h
    (λ e. inr (spelled_each is_plain identifier (identifier_lets is_plain name_plain refl) w e))
    (λ e. inr (spelled_each is_plain number_spelling
    (wider is_numeral is_plain numeral_plain number_spelling number_lets) w e))
    (λ e. symbols_spelled (map (λ (entry : List ℕ × ℕ). entry.0) symbols) w refl e)

-- ---- brackets

-- a character that is neither blank nor `/`
abbrev pub Solid : ℕ → Type 0
Solid c = (is_blank c ≡ false) × ((c == 47) ≡ false)

-- a token that opens or closes no bracket
abbrev pub NoBracket : Effect → Type 0
NoBracket (opens b) = b ≡ false
NoBracket (closes b) = b ≡ false
NoBracket none = Unit {0}

-- the characters of a token: an opening or a closing bracket, or no brackets
pub data WordOf (k : Kind) : List ℕ → Type 0 where
  opening_word : (c : ℕ) → Solid c → is_opening c ≡ true → is_closing c ≡ false
      → effect k.class ≡ opens true → WordOf k (c ∷ [])
  closing_word : (c : ℕ) → Solid c → is_opening c ≡ false → is_closing c ≡ true
      → effect k.class ≡ closes true → WordOf k (c ∷ [])
  other_word : (w : List ℕ) → Each is_plain w → NoBracket (effect k.class) → WordOf k w

-- the classes of brackets
abbrev is_bracket_class : ℕ → Bool
is_bracket_class c = is_among c (SymParenLeft ∷ SymBracketLeft ∷ [])
    || is_among c (SymParenRight ∷ SymBracketRight ∷ [])

each_passes : (q : ℕ → Bool) (w : List ℕ) → Each q w → all_pass q w ≡ true
each_passes q [] h = refl
each_passes q (c ∷ cs) h = rw (h.0, each_passes q cs h.1) refl

abbrev has_bracket : List ℕ → ℕ → Bool
has_bracket w c = not (is_bracket_class c) || not (all_pass is_plain w)

no_class : (w : List ℕ) (k : Kind) → kind_of_spelling w ≡ Some k → Each is_plain w → is_bracket_class k.class ≡ false
no_class w k v e =
    false_from_ne_true (is_bracket_class k.class) (λ t.
    (let found : has_bracket w k.class ≡ true = found_passes has_bracket symbols w k.class refl
    (is_symbol is_bracket_class refl refl w k v t) in
    by_either (not (is_bracket_class k.class)) (not (all_pass is_plain w)) found
    (λ n. true≢false (sym t ∙ not-true (is_bracket_class k.class) n))
    (λ n. true≢false (sym (each_passes is_plain w e) ∙ not-true (all_pass is_plain w) n))))

no_effect : (class : ℕ) → is_bracket_class class ≡ false → NoBracket (effect class)
no_effect class h =
    let parts = or_none (is_among class (SymParenLeft ∷ SymBracketLeft ∷ []))
    (is_among class (SymParenRight ∷ SymBracketRight ∷ [])) h in
    rw (parts.0, parts.1) (go _ _)
  where
    go : (x y : Bool) → NoBracket (cond x (opens false) (cond y (closes false) none))
    go true y = refl
    go false true = refl
    go false false = tt

-- the token that a bracket is
bracket_kind : (c class : ℕ) (w : List ℕ) (k : Kind) → kind_of_spelling (c ∷ []) ≡ Some (plain class)
    → kind_of_spelling w ≡ Some k → w ≡ c ∷ [] → effect k.class ≡ effect class
bracket_kind c class w k e v s =
    let both : Some (plain class) ≡ Some k = sym e ∙ ap kind_of_spelling (sym s) ∙ v in
    let same : plain class ≡ k = cc in
    ap (λ (j : Kind). effect j.class) (sym same)

paren_left : kind_of_spelling (40 ∷ []) ≡ Some (plain SymParenLeft)
paren_left = rw (is_xid_start-ascii 40 (lit< tt)) refl

paren_right : kind_of_spelling (41 ∷ []) ≡ Some (plain SymParenRight)
paren_right = rw (is_xid_start-ascii 41 (lit< tt)) refl

bracket_left : kind_of_spelling (91 ∷ []) ≡ Some (plain SymBracketLeft)
bracket_left = rw (is_xid_start-ascii 91 (lit< tt)) refl

bracket_right : kind_of_spelling (93 ∷ []) ≡ Some (plain SymBracketRight)
bracket_right = rw (is_xid_start-ascii 93 (lit< tt)) refl

single_word : (c : ℕ) (w : List ℕ) (k : Kind) → kind_of_spelling w ≡ Some k → w ≡ c ∷ [] → WordOf k w
single_word c w k v e =
    by_test (c == 40)
    (λ h. opening_at 40 SymParenLeft (eqb-true c 40 h) (refl, refl) refl refl paren_left refl) (λ a.
    by_test (c == 91)
    (λ h. opening_at 91 SymBracketLeft (eqb-true c 91 h) (refl, refl) refl refl bracket_left refl) (λ b.
    by_test (c == 41) (λ h. closing_at 41 SymParenRight (eqb-true c 41 h) (refl, refl) refl refl paren_right refl) (λ d.
    by_test (c == 93) (λ h. closing_at 93 SymBracketRight (eqb-true c 93 h)
    (refl, refl) refl refl bracket_right refl) (λ f. other a b d f))))
  where
    opening_at : (n class : ℕ) → c ≡ n → Solid n → is_opening n ≡ true → is_closing n ≡ false
        → kind_of_spelling (n ∷ []) ≡ Some (plain class) → effect class ≡ opens true → WordOf k w
    opening_at n class s d o l q x =
        let same : w ≡ n ∷ [] = e ∙ ap (λ y. y ∷ []) s in subst (WordOf k) (sym same)
        (opening_word n d o l (bracket_kind n class w k q v same ∙ x))

    closing_at : (n class : ℕ) → c ≡ n → Solid n → is_opening n ≡ false → is_closing n ≡ true
        → kind_of_spelling (n ∷ []) ≡ Some (plain class) → effect class ≡ closes true → WordOf k w
    closing_at n class s d o l q x =
        let same : w ≡ n ∷ [] = e ∙ ap (λ y. y ∷ []) s in subst (WordOf k) (sym same)
        (closing_word n d o l (bracket_kind n class w k q v same ∙ x))

    other : (c == 40) ≡ false → (c == 91) ≡ false → (c == 41) ≡ false → (c == 93) ≡ false → WordOf k w
    other a b d f =
        let each : Each is_plain w = subst (Each is_plain) (sym e) (rw (a, b, d, f) refl, tt) in
        other_word w each (no_effect k.class (no_class w k v each))

pub word_of : (k : Kind) (w rest : List ℕ) → IsToken k w rest → WordOf k w
word_of k w rest (is_word j v r m s e) = go (spelled_so w s.spelled)
  where
    go : Spelled w → WordOf k w
    go (inl single) = single_word single.0 w k s.valued single.1
    go (inr each) = other_word w each (no_effect k.class (no_class w k s.valued each))
word_of k w rest (is_slash r e) = other_word (47 ∷ []) (refl, tt) tt
word_of k w rest (is_slash_equal r e) = other_word (47 ∷ (61 ∷ [])) (refl, (refl, tt)) tt
word_of k w rest (is_start r) = other_word (60 ∷ []) (refl, tt) refl
word_of k w rest (is_end r) = other_word (62 ∷ []) (refl, tt) refl
