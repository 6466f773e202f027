-- What the characters of a token are by what it does, and with which one it begins.
use Rattle.std.proofs.Common.{◌≡◌, ℕ, ◌==◌, ◌^◌, ◌&&◌, ◌||◌, Bool, true, false, cond, not, refl, sym, subst, List, [], ◌∷◌, ◌++◌, Option, Some, None, ◌⊎◌, inl, inr}
use Rattle.std.specs.Prelude.{codes, bytes_eq, nat_lt, option_map, pos, if◌then◌else◌}
use Rattle.std.specs.Char.{is_ascii_digit}
use Rattle.std.specs.Str.{encode_utf8_all}
use Rattle.std.proofs.lemmas.Bool.{true≢false, and_parts, or_left, or_right}
use Rattle.std.proofs.lemmas.Slice.Eq.{bytes_eq-Decides}
use Rattle.unicode_ident.specs.Ident.{is_xid_start}
use Rattle.grammar.specs.Tokens.{Payload.number as number_payload}
use Rattle.grammar.specs.Tables.{is_empty}
use Rattle.wgsl_model.specs.Tokens.ClassTable.{Ident, ReservedWord, SymUnderscore, AbstractInt, I32, U32, AbstractFloat, F32, F16, SymMinusMinus, TemplateArgsEnd, symbols, keywords}
use Rattle.wgsl_model.specs.Tokens.Kind.{Kind, plain, named}
use Rattle.wgsl_model.specs.Tokens.Numbers.{number_of, number_below, float_of, number_value, without_last, whole_number, i_suffix, u_suffix, f_suffix, h_suffix, abstract_float, float}
use Rattle.wgsl_model.specs.Tokens.Pattern.{empty, spells}
use Rattle.wgsl_model.specs.Tokens.Raw.{kind_of_spelling, kind_of_word, keyword_or_name}
use Rattle.wgsl_model.specs.Tokens.Words.{look_up, is_word_among, reserved_words}
use Rattle.wgsl_theory_printed.proofs.Spelling.Split.{by_either}
use Rattle.wgsl_theory_printed.proofs.Spelling.Spellings.{EndsAt}
use Rattle.wgsl_theory_printed.proofs.Spelling.Signs.{begins_name, begins_number, one_of_three}
use Rattle.wgsl_theory_printed.proofs.Spelling.Ends.{number_no_name, number_no_symbol}
use Rattle.wgsl_theory_printed.proofs.Fits.PointAfter.{no_point_after}
use Rattle.wgsl_model_tidy.specs.Roles.{Role, name, unsuffixed, number, word, else_word, opening, closing, block_start, block_end, comma, semicolon, colon, period, at, minus, ampersand, prefix, binary, assign, step, ends_operand, role_of}
use Rattle.wgsl_model_tidy.specs.Open.{LayoutState, role_in}
use Rattle.wgsl_theory_tidy.proofs.Kept.Alone.{paren_left_alone, paren_right_alone, bracket_left_alone, bracket_right_alone}
use Rattle.wgsl_theory_tidy.proofs.Kept.Readings.{IsToken, is_word, is_slash, is_slash_equal, is_start, is_end}
use Rattle.wgsl_theory_grammar.proofs.Tokens.Symbols.{each_passes, found_passes}
use Rattle.wgsl_theory_tidy.proofs.Kept.Touching as touching
use Rattle.wgsl_theory_tidy.proofs.Kept.Touching.{Shaped, starts, is_name, is_else, is_arrow, is_unsuffixed, is_number, is_opening, is_closing, is_comma, is_at, is_less, is_minus, is_and, is_bang, is_star, is_tilde, is_plus_plus, is_minus_minus, is_period, is_other}

-- a token of a role begins with the first of these characters
abbrev pub Starts : Role → List ℕ → Type 0
Starts role [] = ⊥
Starts role (x ∷ xs) = starts role x ≡ true

-- the characters and the first of them
abbrev Fits : Role → List ℕ → Type 0
Fits role w = Shaped role w × Starts role w

-- ---- words

abbrev is_word_role : Role → Bool
is_word_role name = true
is_word_role word = true
is_word_role else_word = true
is_word_role role = false

word_fits : (role : Role) (x : ℕ) (xs : List ℕ) → is_word_role role ≡ true → begins_name x ≡ true → Fits role (x ∷ xs)
word_fits name x xs h b = (is_name x xs b, b)
word_fits word x xs h b = (touching.is_word x xs b, or_left (begins_name x) (x == 45) b)
word_fits else_word x xs h b = (is_else x xs b, b)
word_fits role x xs h b = absurd (true≢false (sym h))

keyword_roles : (following : Bool) → each_passes (λ w c. is_word_role (role_of following c)) keywords ≡ true
keyword_roles following = refl

-- the token of a word does what a word does
word_role : (following : Bool) (bytes : List ℕ) → is_word_role (role_of following (kind_of_word bytes).class) ≡ true
word_role following bytes = by_underscore (bytes_eq bytes (codes "_"))
  where
    by_reserved : (b : Bool)
        → is_word_role (role_of following (cond b (named ReservedWord bytes) (named Ident bytes)).class) ≡ true
    by_reserved true = refl
    by_reserved false = refl

    by_keyword : (o : Option ℕ) → look_up keywords bytes ≡ o
        → is_word_role (role_of following (keyword_or_name o bytes).class) ≡ true
    by_keyword (Some c) e = found_passes (λ w c. is_word_role (role_of following c)) keywords bytes c
        (keyword_roles following) e
    by_keyword None e = by_reserved (is_word_among reserved_words bytes)

    by_underscore : (b : Bool) → is_word_role (role_of following
        (cond b (plain SymUnderscore) (keyword_or_name (look_up keywords bytes) bytes)).class) ≡ true
    by_underscore true = refl
    by_underscore false = by_keyword (look_up keywords bytes) refl

-- ---- numbers

-- what a number does
abbrev number_does : ℕ → Role
number_does c = if c == AbstractInt then unsuffixed else number

-- a class whose tokens do what a number does
abbrev IsNumberClass : ℕ → Type 0
IsNumberClass c = (following : Bool) → role_of following c ≡ number_does c

below_role : (class limit n : ℕ) (k : Kind) → IsNumberClass class
    → number_below class limit n ≡ Some k → IsNumberClass k.class
below_role class limit n k r h = go (nat_lt n limit) h
  where
    go : (b : Bool)
        → cond b (Some (record { class = class; payload = number_payload (pos n) })) None ≡ Some k
        → IsNumberClass k.class
    go true e = let same : class ≡ k.class = cc in subst IsNumberClass same r
    go false e = absurd (cc)

pub number_role : (w : List ℕ) (k : Kind) → number_of w ≡ Some k → IsNumberClass k.class
number_role w k h = go (spells (whole_number empty) w) (spells (whole_number i_suffix) w)
    (spells (whole_number u_suffix) w) (spells abstract_float w) (spells (float f_suffix) w)
    (spells (float h_suffix) w) h
  where
    float_role : (class : ℕ) (text : List ℕ) → IsNumberClass class → float_of class text ≡ Some k
        → IsNumberClass k.class
    float_role class text r e = let same : class ≡ k.class = cc in subst IsNumberClass same r

    go : (a b c d e f : Bool)
        → cond a (number_below AbstractInt (2 ^ 63) (number_value w))
        (cond b (number_below I32 (2 ^ 31) (number_value (without_last w)))
        (cond c (number_below U32 (2 ^ 32) (number_value (without_last w)))
        (cond d (float_of AbstractFloat w)
        (cond e (float_of F32 (without_last w))
        (cond f (float_of F16 (without_last w)) None))))) ≡ Some k
        → IsNumberClass k.class
    go true b c d e f g = below_role AbstractInt (2 ^ 63) (number_value w) k (λ _. refl) g
    go false true c d e f g = below_role I32 (2 ^ 31) (number_value (without_last w)) k (λ _. refl) g
    go false false true d e f g = below_role U32 (2 ^ 32) (number_value (without_last w)) k (λ _. refl) g
    go false false false true e f g = float_role AbstractFloat w (λ _. refl) g
    go false false false false true f g = float_role F32 (without_last w) (λ _. refl) g
    go false false false false false true g = float_role F16 (without_last w) (λ _. refl) g
    go false false false false false false g = absurd (cc)

-- the first character of a number
number_first : (x : ℕ) (xs : List ℕ) → (is_ascii_digit x || (x == 46 && not (is_empty xs))) ≡ true
    → begins_number x ≡ true
number_first x xs h =
    by_either (is_ascii_digit x) (x == 46 && not (is_empty xs)) h
    (λ d. or_left (is_ascii_digit x) (x == 46) d)
    (λ p. or_right (is_ascii_digit x) (x == 46) (and_parts (x == 46) (not (is_empty xs)) p).0)

-- a number of another class than `AbstractInt` does not go on with a point
ends_at_point : (x : ℕ) (xs : List ℕ) (k : Kind) → number_of (x ∷ xs) ≡ Some k
    → (k.class == AbstractInt) ≡ false → begins_number x ≡ true → EndsAt (x ∷ xs) 46
ends_at_point x xs k v a b z h =
    one_of_three ((x ∷ xs) ++ (46 ∷ z)) h (λ s. number_no_name x (xs ++ (46 ∷ z)) b s)
    (λ s. no_point_after (x ∷ xs) k v a z s) (λ s. number_no_symbol x xs 46 z b s)

number_fits : (x : ℕ) (xs : List ℕ) (k : Kind) → number_of (x ∷ xs) ≡ Some k
    → begins_number x ≡ true → Fits (number_does k.class) (x ∷ xs)
number_fits x xs k v b = go (k.class == AbstractInt) refl
  where
    go : (a : Bool) → (k.class == AbstractInt) ≡ a → Fits (if a then unsuffixed else number) (x ∷ xs)
    go true e = (is_unsuffixed x xs b, b)
    go false e = (is_number x xs b (ends_at_point x xs k v e b), b)

-- ---- symbols

-- what the characters of a symbol are, by what it does
abbrev is_symbol : Role → List ℕ → Bool
is_symbol word w = bytes_eq (codes "_") w || bytes_eq (codes "->") w
is_symbol opening w = bytes_eq (codes "(") w || bytes_eq (codes "[") w
is_symbol closing w = bytes_eq (codes ")") w || bytes_eq (codes "]") w
is_symbol block_start w = bytes_eq (codes "{") w
is_symbol block_end w = bytes_eq (codes "}") w
is_symbol comma w = bytes_eq (codes ",") w
is_symbol semicolon w = bytes_eq (codes ";") w
is_symbol colon w = bytes_eq (codes ":") w
is_symbol period w = bytes_eq (codes ".") w
is_symbol at w = bytes_eq (codes "@") w
is_symbol minus w = bytes_eq (codes "-") w
is_symbol ampersand w = bytes_eq (codes "&") w
is_symbol prefix w = bytes_eq (codes "!") w || (bytes_eq (codes "~") w || bytes_eq (codes "*") w)
is_symbol binary w = not (is_empty w)
is_symbol assign w = not (is_empty w)
is_symbol step w = bytes_eq (codes "++") w || bytes_eq (codes "--") w
is_symbol role w = false

symbol_roles : (following : Bool) → each_passes (λ w c. is_symbol (role_of following c) w) symbols ≡ true
symbol_roles true = refl
symbol_roles false = refl

-- what fits such a text
one_text : (role : Role) (v w : List ℕ) → bytes_eq v w ≡ true → Fits role v → Fits role w
one_text role v w h f = subst (Fits role) ((bytes_eq-Decides v w).0 h) f

two_texts : (role : Role) (u v w : List ℕ) → (bytes_eq u w || bytes_eq v w) ≡ true → Fits role u
    → Fits role v → Fits role w
two_texts role u v w h f g = by_either (bytes_eq u w) (bytes_eq v w) h (λ e. one_text role u w e f)
    (λ e. one_text role v w e g)

underscore_begins : begins_name 95 ≡ true
underscore_begins = or_right (is_xid_start 95) (95 == 95) refl

symbol_fits : (role : Role) (w : List ℕ) → is_symbol role w ≡ true → Fits role w
symbol_fits word w h = two_texts word (codes "_") (codes "->") w h
    (word_fits word 95 [] refl underscore_begins) (is_arrow, or_right (begins_name 45) (45 == 45) refl)
symbol_fits opening w h = two_texts opening (codes "(") (codes "[") w h
    (is_opening 40 paren_left_alone, refl) (is_opening 91 bracket_left_alone, refl)
symbol_fits closing w h = two_texts closing (codes ")") (codes "]") w h
    (is_closing 41 paren_right_alone, refl) (is_closing 93 bracket_right_alone, refl)
symbol_fits block_start w h = one_text block_start (codes "{") w h (is_other block_start 123 [] refl, refl)
symbol_fits block_end w h = one_text block_end (codes "}") w h (is_other block_end 125 [] refl, refl)
symbol_fits comma w h = one_text comma (codes ",") w h (is_comma, refl)
symbol_fits semicolon w h = one_text semicolon (codes ";") w h (is_other semicolon 59 [] refl, refl)
symbol_fits colon w h = one_text colon (codes ":") w h (is_other colon 58 [] refl, refl)
symbol_fits period w h = one_text period (codes ".") w h (is_period, refl)
symbol_fits at w h = one_text at (codes "@") w h (is_at, refl)
symbol_fits minus w h = one_text minus (codes "-") w h (is_minus, refl)
symbol_fits ampersand w h = one_text ampersand (codes "&") w h (is_and, refl)
symbol_fits prefix w h =
    by_either (bytes_eq (codes "!") w) _ h (λ e. one_text prefix (codes "!") w e (is_bang, refl))
    (λ e. two_texts prefix (codes "~") (codes "*") w e (is_tilde, refl) (is_star, refl))
symbol_fits binary [] h = absurd (true≢false (sym h))
symbol_fits binary (x ∷ xs) h = (is_other binary x xs refl, refl)
symbol_fits assign [] h = absurd (true≢false (sym h))
symbol_fits assign (x ∷ xs) h = (is_other assign x xs refl, refl)
symbol_fits step w h = two_texts step (codes "++") (codes "--") w h (is_plus_plus, refl) (is_minus_minus, refl)
symbol_fits role w h = absurd (true≢false (sym h))

-- ---- all of them

valued_fits : (following : Bool) (k : Kind) (w : List ℕ) → kind_of_spelling w ≡ Some k
    → Fits (role_of following k.class) w
valued_fits following k [] h = absurd (cc)
valued_fits following k (x ∷ xs) h = by (begins_name x) (is_ascii_digit x || (x == 46 && not (is_empty xs))) refl refl h
  where
    of_symbol : (o : Option ℕ) → look_up symbols (x ∷ xs) ≡ o → option_map plain o ≡ Some k
        → Fits (role_of following k.class) (x ∷ xs)
    of_symbol None p q = absurd (cc)
    of_symbol (Some c) p q =
        let same : plain c ≡ k = cc in
        let fits : Fits (role_of following c) (x ∷ xs) = symbol_fits (role_of following c) (x ∷ xs)
        (found_passes (λ w d. is_symbol (role_of following d) w) symbols (x ∷ xs) c (symbol_roles following) p) in
        subst (λ (kind : Kind). Fits (role_of following kind.class) (x ∷ xs)) same fits

    by : (a b : Bool) → begins_name x ≡ a → (is_ascii_digit x || (x == 46 && not (is_empty xs))) ≡ b
        → cond a (Some (kind_of_word (encode_utf8_all (x ∷ xs)))) (cond b (number_of (x ∷ xs))
        (option_map plain (look_up symbols (x ∷ xs)))) ≡ Some k → Fits (role_of following k.class) (x ∷ xs)
    by true b e f v =
        let same : kind_of_word (encode_utf8_all (x ∷ xs)) ≡ k = cc in
        let does : is_word_role (role_of following k.class) ≡ true = subst (λ (kind : Kind).
        is_word_role (role_of following kind.class) ≡ true) same (word_role following (encode_utf8_all (x ∷ xs))) in
        word_fits (role_of following k.class) x xs does e
    by false true e f v =
        let first = number_first x xs f in
        subst (λ (role : Role). Fits role (x ∷ xs)) (sym (number_role (x ∷ xs) k v following))
        (number_fits x xs k v first)
    by false false e f v = of_symbol (look_up symbols (x ∷ xs)) refl v

token_shaped : (following : Bool) (k : Kind) (w rest : List ℕ) → IsToken k w rest
    → Shaped (role_of following k.class) w ⊎ (k ≡ plain TemplateArgsEnd)
token_shaped following k w rest (is_word kind v more m s r) = inl (valued_fits following k w s.valued).0
token_shaped following k w rest (is_slash more r) = inl (is_other binary 47 [] refl)
token_shaped following k w rest (is_slash_equal more r) = inl (is_other assign 47 (61 ∷ []) refl)
token_shaped following k w rest (is_start more) = inl is_less
token_shaped following k w rest (is_end more) = inr refl

pub token_starts : (following : Bool) (k : Kind) (w rest : List ℕ) → IsToken k w rest
    → Starts (role_of following k.class) w
token_starts following k w rest (is_word kind v more m s r) = (valued_fits following k w s.valued).1
token_starts following k w rest (is_slash more r) = refl
token_starts following k w rest (is_slash_equal more r) = refl
token_starts following k w rest (is_start more) = refl
token_starts following k w rest (is_end more) = refl

-- an operator between operands may be any characters
binary_fits : (role : Role) (w : List ℕ) → Starts role w → Fits binary w
binary_fits role [] s = absurd s
binary_fits role (x ∷ xs) s = (is_other binary x xs refl, refl)

-- what a token does says what its characters are, but for the end of a template list
pub shaped : (state : LayoutState) (k : Kind) (before_operand : Bool) (w rest : List ℕ)
    → IsToken k w rest → Shaped (role_in state k.class before_operand) w ⊎ (k ≡ plain TemplateArgsEnd)
shaped state k before_operand w rest t = go (k.class == SymMinusMinus && before_operand)
  where
    following : Bool
    following = ends_operand state.last

    go : (b : Bool) → Shaped (cond b binary (role_of following k.class)) w ⊎ (k ≡ plain TemplateArgsEnd)
    go true = inl (binary_fits (role_of following k.class) w (token_starts following k w rest t)).0
    go false = token_shaped following k w rest t

-- and with which one it begins
pub starts_so : (state : LayoutState) (k : Kind) (before_operand : Bool) (w rest : List ℕ)
    → IsToken k w rest → Starts (role_in state k.class before_operand) w
starts_so state k before_operand w rest t = go (k.class == SymMinusMinus && before_operand)
  where
    following : Bool
    following = ends_operand state.last

    go : (b : Bool) → Starts (cond b binary (role_of following k.class)) w
    go true = (binary_fits (role_of following k.class) w (token_starts following k w rest t)).1
    go false = token_starts following k w rest t
