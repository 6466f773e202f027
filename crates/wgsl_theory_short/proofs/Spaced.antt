-- Characters that are tokens one by one are the tokens of a text: with a space after each.
use Rattle.std.proofs.Common.{◌≡◌, inr, ℕ, ◌==◌, ◌<◌, ◌^◌, Bool, true, false, cond, refl, sym, ap, subst, ◌∙◌, List, [], ◌∷◌, ◌++◌, map, Some, None}
use Rattle.std.specs.Prelude.{nat_lt, pos, not}
use Rattle.std.specs.Str.{encode_utf8_all}
use Rattle.std.proofs.lemmas.Bool.{true≢false, ltb-true}
use Rattle.grammar.specs.Tokens.{Token, Payload.number}
use Rattle.wgsl_model.specs.Tokens.ClassTable.{AbstractInt, symbols}
use Rattle.wgsl_model.specs.Tokens.Kind.{Kind}
use Rattle.wgsl_model.specs.Tokens.Numbers.{number_below, number_of, number_value, whole_number}
use Rattle.wgsl_model.specs.Tokens.Pattern.{empty, spells}
use Rattle.wgsl_model.specs.Tokens.TokenList.{width}
use Rattle.wgsl_theory_grammar.proofs.Tokens.Bare.{over_blank}
use Rattle.wgsl_theory_grammar.proofs.Tokens.Symbols.{each_passes, found_passes}
use Rattle.wgsl_model_tidy.specs.Kept.{unplaced}
use Rattle.wgsl_model_tidy.specs.Pieces.{Piece, between}
use Rattle.wgsl_theory_tidy.proofs.Kept.LaidTokens.{token_here}
use Rattle.wgsl_theory_tidy.proofs.Kept.Readings.{IsToken, is_word, is_start, is_end, is_slash, is_slash_equal, token_piece}
use Rattle.wgsl_theory_tidy.proofs.Kept.TokenRoles.{token_starts}
use Rattle.wgsl_model_short.specs.Shortest.{token_pieces}
use Rattle.wgsl_model_short.specs.Respelled.{hexadecimal, shorter_number, short_text, short_pieces}
use Rattle.wgsl_theory_short.proofs.Hexadecimal.{hexadecimal_token}
use Rattle.wgsl_theory_short.proofs.Joined.{before_space, again, nothing_left}
use Rattle.wgsl_theory_short.proofs.Reading.{Tokens, no_token, one_token}
use Rattle.wgsl_theory_short.proofs.TokenJoins.{whole_is}
use Rattle.wgsl_theory_short.proofs.TokenShapes.{Shape, a_name, a_number, a_sign, shape, name_class}

-- ---- tokens one by one

-- a piece is a token of a kind, before something
pub record IsPiece (k : Kind) (p : Piece) : Type 0 where
  pub rest : List ℕ
  pub is_token : IsToken k p.text rest
  pub same : p ≡ token_piece k p.text 0

abbrev pub AreTokens : List Kind → List Piece → Type 0
AreTokens [] [] = Unit {0}
AreTokens (k ∷ ks) (p ∷ ps) = IsPiece k p × AreTokens ks ps
AreTokens ks ps = ⊥

pub are_tokens : (text : List ℕ) (ks : List Kind) (ps : List Piece) → Tokens text ks ps → AreTokens ks ps
are_tokens _ _ _ (no_token text e) = tt
are_tokens _ _ _ (one_token trivia w rest k ks ps p i r) =
    (record { rest = rest; is_token = i; same = refl }, are_tokens rest ks ps r)

-- ---- with a space after each

abbrev pub spaced : List Piece → List ℕ
spaced [] = []
spaced (p ∷ ps) = p.text ++ (32 ∷ spaced ps)

after_space : (text : List ℕ) (ks : List Kind) (ps : List Piece) → Tokens text ks ps → Tokens (32 ∷ text) ks ps
after_space _ _ _ (no_token text e) = no_token (32 ∷ text) (over_blank 32 text refl ∙ e)
after_space _ _ _ (one_token trivia w rest k ks ps p i r) =
    one_token (32 ∷ trivia) w rest k ks ps (over_blank 32 (trivia ++ (w ++ rest)) refl ∙ p) i r

pub spaced_tokens : (ks : List Kind) (ps : List Piece) → AreTokens ks ps → Tokens (spaced ps) ks ps
spaced_tokens [] [] h = no_token [] nothing_left
spaced_tokens [] (p ∷ ps) h = absurd h
spaced_tokens (k ∷ ks) [] h = absurd h
spaced_tokens (k ∷ ks) (p ∷ ps) h =
    let more : List ℕ = 32 ∷ spaced ps in
    let here = again k p.text h.0.rest h.0.is_token more
    (inr (before_space k p.text h.0.rest h.0.is_token (spaced ps))) in
    subst (λ q. Tokens (p.text ++ more) (k ∷ ks) (q ∷ ps)) (sym h.0.same)
    (one_token [] p.text more k ks ps (token_here k p.text more here) here
    (after_space (spaced ps) ks ps (spaced_tokens ks ps h.1)))

-- ---- a whole number without a suffix

-- it holds its value, which fits
record IsWhole (k : Kind) : Type 0 where
  value : ℕ
  same : k ≡ record { class = AbstractInt; payload = number (pos value) }
  fits : value < 2 ^ 63

whole_below : (n : ℕ) (k : Kind) → number_below AbstractInt (2 ^ 63) n ≡ Some k → IsWhole k
whole_below n k h = go (nat_lt n (2 ^ 63)) refl h
  where
    go : (b : Bool) → nat_lt n (2 ^ 63) ≡ b
        → cond b (Some (record { class = AbstractInt; payload = number (pos n) })) None ≡ Some k → IsWhole k
    go true e q = record { value = n; same = cc; fits = ltb-true n (2 ^ 63) e }
    go false e q = absurd cc

whole_number_of : (w : List ℕ) (k : Kind) → number_of w ≡ Some k → (k.class == AbstractInt) ≡ true → IsWhole k
whole_number_of w k h e =
    whole_below (number_value w) k (sym (plain_number w (whole_is w k h e)) ∙ h)
  where
    plain_number : (w : List ℕ) → spells (whole_number empty) w ≡ true
        → number_of w ≡ number_below AbstractInt (2 ^ 63) (number_value w)
    plain_number w s = rw s refl

abbrev is_other : ℕ → Bool
is_other c = not (c == AbstractInt)

other_symbols : each_passes (λ w class. is_other class) symbols ≡ true
other_symbols = refl

other : (c : ℕ) → is_other c ≡ true → (c == AbstractInt) ≡ true → ⊥
other c h e = true≢false (sym h ∙ ap not e)

whole_spelling : (k : Kind) (x : ℕ) (xs : List ℕ) → Shape k x xs → (k.class == AbstractInt) ≡ true → IsWhole k
whole_spelling k x xs (a_name b s) e =
    absurd (other k.class (name_class is_other refl refl refl refl (encode_utf8_all (x ∷ xs)) k s) e)
whole_spelling k x xs (a_number b s n) e = whole_number_of (x ∷ xs) k n e
whole_spelling k x xs (a_sign class b n l s) e = absurd (other class
    (found_passes (λ w class. is_other class) symbols (x ∷ xs) class other_symbols l)
    (ap (λ (j : Kind). j.class == AbstractInt) s ∙ e))

whole_token : (k : Kind) (w rest : List ℕ) → IsToken k w rest → (k.class == AbstractInt) ≡ true → IsWhole k
whole_token k [] rest i e = absurd (token_starts false k [] rest i)
whole_token k (x ∷ xs) rest (is_word j v r m s q) e = whole_spelling k x xs (shape k x xs s) e
whole_token k w rest (is_slash r q) e = absurd (true≢false (sym e))
whole_token k w rest (is_slash_equal r q) e = absurd (true≢false (sym e))
whole_token k w rest (is_start r) e = absurd (true≢false (sym e))
whole_token k w rest (is_end r) e = absurd (true≢false (sym e))

-- ---- in its shorter spelling it is the same token

-- some text is the token
abbrev Stays : Kind → List ℕ → Type 0
Stays k w = (rest : List ℕ) × IsToken k w rest

shorter_stays : (k : Kind) (w : List ℕ) → IsWhole k → Stays k w → Stays k (shorter_number k.payload w)
shorter_stays k w i s = subst (λ (j : Kind). Stays j w → Stays j (shorter_number j.payload w)) (sym i.same)
    (λ t. go (nat_lt (width (hexadecimal i.value)) (width w)) t) s
  where
    whole : Kind
    whole = record { class = AbstractInt; payload = number (pos i.value) }

    go : (b : Bool) → Stays whole w → Stays whole (cond b (hexadecimal i.value) w)
    go true t = ([], hexadecimal_token i.value i.fits)
    go false t = t

short_stays : (t : Token) (w rest : List ℕ) → IsToken (unplaced t) w rest → Stays (unplaced t) (short_text t w)
short_stays t w rest i = go (t.class == AbstractInt) refl
  where
    go : (b : Bool) → (t.class == AbstractInt) ≡ b
        → Stays (unplaced t) (cond b (shorter_number t.payload w) w)
    go true e = shorter_stays (unplaced t) w (whole_token (unplaced t) w rest i e) (rest, i)
    go false e = (rest, i)

pub short_tokens : (source : List ℕ) (ts : List Token) → AreTokens (map unplaced ts) (token_pieces source ts)
    → AreTokens (map unplaced ts) (short_pieces source ts)
short_tokens source [] h = tt
short_tokens source (t ∷ ts) h =
    let stays = short_stays t (between source t.start t.end) h.0.rest h.0.is_token in
    (record { rest = stays.0; is_token = stays.1; same = refl }, short_tokens source ts h.1)
