-- A source by its bytes: its byte order mark, its first line, and its lines one by one.
use Rattle.std.proofs.Common.{◌≡◌, ℕ, ◌-◌, ◌<◌, ◌==◌, ◌&&◌, Bool, true, false, refl, sym, ap, subst, ◌∙◌, List, [], ◌∷◌, ◌++◌, length, take, drop, get_or, None, append_assoc, arith}
use Rattle.std.proofs.lemmas.Bool.{eqb-true, false_from_ne_true}
use Rattle.std.proofs.lemmas.List.{length-drop, take-append-drop}
use Rattle.std.proofs.lemmas.Str.{IsUtf8-take, IsUtf8-drop, IsUtf8-append, IsCharBoundary-before_ascii, chars-append, chars-nil, chars_past_char, chars_from_encodes, encodes-append, encodes-chars}
use Rattle.std.proofs.lemmas.Str.Pattern.{drop_at_char}
use Rattle.std.specs.Str.{chars, encode_utf8_all, IsUtf8, IsCharBoundary, NonePass, NoCharPasses}
use Rattle.std.specs.Char.{encode_utf8}
use Rattle.std.specs.Bool.{MatchBool}
use Rattle.std.specs.List.{insert_slice}
use Rattle.std.specs.Str.Pattern.{FindsChar, FindsCharPrefix, FindsCharSuffix, SplitsAroundMatch, StripsPrefix, HasSuffixMatch}
use Rattle.wgsl_model.specs.Tokens.TokenList.{width}
use Rattle.wgsl_model.specs.Tokens.Trivia.{first_or_zero}
use Rattle.wgsl_model_tidy.specs.Formatted.{mark_of, unmarked, begins_crlf, with_crlf}
use Rattle.wgsl_theory_tidy.proofs.Kept.CrlfTrivia.{crlf_append, crlf_other}

-- either way
by_test : {X : Type 0} (b : Bool) → (b ≡ true → X) → (b ≡ false → X) → X
by_test true f g = f refl
by_test false f g = g refl

-- ---- the mark

-- the bytes of the mark
pub mark_chars : chars (239 ∷ (187 ∷ (191 ∷ []))) ≡ 0xFEFF ∷ []
unfolding chars
mark_chars = refl

pub no_chars : chars [] ≡ []
no_chars = chars-nil

-- a source that begins with it
pub record HasMark (source text : List ℕ) : Type 0 where
  pub mark : chars (239 ∷ (187 ∷ (191 ∷ []))) ≡ mark_of (chars source)
  pub rest : chars text ≡ unmarked (chars source)
  pub bytes : 3 ≡ width (mark_of (chars source))

pub has_mark : (source text : List ℕ) → IsUtf8 source
    → StripsPrefix (FindsCharPrefix 0xFEFF) source text → HasMark source text
unfolding encode_utf8
has_mark source text utf8 strips =
    let at = strips.1 in
    let split : source ≡ encode_utf8 0xFEFF ++ text = at.split ∙ ap (λ xs. encode_utf8 0xFEFF ++ xs) (sym strips.2) in
    let all : chars source ≡ 0xFEFF ∷ chars text = chars_past_char source text 0xFEFF utf8 split in
    record {
      mark = mark_chars ∙ ap mark_of (sym all);
      rest = ap unmarked (sym all);
      bytes = ap (λ xs. width (mark_of xs)) (sym all);
    }

-- one that does not
pub record HasNoMark (source : List ℕ) : Type 0 where
  pub mark : chars [] ≡ mark_of (chars source)
  pub rest : chars source ≡ unmarked (chars source)
  pub bytes : 0 ≡ width (mark_of (chars source))

no_mark_in : (source cs : List ℕ) → encode_utf8_all cs ≡ source
    → ((rest : List ℕ) → source ≡ encode_utf8 0xFEFF ++ rest → ⊥) → (mark_of cs ≡ []) × (unmarked cs ≡ cs)
no_mark_in source [] e none = (refl, refl)
no_mark_in source (c ∷ cs) e none =
    by_test (c == 0xFEFF) (λ t. absurd (none (encode_utf8_all cs)
    (sym e ∙ ap (λ d. encode_utf8 d ++ encode_utf8_all cs) (eqb-true c 0xFEFF t))))
    (λ t. (rw t refl, rw t refl))

pub has_no_mark : (source : List ℕ) → IsUtf8 source → FindsCharPrefix 0xFEFF source None → HasNoMark source
has_no_mark source utf8 none =
    let both = no_mark_in source (chars source) (encodes-chars source utf8) none in
    record { mark = no_chars ∙ sym both.0; rest = sym both.1; bytes = ap width (sym both.0) }

-- a text after the mark
pub marked_none : (mark text : List ℕ) → true ≡ (length mark == 0) → chars text ≡ chars mark ++ chars text
marked_none [] text e = ap (λ xs. xs ++ chars text) (sym chars-nil)
marked_none (x ∷ mark) text e = absurd (omega (arith, eqb-true (length (x ∷ mark)) 0 (sym e)))

pub marked_some : (mark text marked : List ℕ) → IsUtf8 mark → marked ≡ insert_slice text 0 mark
    → chars marked ≡ chars mark ++ chars text
marked_some mark text marked utf8 e = ap chars e ∙ chars-append mark text utf8

-- ---- the first line

-- a text, its first line and what is after the LF
pub record FirstLine (text line after : List ℕ) : Type 0 where
  pub line_utf8 : IsUtf8 line
  pub after_utf8 : IsUtf8 after
  pub characters : chars text ≡ chars line ++ (10 ∷ chars after)
  pub none : NonePass (λ c. c == 10) (chars line)
  pub shorter : length after < length text

none_of_text : (p : ℕ → Bool) (bs : List ℕ) → IsUtf8 bs → NoCharPasses p bs → NonePass p (chars bs)
none_of_text p bs utf8 none = subst (NonePass p) (chars_from_encodes none.0 bs utf8 none.1) none.2

pub first_line : (text line after : List ℕ) → IsUtf8 text
    → SplitsAroundMatch (FindsChar 10) text line after → FirstLine text line after
first_line text line after utf8 split =
    let i = split.0 in
    let j = split.1 in
    let at = split.2.1 in
    let cut : drop i text ≡ 10 ∷ drop j text = drop_at_char 10 text i j at (omega arith) in
    let inside : i < length text = omega (arith, length-drop i text, ap length cut) in
    let byte : get_or text i 0 ≡ 10 = at.byte (omega arith) in
    let boundary : IsCharBoundary text i = IsCharBoundary-before_ascii text i inside (omega (arith, byte)) in
    let front : IsUtf8 (take i text) = IsUtf8-take text i utf8 boundary in
    let rest : IsUtf8 (drop i text) = IsUtf8-drop text i utf8 boundary in
    let back : IsUtf8 (drop j text) = IsUtf8-drop text j utf8 (subst (IsCharBoundary text) (sym at.ends) at.after) in
    let whole : chars text ≡ chars (take i text) ++ (10 ∷ chars (drop j text)) =
    ap chars (sym (take-append-drop i text)) ∙ chars-append (take i text) (drop i text) front
    ∙ ap (λ cs. chars (take i text) ++ cs) (chars_past_char (drop i text) (drop j text) 10 rest at.split) in
    record {
      line_utf8 = subst IsUtf8 (sym split.3) front;
      after_utf8 = subst IsUtf8 (sym split.4) back;
      characters = whole ∙ ap (λ xs. chars xs ++ (10 ∷ chars (drop j text))) (sym split.3)
          ∙ ap (λ xs. chars line ++ (10 ∷ chars xs)) (sym split.4);
      none = subst (λ xs. NonePass (λ c. c == 10) (chars xs)) (sym split.3)
          (none_of_text (λ c. c == 10) (take i text) front split.2.0);
      shorter = omega (arith, ap length cut, length-drop i text, ap length split.4);
    }

-- the first LF is after CR
first_same : (xs : List ℕ) (d : ℕ) (rest : List ℕ) → NonePass (λ c. c == 10) xs → (d == 10) ≡ false
    → (first_or_zero (xs ++ (d ∷ rest)) == 10) ≡ false
first_same [] d rest h n = n
first_same (x ∷ xs) d rest h n = h.0

no_test : (b c : Bool) → c ≡ false → (b && c) ≡ false
no_test true c e = e
no_test false c e = refl

after_return : (xs rest : List ℕ) → NonePass (λ c. c == 10) xs → begins_crlf (xs ++ (13 ∷ (10 ∷ rest))) ≡ true
after_return [] rest h = refl
after_return (x ∷ xs) rest h = rw (h.0, no_test (x == 13) _ (first_same xs 13 (10 ∷ rest) h.1 refl))
    (after_return xs rest h.1)

-- it is not
after_other : (xs rest : List ℕ) → NonePass (λ c. c == 10) xs
    → ((ys : List ℕ) → xs ≡ ys ++ (13 ∷ []) → ⊥) → begins_crlf (xs ++ (10 ∷ rest)) ≡ false
after_other [] rest h none = refl
after_other (x ∷ []) rest h none =
    let other : (x == 13) ≡ false = false_from_ne_true (x == 13)
    (λ e. none [] (ap (λ c. c ∷ []) (eqb-true x 13 e))) in rw (h.0, other) refl
after_other (x ∷ (y ∷ xs)) rest h none = rw (h.0, no_test (x == 13) (y == 10) h.1.0)
    (after_other (y ∷ xs) rest h.1 (λ ys e. none (x ∷ ys) (ap (λ zs. x ∷ zs) e)))

-- no LF is there
pub no_lf : (xs : List ℕ) → NonePass (λ c. c == 10) xs → begins_crlf xs ≡ false
no_lf [] h = refl
no_lf (x ∷ []) h = rw (h.0, no_test (x == 13) false refl) refl
no_lf (x ∷ (y ∷ xs)) h = rw (h.0, no_test (x == 13) (y == 10) h.1.0) (no_lf (y ∷ xs) h.1)

front_passes : (xs ys : List ℕ) → NonePass (λ c. c == 10) (xs ++ ys) → NonePass (λ c. c == 10) xs
front_passes [] ys h = tt
front_passes (x ∷ xs) ys h = (h.0, front_passes xs ys h.1)

pub no_line : (text : List ℕ) → IsUtf8 text → FindsChar 10 text None → false ≡ begins_crlf (chars text)
no_line text utf8 none = sym (no_lf (chars text) (none_of_text (λ c. c == 10) text utf8 none))

drop_whole : (xs : List ℕ) → drop (length xs) xs ≡ []
drop_whole [] = refl
drop_whole (x ∷ xs) = drop_whole xs

line_end_chars : chars (13 ∷ (10 ∷ [])) ≡ 13 ∷ (10 ∷ [])
unfolding chars
line_end_chars = refl

-- a text that ends with CR, by its characters
last_return : (line : List ℕ) → IsUtf8 line → HasSuffixMatch (FindsCharSuffix 13) line
    → (ys : List ℕ) × (chars line ≡ ys ++ (13 ∷ []))
last_return line utf8 h =
    let i = length line - h.0 in
    let at = h.1.1 in
    let front : IsUtf8 (take i line) = IsUtf8-take line i utf8 h.3 in
    let rest : IsUtf8 (drop i line) = IsUtf8-drop line i utf8 h.3 in
    let last : chars (drop i line) ≡ 13 ∷ [] = chars_past_char (drop i line) (drop (length line) line)
    13 rest at.split ∙ ap (λ xs. 13 ∷ chars xs) (drop_whole line) ∙ ap (λ xs. 13 ∷ xs) chars-nil in (
      chars (take i line),
      ap chars (sym (take-append-drop i line)) ∙ chars-append (take i line) (drop i line) front
          ∙ ap (λ xs. chars (take i line) ++ xs) last,
    )

no_last_return : (line : List ℕ) → IsUtf8 line → FindsCharSuffix 13 line None → (ys : List ℕ)
    → chars line ≡ ys ++ (13 ∷ []) → ⊥
unfolding encode_utf8
no_last_return line utf8 none ys e = none (encode_utf8_all ys)
    (sym (encodes-chars line utf8) ∙ ap encode_utf8_all e ∙ encodes-append ys (13 ∷ []))

pub line_ends_so : (text line after : List ℕ) (r : Bool) → IsUtf8 text
    → SplitsAroundMatch (FindsChar 10) text line after
    → MatchBool r (HasSuffixMatch (FindsCharSuffix 13) line) (FindsCharSuffix 13 line None)
    → r ≡ begins_crlf (chars text)
line_ends_so text line after r utf8 split ends = go r ends
  where
    first : FirstLine text line after
    first = first_line text line after utf8 split

    go : (b : Bool) → MatchBool b (HasSuffixMatch (FindsCharSuffix 13) line) (FindsCharSuffix 13 line None)
        → b ≡ begins_crlf (chars text)
    go true h =
        let last = last_return line first.line_utf8 h in
        sym (ap begins_crlf (first.characters ∙ ap (λ xs. xs ++ (10 ∷ chars after)) last.1
        ∙ append_assoc last.0 (13 ∷ []) (10 ∷ chars after))
        ∙ after_return last.0 (chars after)
        (front_passes last.0 (13 ∷ []) (subst (NonePass (λ c. c == 10)) last.1 first.none)))
    go false h = sym (ap begins_crlf first.characters
        ∙ after_other (chars line) (chars after) first.none (no_last_return line first.line_utf8 h))

-- ---- with CR LF in place of each LF

-- a text without LF stays
same_without : (xs : List ℕ) → NonePass (λ c. c == 10) xs → with_crlf xs ≡ xs
same_without [] h = refl
same_without (x ∷ xs) h = crlf_other x xs h.0 ∙ ap (λ ys. x ∷ ys) (same_without xs h.1)

-- one line more is written
pub one_line : (changed next rest line after whole : List ℕ) → IsUtf8 changed → IsUtf8 rest
    → SplitsAroundMatch (FindsChar 10) rest line after → next ≡ (changed ++ line) ++ (13 ∷ (10 ∷ []))
    → chars changed ++ with_crlf (chars rest) ≡ whole → chars next ++ with_crlf (chars after) ≡ whole
one_line changed next rest line after whole utf8 rest_utf8 split e h =
    let first = first_line rest line after rest_utf8 split in
    let both : IsUtf8 (changed ++ line) = IsUtf8-append changed line utf8 first.line_utf8 in
    let ends : chars (13 ∷ (10 ∷ [])) ≡ 13 ∷ (10 ∷ []) = line_end_chars in
    let written : chars next ≡ (chars changed ++ chars line) ++ (13 ∷ (10 ∷ [])) =
    ap chars e ∙ chars-append (changed ++ line) (13 ∷ (10 ∷ [])) both ∙ ap (λ xs. chars (changed ++ line) ++ xs) ends
    ∙ ap (λ xs. xs ++ (13 ∷ (10 ∷ []))) (chars-append changed line utf8) in
    let left : with_crlf (chars rest) ≡ chars line ++ (13 ∷ (10 ∷ with_crlf (chars after))) =
    ap with_crlf first.characters ∙ crlf_append (chars line) (10 ∷ chars after)
    ∙ ap (λ xs. xs ++ (13 ∷ (10 ∷ with_crlf (chars after)))) (same_without (chars line) first.none) in
    ap (λ xs. xs ++ with_crlf (chars after)) written
    ∙ append_assoc (chars changed ++ chars line) (13 ∷ (10 ∷ [])) (with_crlf (chars after))
    ∙ append_assoc (chars changed) (chars line) (13 ∷ (10 ∷ with_crlf (chars after)))
    ∙ ap (λ xs. chars changed ++ xs) (sym left) ∙ h

pub shorter_rest : (rest line after : List ℕ) → IsUtf8 rest
    → SplitsAroundMatch (FindsChar 10) rest line after → length after < length rest
shorter_rest rest line after utf8 split = let first = first_line rest line after utf8 split in first.shorter

pub after_text : (rest line after : List ℕ) → IsUtf8 rest
    → SplitsAroundMatch (FindsChar 10) rest line after → IsUtf8 after
after_text rest line after utf8 split = let first = first_line rest line after utf8 split in first.after_utf8

-- the last line, which has no LF
pub last_line : (changed next rest whole : List ℕ) → IsUtf8 changed → IsUtf8 rest → FindsChar 10 rest None
    → next ≡ changed ++ rest → chars changed ++ with_crlf (chars rest) ≡ whole → chars next ≡ whole
last_line changed next rest whole utf8 rest_utf8 none e h =
    ap chars e ∙ chars-append changed rest utf8 ∙ ap (λ xs. chars changed ++ xs)
    (sym (same_without (chars rest) (none_of_text (λ c. c == 10) rest rest_utf8 none))) ∙ h
