-- Words: the longest one at the front of a text.
use Rattle.std.proofs.Common.{◌≡◌, ℕ, ◌<◌, Bool, true, false, ◌==◌, ◌||◌, refl, ap, List, [], ◌∷◌, ◌++◌, Some, ◌∙◌, lit<}
use Rattle.std.specs.Char.{is_ascii_alphabetic}
use Rattle.std.specs.Str.{encode_utf8_all}
use Rattle.unicode_ident.specs.Ident.{is_xid_start, is_xid_continue}
use Rattle.unicode_ident.proofs.IdentLemmas.{is_xid_start-ascii}
use Rattle.wgsl_model.specs.Tokens.Pattern.{Pattern, empty, one, any, both, either, after_spelling}
use Rattle.wgsl_model.specs.Tokens.Raw.{raw_at, token, front, kind_of_word, spelled}
use Rattle.wgsl_model.specs.Tokens.Spelling.{spelling}
use Rattle.wgsl_lex_scanner.specs.Digits.{skip_while}
use Rattle.wgsl_lex_scanner.specs.Scanning.{after_word}
use Rattle.wgsl_lex_scanner.proofs.Derivative.{after}
use Rattle.wgsl_lex_scanner.proofs.Steps.{after_spelling-nil}
use Rattle.wgsl_lex_scanner.proofs.Walk.{after_spelling-stop, after_spelling-go, at_code, run_of, run_is, after_spelling-run, IsPast, past}
use Rattle.wgsl_model.proofs.Tokens.Fronts.{front-append}
use Rattle.wgsl_model.proofs.Tokens.Characters.{other_than}
use Rattle.wgsl_lex_scanner.proofs.Cut.{front-whole}
use Rattle.wgsl_lex_scanner.proofs.CharacterClasses.{start_not_digit}

-- more of a word may follow
abbrev word_left : Pattern
word_left = any is_xid_continue

word_ends : (s : List ℕ) → IsPast is_xid_continue s → after_spelling word_left s ≡ Some s
word_ends [] e = after_spelling-nil word_left
word_ends (c ∷ cs) e = after_spelling-stop word_left c cs (rw e refl) refl

word-longest : (s : List ℕ) → after_spelling word_left s ≡ Some (after_word s)
word-longest s = after_spelling-run is_xid_continue word_left (λ c h. rw h refl) refl s
    ∙ word_ends (after_word s) (past is_xid_continue s)

-- after `_`: more of a word, or nothing
abbrev underscore_left : Pattern
underscore_left = either (both (one is_xid_continue) (any is_xid_continue)) empty

underscore_one : (b : Bool) (c : ℕ) (cs : List ℕ) → is_xid_continue c ≡ b
    → after_spelling underscore_left (c ∷ cs) ≡ Some (after_word (c ∷ cs))
unfolding skip_while
underscore_one true c cs e =
    after_spelling-go underscore_left word_left c cs (after_word cs) (rw e refl) (word-longest cs)
    ∙ rw e refl
underscore_one false c cs e = after_spelling-stop underscore_left c cs (rw e refl) refl ∙ rw e refl

underscore-longest : (s : List ℕ) → after_spelling underscore_left s ≡ Some (after_word s)
unfolding skip_while
underscore-longest [] = after_spelling-nil underscore_left
underscore-longest (c ∷ cs) = underscore_one (is_xid_continue c) c cs refl

after-start : (c : ℕ) → is_xid_start c ≡ true → after c spelling ≡ word_left
after-start c h =
    let o = λ (k : ℕ) (small : k < 128) (letter : is_ascii_alphabetic k ≡ false).
    other_than is_xid_start c h k (is_xid_start-ascii k small ∙ letter) in
    rw (
      h,
      start_not_digit c h,
      o 33 (lit< tt) refl,
      o 37 (lit< tt) refl,
      o 38 (lit< tt) refl,
      o 40 (lit< tt) refl,
      o 41 (lit< tt) refl,
      o 42 (lit< tt) refl,
      o 43 (lit< tt) refl,
      o 44 (lit< tt) refl,
      o 45 (lit< tt) refl,
      o 46 (lit< tt) refl,
      o 47 (lit< tt) refl,
      o 48 (lit< tt) refl,
      o 58 (lit< tt) refl,
      o 59 (lit< tt) refl,
      o 60 (lit< tt) refl,
      o 61 (lit< tt) refl,
      o 62 (lit< tt) refl,
      o 64 (lit< tt) refl,
      o 91 (lit< tt) refl,
      o 93 (lit< tt) refl,
      o 94 (lit< tt) refl,
      o 95 (lit< tt) refl,
      o 123 (lit< tt) refl,
      o 124 (lit< tt) refl,
      o 125 (lit< tt) refl,
      o 126 (lit< tt) refl,
    ) refl

start-longest : (b : Bool) (c : ℕ) (cs : List ℕ) → is_xid_start c ≡ b → (b || c == 95) ≡ true
    → after_spelling spelling (c ∷ cs) ≡ Some (after_word cs)
start-longest true c cs e h = after_spelling-go spelling word_left c cs (after_word cs)
    (after-start c e) (word-longest cs)
start-longest false c cs e h =
    let P : ℕ → Type 0 = λ c. (c == 95) ≡ true → after_spelling spelling (c ∷ cs) ≡ Some (after_word cs) in
    at_code 95 c P (λ _. after_spelling-go spelling underscore_left 95 cs (after_word cs)
    (rw (is_xid_start-ascii 95 (lit< tt)) refl) (underscore-longest cs)) (λ other. λ h. absurd (cc)) h

-- a word is cut where it ends
pub word-cut : (c : ℕ) (cs : List ℕ) → c ∷ cs ≡ front (c ∷ cs) (after_word cs) ++ after_word cs
word-cut c cs = front-whole (c ∷ run_of is_xid_continue cs) (c ∷ cs) (after_word cs)
    (ap (λ xs. c ∷ xs) (run_is is_xid_continue cs))

-- the token of a word
pub word-read : (c : ℕ) (cs : List ℕ) → (is_xid_start c || c == 95) ≡ true → raw_at (c ∷ cs)
    ≡ token (kind_of_word (encode_utf8_all (front (c ∷ cs) (after_word cs)))) (c ∷ cs) (after_word cs)
word-read c cs h =
    let w = run_of is_xid_continue cs in
    let t = after_word cs in
    let whole : c ∷ cs ≡ (c ∷ w) ++ t = ap (λ xs. c ∷ xs) (run_is is_xid_continue cs) in
    let spelling_is : front (c ∷ cs) t ≡ c ∷ w = ap (λ x. front x t) whole ∙ front-append (c ∷ w) t in
    ap (spelled (c ∷ cs) cs) (start-longest (is_xid_start c) c cs refl h) ∙ rw (spelling_is, h) refl
