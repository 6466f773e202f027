-- A token once more at the front of its own text, and the characters of a `<`.
use Rattle.std.proofs.Common.{◌≡◌, ℕ, Bool, true, not, ◌||◌, ◌==◌, eqb-true, refl, sym, ap, subst, ◌∙◌, List, [], ◌∷◌, ◌++◌, Option, Some, None, drop}
use Rattle.std.specs.Prelude.{bytes_eq}
use Rattle.std.proofs.lemmas.Slice.Eq.{bytes_eq-Decides}
use Rattle.grammar.proofs.Reading.Sets.{implied}
use Rattle.wgsl_lex_scanner.proofs.Cut.{front-whole}
use Rattle.wgsl_model.specs.Tokens.Templates.{begins_with_greater}
use Rattle.wgsl_theory_grammar.proofs.Tokens.Bare.{bare_after_trivia}
use Rattle.wgsl_theory_grammar.proofs.Tokens.Classes.{all_pass}
use Rattle.wgsl_theory_grammar.proofs.Tokens.Cuts.{cut_at}
use Rattle.wgsl_theory_grammar.proofs.Tokens.Symbols.{each_passes, found_passes, none_passes, other_classes, is_symbol}
use Rattle.wgsl_model.specs.Tokens.ClassTable.{SymLessThan, symbols, keywords}
use Rattle.wgsl_model.specs.Tokens.Kind.{Kind}
use Rattle.wgsl_model.specs.Tokens.Pattern.{after_spelling}
use Rattle.wgsl_model.specs.Tokens.Spelling.{spelling}
use Rattle.wgsl_model.specs.Tokens.Trivia.{outside, first_or_zero, after_trivia}
use Rattle.wgsl_model.specs.Tokens.Raw.{Raw, none_left, invalid, token, front, kind_of_spelling, valued, spelled, raw_at, raw}

-- ---- a token is at the front of its text
abbrev StandsAt : List ℕ → Raw → Type 0
StandsAt text none_left = Unit {0}
StandsAt text (invalid from after) = from ≡ text
StandsAt text (token kind from after) = from ≡ text

valued_stands : (text rest : List ℕ) (o : Option Kind) → StandsAt text (valued text rest o)
valued_stands text rest None = refl
valued_stands text rest (Some k) = refl

spelled_stands : (text cs : List ℕ) (o : Option (List ℕ)) → StandsAt text (spelled text cs o)
spelled_stands text cs None = refl
spelled_stands text cs (Some rest) = valued_stands text rest (kind_of_spelling (front text rest))

at_stands : (text : List ℕ) → StandsAt text (raw_at text)
at_stands [] = tt
at_stands (c ∷ cs) = spelled_stands (c ∷ cs) cs (after_spelling spelling (c ∷ cs))

-- so the same token is at the front of its own text
pub raw_again : (text from after : List ℕ) (kind : Kind) → raw text ≡ token kind from after
    → raw from ≡ token kind from after
raw_again text from after kind e =
    let bare = after_trivia outside text in
    let same : from ≡ bare = subst (StandsAt bare) e (at_stands bare) in
    ap raw same ∙ ap raw_at (bare_after_trivia outside text) ∙ e

-- ---- the characters of a token
-- the words whose class passes are so
abbrev are_so : (ℕ → Bool) → (List ℕ → Bool) → List ℕ → ℕ → Bool
are_so test is_so word c = not (test c) || is_so word

module _ (test : ℕ → Bool) (is_so : List ℕ → Bool) (in_keywords : none_passes test keywords ≡ true)
    (in_symbols : each_passes (are_so test is_so) symbols ≡ true)
    (in_others : all_pass (λ c. not (test c)) other_classes ≡ true) where
  -- a token of a word, which is so if the class passes
  word_so : (word : List ℕ) (k : Kind) → kind_of_spelling word ≡ Some k → test k.class ≡ true → is_so word ≡ true
  word_so word k e l = implied (test k.class) (is_so word) (found_passes (are_so test is_so) symbols
      word k.class in_symbols (is_symbol test in_keywords in_others word k e l)) l

  abbrev Front : Raw → Type 0
  Front none_left = Unit {0}
  Front (invalid from after) = Unit {0}
  Front (token k from after) = test k.class ≡ true → is_so (front from after) ≡ true

  valued_front : (text rest : List ℕ) (o : Option Kind) → kind_of_spelling (front text rest) ≡ o
      → Front (valued text rest o)
  valued_front text rest None e = tt
  valued_front text rest (Some k) e = word_so (front text rest) k e

  spelled_front : (text cs : List ℕ) (o : Option (List ℕ)) → Front (spelled text cs o)
  spelled_front text cs None = tt
  spelled_front text cs (Some rest) = valued_front text rest (kind_of_spelling (front text rest)) refl

  at_front : (text : List ℕ) → Front (raw_at text)
  at_front [] = tt
  at_front (c ∷ cs) = spelled_front (c ∷ cs) cs (after_spelling spelling (c ∷ cs))

  -- the characters of a token whose class passes are so
  front_so : (text from after : List ℕ) (kind : Kind) → raw text ≡ token kind from after
      → test kind.class ≡ true → is_so (front from after) ≡ true
  front_so text from after kind e = subst Front e (at_front (after_trivia outside text))

token_front : (text from after : List ℕ) (kind : Kind) → raw text ≡ token kind from after
    → from ≡ front from after ++ after
token_front text from after kind e =
    let cut = (cut_at text from after kind e).1 in front-whole (cut.0 ∷ cut.1) from after cut.2

-- a `<` is one character
pub less_front : (text from after : List ℕ) (kind : Kind) → raw text ≡ token kind from after
    → kind.class ≡ SymLessThan → from ≡ 60 ∷ after
less_front text from after kind e l =
    let word = (bytes_eq-Decides (front from after) (60 ∷ [])).0 (front_so (λ c. c == SymLessThan)
    (λ w. bytes_eq w (60 ∷ [])) refl refl refl text from after kind e (ap (λ c. c == SymLessThan) l)) in
    token_front text from after kind e ∙ ap (λ w. w ++ after) word

pub less_first : (text from after : List ℕ) (kind : Kind) → raw text ≡ token kind from after
    → kind.class ≡ SymLessThan → (following : List ℕ) × (from ≡ 60 ∷ following)
less_first text from after kind e l = (after, less_front text from after kind e l)

-- where it begins the text, the rest of the text is after it
less_is_first : (tail : List ℕ) → after_trivia outside (60 ∷ tail) ≡ 60 ∷ tail
unfolding after_trivia
less_is_first tail = refl

pub after_less : (tail from after : List ℕ) (kind : Kind) → raw (60 ∷ tail) ≡ token kind from after
    → kind.class ≡ SymLessThan → tail ≡ after
after_less tail from after kind e l =
    let here : from ≡ after_trivia outside (60 ∷ tail) = subst
    (StandsAt (after_trivia outside (60 ∷ tail))) e (at_stands (after_trivia outside (60 ∷ tail))) in
    ap (drop 1) (sym (less_is_first tail) ∙ sym here ∙ less_front (60 ∷ tail) from after kind e l)

-- the text of a token that begins with `>` begins with the character
begun : (word after : List ℕ) → (first_or_zero word == 62) ≡ true → (following : List ℕ) × (word ++ after ≡ 62 ∷ following)
begun [] after h = absurd (cc)
begun (c ∷ cs) after h = (cs ++ after, ap (λ x. x ∷ (cs ++ after)) (eqb-true c 62 h))

pub greater_first : (text from after : List ℕ) (kind : Kind) → raw text ≡ token kind from after
    → begins_with_greater kind.class ≡ true → (following : List ℕ) × (from ≡ 62 ∷ following)
greater_first text from after kind e g =
    let first = begun (front from after) after (front_so begins_with_greater
    (λ w. first_or_zero w == 62) refl refl refl text from after kind e g) in
    (first.0, token_front text from after kind e ∙ first.1)
