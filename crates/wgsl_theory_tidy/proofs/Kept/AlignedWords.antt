-- A token, and after it a text in which each closing bracket that begins a line is as deep as
-- the line of its opening bracket.
use Rattle.std.proofs.Common.{◌≡◌, ℕ, ◌==◌, true, false, not, refl, subst, List, [], ◌∷◌, ◌++◌, drop, sym}
use Rattle.std.proofs.lemmas.Bool.{and_parts, not-true}
use Rattle.wgsl_model.specs.Tokens.Characters.{is_blank}
use Rattle.wgsl_model.specs.Tokens.Kind.{Kind}
use Rattle.wgsl_model.specs.Tokens.Trivia.{outside}
use Rattle.wgsl_model_tidy.specs.Brackets.{Line}
use Rattle.wgsl_model_tidy.specs.Lines.{next_place}
use Rattle.wgsl_theory_printed.proofs.Spelling.Characters.{is_in_words}
use Rattle.wgsl_theory_printed.proofs.Spelling.Spellings.{IsSpelling}
use Rattle.wgsl_theory_printed.proofs.Spelling.Split.{Each}
use Rattle.wgsl_theory_printed.proofs.Spelling.WordCharacters.{spelled_word}
use Rattle.wgsl_theory_tidy.proofs.Kept.Readings.{IsToken, is_word, is_slash, is_slash_equal, is_start, is_end}
use Rattle.wgsl_theory_tidy.proofs.Kept.LaidTokens.{token_here}
use Rattle.wgsl_theory_tidy.proofs.Kept.NeatWords.{slash_goes}
use Rattle.wgsl_theory_tidy.proofs.Kept.BracketWords.{is_plain, Solid}
use Rattle.wgsl_theory_tidy.proofs.Kept.AlignedTexts.{is_opening, is_closing, Aligns, Aligned, no_closing, entered, entered_twice, enters, plain_character}

-- ---- brackets

-- after a bracket the place is outside comments
stays_outside : (c : ℕ) (r : List ℕ) → Solid c → next_place outside c r ≡ outside
stays_outside c r s = rw s.1 refl

pub opening_over : (line : Line) (opened : List Line) (c : ℕ) (r : List ℕ) → Solid c
    → is_opening c ≡ true → is_closing c ≡ false
    → Aligned outside (entered line) (entered line ∷ opened) r → Aligned outside line opened (c ∷ r)
opening_over line opened c r s o k a =
    (no_closing outside line opened c k, rw (stays_outside c r s, enters outside line c s.0, o) a)

pub closing_over : (line : Line) (opened : List Line) (c : ℕ) (r : List ℕ) → Solid c
    → is_opening c ≡ false → is_closing c ≡ true → Aligns outside line opened c
    → Aligned outside (entered line) (drop 1 opened) r → Aligned outside line opened (c ∷ r)
closing_over line opened c r s o k f a = (f, rw (stays_outside c r s, enters outside line c s.0, o, k) a)

-- ---- other tokens

character_over : (line : Line) (opened : List Line) (c : ℕ) (cs : List ℕ) → is_in_words c ≡ true
    → is_plain c ≡ true → Aligned outside (entered line) opened cs → Aligned outside line opened (c ∷ cs)
character_over line opened c cs h p a =
    let parts = and_parts (not (is_blank c)) (not (c == 47)) h in
    let kinds = and_parts (not (is_opening c)) (not (is_closing c)) p in
    let solid : Solid c = (not-true (is_blank c) parts.0, not-true (c == 47) parts.1) in
    plain_character line opened c cs solid.0 (stays_outside c cs solid)
    (not-true (is_opening c) kinds.0) (not-true (is_closing c) kinds.1) a

characters_over : (c : ℕ) (cs r : List ℕ) (line : Line) (opened : List Line)
    → Each is_in_words (c ∷ cs) → Each is_plain (c ∷ cs) → Aligned outside (entered line) opened r
    → Aligned outside line opened ((c ∷ cs) ++ r)
characters_over c [] r line opened h p a = character_over line opened c r h.0 p.0 a
characters_over c (d ∷ ds) r line opened h p a =
    character_over line opened c ((d ∷ ds) ++ r) h.0 p.0 (characters_over d ds r (entered line)
    opened h.1 p.1 (subst (λ l. Aligned outside l opened r) (sym (entered_twice line)) a))

spelled_over : (k : Kind) (w r : List ℕ) (line : Line) (opened : List Line) → IsSpelling k w
    → Each is_plain w → Aligned outside (entered line) opened r → Aligned outside line opened (w ++ r)
spelled_over k [] r line opened s p a = absurd s.begins
spelled_over k (c ∷ cs) r line opened s p a = characters_over c cs r line opened
    (spelled_word c cs s.begins.1 s.spelled) p a

pub word_over : (k : Kind) (w r : List ℕ) (line : Line) (opened : List Line) → IsToken k w r
    → Each is_plain w → Aligned outside (entered line) opened r → Aligned outside line opened (w ++ r)
word_over k w r line opened (is_word j v rest m s e) p a = spelled_over k w r line opened s p a
word_over k w r line opened (is_slash rest e) p a = plain_character line opened 47 r refl
    (slash_goes r (token_here k w r (is_slash rest e))) refl refl a
word_over k w r line opened (is_slash_equal rest e) p a =
    plain_character line opened 47 (61 ∷ r) refl refl refl refl (plain_character (entered line) opened
    61 r refl refl refl refl (subst (λ l. Aligned outside l opened r) (sym (entered_twice line)) a))
word_over k w r line opened (is_start rest) p a = plain_character line opened 60 r refl refl refl refl a
word_over k w r line opened (is_end rest) p a = plain_character line opened 62 r refl refl refl refl a
