-- Texts in which each closing bracket that begins a line is as deep as the line of its opening
-- bracket: what may come before such a text.
use Rattle.std.proofs.Common.{◌≡◌, ℕ, ◌==◌, ◌||◌, Bool, true, false, cond, refl, sym, subst, ◌∙◌, List, [], ◌∷◌, ◌++◌, append_assoc, append-nil, drop}
use Rattle.std.proofs.lemmas.Bool.{true≢false, false_from_ne_true}
use Rattle.std.specs.Char.{is_whitespace}
use Rattle.wgsl_model.specs.Tokens.Characters.{is_blank, is_line_break}
use Rattle.wgsl_model.specs.Tokens.Trivia.{Place, outside, in_line, in_block, second}
use Rattle.wgsl_model_tidy.specs.Lines.{next_place}
use Rattle.wgsl_model_tidy.specs.Brackets.{Line, blank, begun, in_comment, next_line, opens_at, closes_at}
use Rattle.wgsl_model_tidy.specs.Layout.{Layout}
use Rattle.wgsl_model_tidy.specs.LaidOut.{gap_text, indentation, broken}
use Rattle.wgsl_theory_tidy.proofs.Levels.{IsIndent, no_indent, one_space, one_tab, indentation_indent}
use Rattle.wgsl_theory_tidy.proofs.Comments.{OnLine}
use Rattle.wgsl_theory_tidy.proofs.Kept.NeatTexts.{CanBreak, break_is_blank}

-- ---- each character where it is

-- outside comments a character is a bracket that opens or closes
abbrev pub is_opening : ℕ → Bool
is_opening c = opens_at outside c

abbrev pub is_closing : ℕ → Bool
is_closing c = closes_at outside c

-- the lines of the open brackets after a character, with which this line ends
abbrev pub next_opened : Place → Line → List Line → ℕ → List Line
next_opened p line opened c = cond (opens_at p c) (line ∷ opened) (cond (closes_at p c) (drop 1 opened) opened)

-- a character may come there: if it is a closing bracket that begins a line, the line is as deep as
-- that of the opening bracket
abbrev pub Aligns : Place → Line → List Line → ℕ → Type 0
Aligns p line opened c = closes_at p c ≡ true → (space start : List ℕ) (outer : List Line)
    → line ≡ blank space → opened ≡ begun start ∷ outer → space ≡ start

-- each character of a text may come there
abbrev pub Aligned : Place → Line → List Line → List ℕ → Type 0
Aligned p line opened [] = Unit {0}
Aligned p line opened (c ∷ cs) = Aligns p line opened c
    × Aligned (next_place p c cs) (next_line p line c) (next_opened p (next_line p line c) opened c) cs

-- a character that is no closing bracket
pub no_closing : (p : Place) (line : Line) (opened : List Line) (c : ℕ) → closes_at p c ≡ false → Aligns p line opened c
no_closing p line opened c h k = absurd (true≢false (sym k ∙ h))

-- a line in which more than blank space is
abbrev pub entered : Line → Line
entered (blank space) = begun space
entered line = line

pub entered_twice : (line : Line) → entered (entered line) ≡ entered line
entered_twice (blank space) = refl
entered_twice (begun space) = refl
entered_twice (in_comment) = refl

-- ---- characters of tokens

-- a character that is not blank is no line break
pub no_break : (c : ℕ) → is_blank c ≡ false → is_line_break c ≡ false
no_break c h = false_from_ne_true (is_line_break c)
    (λ l. blank_too (is_whitespace c) (c == 0x200E || c == 0x200F) (break_is_blank c l) h)
  where
    blank_too : (x y : Bool) → x ≡ true → (x || y) ≡ false → ⊥
    blank_too true y e f = true≢false f
    blank_too false y e f = true≢false (sym e)

pub enters : (p : Place) (line : Line) (c : ℕ) → is_blank c ≡ false → next_line p line c ≡ entered line
enters p (blank space) c h = rw (no_break c h, h) refl
enters p (begun space) c h = rw (no_break c h) refl
enters p (in_comment) c h = rw (no_break c h) refl

-- one that is neither blank nor a bracket, with which no comment begins
pub plain_character : (line : Line) (opened : List Line) (c : ℕ) (cs : List ℕ) → is_blank c ≡ false
    → next_place outside c cs ≡ outside → is_opening c ≡ false → is_closing c ≡ false
    → Aligned outside (entered line) opened cs → Aligned outside line opened (c ∷ cs)
plain_character line opened c cs h p o k a =
    (no_closing outside line opened c k, rw (p, enters outside line c h, o, k) a)

-- ---- blank space between tokens

space_over : (xs : List ℕ) → IsIndent xs → (space : List ℕ) (opened : List Line) (r : List ℕ)
    → Aligned outside (blank (space ++ xs)) opened r → Aligned outside (blank space) opened (xs ++ r)
space_over _ (no_indent) space opened r a = subst (λ s. Aligned outside (blank s) opened r) (append-nil space) a
space_over _ (one_space xs i) space opened r a = (
  no_closing outside (blank space) opened 32 refl,
  space_over xs i (space ++ (32 ∷ [])) opened r
      (subst (λ s. Aligned outside (blank s) opened r) (sym (append_assoc space (32 ∷ []) xs)) a),
)
space_over _ (one_tab xs i) space opened r a = (
  no_closing outside (blank space) opened 9 refl,
  space_over xs i (space ++ (9 ∷ [])) opened r
      (subst (λ s. Aligned outside (blank s) opened r) (sym (append_assoc space (9 ∷ []) xs)) a),
)

-- a line break and the blank space of the next line
pub break_over : (layout : Layout) (p : Place) → CanBreak p
    → (empty : Bool) (depth : ℕ) (line : Line) (opened : List Line) (r : List ℕ)
    → Aligned outside (blank (indentation layout depth)) opened r
    → Aligned p line opened (gap_text layout (broken empty depth) ++ r)
break_over layout outside o true depth line opened r a = (
  no_closing outside line opened 10 refl,
  (
    no_closing outside (blank []) opened 10 refl,
    space_over (indentation layout depth) (indentation_indent layout depth) [] opened r a,
  ),
)
break_over layout outside o false depth line opened r a = (
  no_closing outside line opened 10 refl,
  space_over (indentation layout depth) (indentation_indent layout depth) [] opened r a,
)
break_over layout in_line o true depth line opened r a = (
  no_closing in_line line opened 10 refl,
  (
    no_closing outside (blank []) opened 10 refl,
    space_over (indentation layout depth) (indentation_indent layout depth) [] opened r a,
  ),
)
break_over layout in_line o false depth line opened r a = (
  no_closing in_line line opened 10 refl,
  space_over (indentation layout depth) (indentation_indent layout depth) [] opened r a,
)
break_over layout (in_block n) o empty depth line opened r a = absurd o
break_over layout (second p) o empty depth line opened r a = absurd o

-- a space in a line in which more is
pub one_space_over : (line : Line) (opened : List Line) (r : List ℕ) → entered line ≡ line
    → Aligned outside line opened r → Aligned outside line opened (32 ∷ r)
one_space_over (blank space) opened r e a = absurd cc
one_space_over (begun space) opened r e a = (no_closing outside (begun space) opened 32 refl, a)
one_space_over (in_comment) opened r e a = (no_closing outside in_comment opened 32 refl, a)

-- ---- comments

-- a line in which more is goes on
pub stays_entered : (p : Place) (line : Line) (c : ℕ) → is_line_break c ≡ false
    → next_line p (entered line) c ≡ entered line
stays_entered p (blank space) c h = rw h refl
stays_entered p (begun space) c h = rw h refl
stays_entered p (in_comment) c h = rw h refl

-- the sign of a comment
pub sign_over : (p : Place) (d : ℕ) (r : List ℕ) → is_line_break d ≡ false
    → next_place outside 47 (d ∷ r) ≡ second p → (line : Line) (opened : List Line)
    → Aligned p (entered line) opened r → Aligned outside line opened (47 ∷ (d ∷ r))
sign_over p d r l e line opened a = (
  no_closing outside line opened 47 refl,
  rw (e, enters outside line 47 refl) ((λ h q. absurd cc), rw (stays_entered (second p) line d l) a),
)

-- in a line in which more is, and in one that begins in a comment
abbrev pub AlignedEither : Place → Line → List Line → List ℕ → Type 0
AlignedEither p line opened r = Aligned p (entered line) opened r × Aligned p in_comment opened r

-- the text of a line comment
pub line_over : (xs r : List ℕ) → OnLine xs → (line : Line) (opened : List Line)
    → Aligned in_line (entered line) opened r → Aligned in_line (entered line) opened (xs ++ r)
line_over [] r h line opened a = a
line_over (x ∷ xs) r h line opened a =
    ((λ k e. absurd cc), rw (stays_entered in_line line x h.0, h.0) (line_over xs r h.1 line opened a))

-- a character of a block comment
pub block_over : (n c : ℕ) (cs : List ℕ) (line : Line) (opened : List Line)
    → AlignedEither (next_place (in_block n) c cs) line opened cs
    → AlignedEither (in_block n) line opened (c ∷ cs)
block_over n c cs line opened a =
    (((λ k e. absurd cc), go (is_line_break c) refl), ((λ k e. absurd cc), gone (is_line_break c)))
  where
    p : Place
    p = next_place (in_block n) c cs

    broken_line : is_line_break c ≡ true → next_line (in_block n) (entered line) c ≡ in_comment
    broken_line h = rw h refl

    go : (b : Bool) → is_line_break c ≡ b → Aligned p (next_line (in_block n) (entered line) c) opened cs
    go true h = subst (λ l. Aligned p l opened cs) (sym (broken_line h)) a.1
    go false h = subst (λ l. Aligned p l opened cs) (sym (stays_entered (in_block n) line c h)) a.0

    gone : (b : Bool) → Aligned p (cond b in_comment in_comment) opened cs
    gone true = a.1
    gone false = a.1

-- the second character of a sign
pub second_over : (p : Place) (c : ℕ) (cs : List ℕ) (line : Line) (opened : List Line)
    → is_line_break c ≡ false → AlignedEither p line opened cs
    → AlignedEither (second p) line opened (c ∷ cs)
second_over p c cs line opened h a =
    (((λ k e. absurd cc), rw (stays_entered (second p) line c h) a.0), ((λ k e. absurd cc), rw h a.1))
