-- Blank space and comments, a piece at a time: what is after them.
use Rattle.std.proofs.Common.{◌≡◌, ℕ, zero, suc, ◌<◌, Bool, true, false, ◌==◌, ◌||◌, ◌&&◌, not, nat_lt, refl, sym, ap, ◌∙◌, arith, List, [], ◌∷◌, Option, Some, None, chars}
use Rattle.std.specs.Prelude.{option_map}
use Rattle.std.specs.Option.{unwrap_or}
use Rattle.std.specs.Borrow.{Bor}
use Rattle.std.proofs.lemmas.Grind.{common_steps}
use Rattle.wgsl_model.specs.Tokens.Characters.{is_blank, is_line_break}
use Rattle.wgsl_model.specs.Tokens.Trivia.{after_trivia, outside, in_line, in_block, first_or_zero}
use Rattle.wgsl_lex_scanner.specs.Digits.{skip_while}
use Rattle.wgsl_lex_scanner.specs.Trivia.{BeginsWithNone, IsInLine, after_line, after_block}

-- ---- bytes of ASCII

pub blank_byte_bound : (c : ℕ) → ((nat_lt 8 c && nat_lt c 14) || c == 32) ≡ true → c < 128
blank_byte_bound c h = grind (arith, common_steps)

blank_byte : (c : ℕ) → c < 128 → is_blank c ≡ ((nat_lt 8 c && nat_lt c 14) || c == 32)
blank_byte c low = grind (arith, common_steps)

pub blank_byte_is : (c : ℕ) → ((nat_lt 8 c && nat_lt c 14) || c == 32) ≡ true → is_blank c ≡ true
blank_byte_is c h = blank_byte c (blank_byte_bound c h) ∙ h

low_and_other : (c : ℕ) → (nat_lt c 128 && not (c == 47)) ≡ true → (c < 128) × ((c == 47) ≡ false)
low_and_other c h = (grind (arith, common_steps), grind (arith, common_steps))

pub no_comment_bound : (c : ℕ) → (nat_lt c 128 && not (c == 47)) ≡ true → c < 128
no_comment_bound c h = (low_and_other c h).0

pub no_piece : (c : ℕ) (cs : List ℕ) → ((nat_lt 8 c && nat_lt c 14) || c == 32) ≡ false
    → (nat_lt c 128 && not (c == 47)) ≡ true → BeginsWithNone (c ∷ cs)
no_piece c cs blank h = let both = low_and_other c h in (blank_byte c both.0 ∙ blank, rw both.1 refl, rw both.1 refl)

pub line_byte_bound : (c : ℕ) → (nat_lt c 128 && not (nat_lt 9 c && nat_lt c 14)) ≡ true → c < 128
line_byte_bound c h = grind (arith, common_steps)

pub line_byte : (c : ℕ) → (nat_lt c 128 && not (nat_lt 9 c && nat_lt c 14)) ≡ true → is_line_break c ≡ false
line_byte c h = grind (arith, common_steps)

-- ---- blanks, and where nothing is passed over

pub over_blank : (c : ℕ) (text cs : List ℕ) → text ≡ c ∷ cs → is_blank c ≡ true
    → after_trivia outside text ≡ after_trivia outside cs
unfolding after_trivia
over_blank c text cs e b = rw (e, b) refl

pub over_none : (text : List ℕ) → BeginsWithNone text → after_trivia outside text ≡ text
unfolding after_trivia
over_none [] h = refl
over_none (c ∷ cs) h = rw (h.0, h.1, h.2) refl

-- ---- lines

pub line_goes_on : (text cs : List ℕ) → IsInLine text cs → after_line text ≡ after_line cs
unfolding skip_while
line_goes_on text cs (c, e, n) = rw (e, n) refl

pub line_ends : (c : ℕ) (cs : List ℕ) → is_line_break c ≡ true → after_line (c ∷ cs) ≡ c ∷ cs
unfolding skip_while
line_ends c cs h = rw h refl

pub no_line : after_line [] ≡ []
unfolding skip_while
no_line = refl

break_is_blank : (c : ℕ) → is_line_break c ≡ true → is_blank c ≡ true
break_is_blank c h = grind (arith, common_steps)

pub after_line-left : (text : List ℕ) → after_trivia outside (after_line text) ≡ after_trivia in_line text
unfolding after_trivia skip_while
after_line-left [] = refl
after_line-left (c ∷ cs) = go (is_line_break c) refl (after_line-left cs)
  where
    go : (b : Bool) → is_line_break c ≡ b → after_trivia outside (after_line cs) ≡ after_trivia in_line cs
        → after_trivia outside (after_line (c ∷ cs)) ≡ after_trivia in_line (c ∷ cs)
    go true e h = rw (e, break_is_blank c e) refl
    go false e h = rw e h

-- a line comment
pub over_line : (text body : List ℕ) → text ≡ 47 ∷ (47 ∷ body)
    → after_trivia outside text ≡ after_trivia outside (after_line body)
unfolding after_trivia
over_line text body e = rw e (sym (after_line-left body))

-- ---- block comments

pub block_goes : (n c : ℕ) (cs : List ℕ) → (c == 47 && first_or_zero cs == 42) ≡ false
    → (c == 42 && first_or_zero cs == 47) ≡ false → after_block n (c ∷ cs) ≡ after_block n cs
unfolding after_block
block_goes n c [] h k = refl
block_goes zero c (d ∷ cs) h k = rw (h, k) refl
block_goes (suc n) c (d ∷ cs) h k = rw (h, k) refl

pub block_opens : (n : ℕ) (cs : List ℕ) → after_block n (47 ∷ (42 ∷ cs)) ≡ after_block (suc n) cs
unfolding after_block
block_opens zero cs = refl
block_opens (suc n) cs = refl

pub block_ends : (cs : List ℕ) → after_block 0 (42 ∷ (47 ∷ cs)) ≡ Some cs
unfolding after_block
block_ends cs = refl

pub block_closes : (n : ℕ) (cs : List ℕ) → after_block (suc n) (42 ∷ (47 ∷ cs)) ≡ after_block n cs
unfolding after_block
block_closes n cs = refl

pub no_block : (n : ℕ) → after_block n [] ≡ None
unfolding after_block
no_block zero = refl
no_block (suc n) = refl

-- after it what is after the blank space and the comments inside it, and nothing if it is not
-- closed
abbrev BlockLeft : ℕ → List ℕ → Type 0
BlockLeft n text = after_trivia outside (unwrap_or (after_block n text) []) ≡ after_trivia (in_block n) text

-- the same of the rest after a closing sign
abbrev ClosedLeft : ℕ → List ℕ → Type 0
ClosedLeft zero text = Unit {0}
ClosedLeft (suc n) text = BlockLeft n text

last_left : (n c : ℕ) (a b : Bool) → (c == 47 && false) ≡ a → (c == 42 && false) ≡ b → BlockLeft n (c ∷ [])
unfolding after_trivia after_block
last_left n c true b e f = rw e refl
last_left n c false true e f = rw (e, f) refl
last_left n c false false e f = rw (e, f) refl

two_left : (n c d : ℕ) (cs : List ℕ) (a b : Bool) → (c == 47 && d == 42) ≡ a → (c == 42 && d == 47) ≡ b
    → BlockLeft (suc n) cs → ClosedLeft n cs → BlockLeft n (d ∷ cs) → BlockLeft n (c ∷ (d ∷ cs))
unfolding after_trivia after_block
two_left zero c d cs true b e f opened closed other = rw e opened
two_left zero c d cs false true e f opened closed other = rw (e, f) refl
two_left zero c d cs false false e f opened closed other = rw (e, f) other
two_left (suc n) c d cs true b e f opened closed other = rw e opened
two_left (suc n) c d cs false true e f opened closed other = rw (e, f) closed
two_left (suc n) c d cs false false e f opened closed other = rw (e, f) other

block_left : (n : ℕ) (text : List ℕ) → BlockLeft n text
unfolding after_trivia after_block
block_left n [] = refl
block_left n (c ∷ []) = last_left n c (c == 47 && false) (c == 42 && false) refl refl
block_left zero (c ∷ (d ∷ cs)) = two_left zero c d cs (c == 47 && d == 42)
    (c == 42 && d == 47) refl refl (block_left 1 cs) tt (block_left zero (d ∷ cs))
block_left (suc n) (c ∷ (d ∷ cs)) = two_left (suc n) c d cs (c == 47 && d == 42) (c == 42 && d == 47)
    refl refl (block_left (suc (suc n)) cs) (block_left n cs) (block_left (suc n) (d ∷ cs))

left_chars : (r : Option (Bor (List ℕ))) (nothing : Bor (List ℕ)) → chars nothing.now ≡ []
    → unwrap_or (option_map (λ rest. chars rest.now) r) [] ≡ chars (unwrap_or r nothing).now
left_chars None nothing e = sym e
left_chars (Some rest) nothing e = refl

-- a block comment
pub over_block : (text body : List ℕ) (r : Option (Bor (List ℕ))) (nothing : Bor (List ℕ))
    → text ≡ 47 ∷ (42 ∷ body) → option_map (λ rest. chars rest.now) r ≡ after_block 0 body
    → chars nothing.now ≡ []
    → after_trivia outside text ≡ after_trivia outside (chars (unwrap_or r nothing).now)
unfolding after_trivia
over_block text body r nothing e is n =
    rw e (sym (block_left 0 body)) ∙ ap (λ o. after_trivia outside (unwrap_or o [])) (sym is)
    ∙ ap (after_trivia outside) (left_chars r nothing n)
