-- Steps over lines and block comments, a character at a time.
use Rattle.std.proofs.Common.{◌≡◌, ℕ, zero, suc, ◌+◌, ◌-◌, false, ◌&&◌, List, [], ◌∷◌, Option, Some, None, chars, refl, sym, ap, ◌∙◌, arith}
use Rattle.std.specs.Prelude.{◌==◌, MatchOption, ⊤}
use Rattle.std.specs.Borrow.{Bor}
use Rattle.wgsl_model.specs.Tokens.Trivia.{Place, after_trivia, outside, in_line, in_block, out_of_block, first_or_zero}
use Rattle.wgsl_theory_grammar.proofs.Tokens.Cuts.{EndsWith, joined}
use Rattle.wgsl_lex_scanner.specs.declared.trivia.Piece.{Piece}
use Rattle.wgsl_lex_scanner.specs.declared.trivia.Piece.TheVariants as piece
use Rattle.wgsl_lex_scanner.specs.Trivia.{BeginsWith, piece_rest, IsInLine, after_line}
use Rattle.wgsl_lex_scanner.proofs.Pieces.{after_line-left}
use Rattle.wgsl_lex_comments.specs.Comments.{Leaves}

-- what follows one character, or two, of an end of a source ends the source
pub after_one : (source text cs : List ℕ) (c : ℕ) → EndsWith source text → text ≡ c ∷ cs → EndsWith source cs
after_one source text cs c h e = joined source text cs h (c ∷ [], e)

pub after_two : (source text cs : List ℕ) (c d : ℕ) → EndsWith source text → text ≡ c ∷ (d ∷ cs) → EndsWith source cs
after_two source text cs c d h e = joined source text cs h (c ∷ (d ∷ []), e)

-- and what follows a blank or a sign
pub after_begun : (source text : List ℕ) (p : Piece) → EndsWith source text → BeginsWith text p
    → EndsWith source (chars (piece_rest p))
after_begun source text (piece.Blank after) h begins = after_one source text (chars after.now) begins.0 h begins.1
after_begun source text (piece.LineComment body) h begins = after_two source text (chars body.now) 47 47 h begins
after_begun source text (piece.BlockComment body) h begins = after_two source text (chars body.now) 47 42 h begins

-- ---- in a line
pub along : (text cs : List ℕ) → IsInLine text cs → after_trivia in_line text ≡ after_trivia in_line cs
unfolding after_trivia
along text cs (c, e, n) = rw (e, n) refl

pub at_end : (text : List ℕ) → after_line text ≡ text → after_trivia outside text ≡ after_trivia in_line text
at_end text e = ap (after_trivia outside) (sym e) ∙ after_line-left text

-- what is found of a line comment in another
pub over_line : (text body : List ℕ) (r : Option (Bor (List ℕ))) → text ≡ 47 ∷ (47 ∷ body)
    → MatchOption r ⊤ (λ over. Leaves text (chars over.now))
    → MatchOption r ⊤ (λ over. after_trivia outside (chars over.now) ≡ after_trivia in_line text)
unfolding after_trivia
over_line text body None e l = l
over_line text body (Some over) e l = l.line body e ∙ ap (after_trivia in_line) (sym e)

-- ---- in a block comment
pub goes : (n c : ℕ) (text cs : List ℕ) → text ≡ c ∷ cs
    → (c == 47 && first_or_zero cs == 42) ≡ false → (c == 42 && first_or_zero cs == 47) ≡ false
    → after_trivia (in_block n) cs ≡ after_trivia (in_block n) text
unfolding after_trivia
goes n c text cs e h k = rw (e, h, k) refl

pub goes_in : (n : ℕ) (text body : List ℕ) → text ≡ 47 ∷ (42 ∷ body)
    → after_trivia (in_block (suc n)) body ≡ after_trivia (in_block n) text
unfolding after_trivia
goes_in n text body e = rw e refl

pub goes_out : (n : ℕ) (text outer : List ℕ) → text ≡ 42 ∷ (47 ∷ outer)
    → after_trivia (out_of_block n) outer ≡ after_trivia (in_block n) text
unfolding after_trivia
goes_out n text outer e = rw e refl

-- over a known block comment in another
pub goes_over : (n : ℕ) (text body over : List ℕ) → text ≡ 47 ∷ (42 ∷ body) → Leaves text over
    → after_trivia (in_block n) over ≡ after_trivia (in_block n) text
goes_over n text body over e l = l.block body (suc n) e ∙ goes_in n text body e

-- where nothing is left it is the same wherever one is
pub none_left : (p q : Place) (cs : List ℕ) → cs ≡ [] → after_trivia p cs ≡ after_trivia q cs
unfolding after_trivia
none_left p q [] e = refl
none_left p q (c ∷ cs) e = absurd cc

-- after the end of a comment that is in others
pub closed_deeper : (m n : ℕ) → m ≡ suc n → out_of_block m ≡ in_block n
closed_deeper m n e = rw e refl

pub one_less : (n d : ℕ) → (d ≡ 0 → ⊥) → n + d ≡ suc (n + (d - 1))
one_less n zero z = absurd (z refl)
one_less n (suc d) z = omega arith
