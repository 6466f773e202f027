-- The characters of a token, and a neat text after them, make a neat text.
use Rattle.std.proofs.Common.{◌≡◌, ◌⊎◌, inl, inr, ℕ, ◌==◌, ◌||◌, Bool, true, false, cond, not, refl, sym, subst, List, [], ◌∷◌, ◌++◌}
use Rattle.std.specs.Char.{is_whitespace}
use Rattle.std.proofs.lemmas.Bool.{and_parts, not-true, true≢false}
use Rattle.wgsl_model.specs.Tokens.Characters.{is_blank}
use Rattle.wgsl_model.specs.Tokens.ClassTable.{TemplateArgsEnd}
use Rattle.wgsl_model.specs.Tokens.Kind.{Kind, plain}
use Rattle.wgsl_model.specs.Tokens.Trivia.{outside, in_line, in_block, second, first_or_zero, after_trivia}
use Rattle.wgsl_theory_printed.proofs.Spelling.Characters.{is_in_words}
use Rattle.wgsl_theory_printed.proofs.Spelling.Spellings.{IsSpelling}
use Rattle.wgsl_theory_printed.proofs.Spelling.Split.{Each}
use Rattle.wgsl_theory_printed.proofs.Spelling.WordCharacters.{spelled_word}
use Rattle.wgsl_model_tidy.specs.Lines.{next_place}
use Rattle.wgsl_model_tidy.specs.Roles.{template_end, beginning, at, attribute, is}
use Rattle.wgsl_model_tidy.specs.Open.{LayoutState, role_in, last_after}
use Rattle.wgsl_model_tidy.specs.LaidOut.{token}
use Rattle.wgsl_theory_tidy.proofs.Kept.Touching.{Shaped}
use Rattle.wgsl_theory_tidy.proofs.Kept.Neighbours.{not_beginning, shaped_after}
use Rattle.wgsl_theory_tidy.proofs.Kept.TokenRoles.{shaped}
use Rattle.wgsl_theory_tidy.proofs.Kept.Readings.{IsToken, is_word, is_slash, is_slash_equal, is_start, is_end}
use Rattle.wgsl_theory_tidy.proofs.Kept.TextFronts.{no_rest}
use Rattle.wgsl_theory_tidy.proofs.Kept.LaidTokens.{token_here}
use Rattle.wgsl_theory_tidy.proofs.Kept.NeatTexts.{start, solid, Neat, NeatWord, neat_word}
use Rattle.wgsl_theory_tidy.proofs.Kept.NeatPieces.{NeatAt}

-- a character that is not blank is not white
not_white : (c : ℕ) → is_blank c ≡ false → is_whitespace c ≡ false
not_white c = go (is_whitespace c) (c == 0x200E || c == 0x200F)
  where
    go : (w m : Bool) → (w || m) ≡ false → w ≡ false
    go true m e = absurd (true≢false e)
    go false m e = refl

-- characters that are neither blank nor `/`
word_character : (c : ℕ) (cs : List ℕ) → is_in_words c ≡ true → Neat outside solid cs → NeatWord (c ∷ cs)
word_character c cs h n =
    let parts = and_parts (not (is_blank c)) (not (c == 47)) h in
    (not_white c (not-true (is_blank c) parts.0), rw (not-true (c == 47) parts.1) n)

word_characters : (cs r : List ℕ) → Each is_in_words cs → Neat outside solid r → Neat outside solid (cs ++ r)
word_characters [] r h n = n
word_characters (c ∷ cs) r h n = neat_word solid (c ∷ (cs ++ r))
    (word_character c (cs ++ r) h.0 (word_characters cs r h.1 n))

spelled_neat : (k : Kind) (w r : List ℕ) → IsSpelling k w → Neat outside solid r → NeatWord (w ++ r)
spelled_neat k [] r s n = absurd s.begins
spelled_neat k (c ∷ cs) r s n =
    let t = spelled_word c cs s.begins.1 s.spelled in
    word_character c (cs ++ r) t.0 (word_characters cs r t.1 n)

-- a `/` with which no comment begins
pub slash_goes : (r : List ℕ) → after_trivia outside (47 ∷ r) ≡ 47 ∷ r → next_place outside 47 r ≡ outside
unfolding after_trivia
slash_goes r = go (first_or_zero r == 47) (first_or_zero r == 42)
  where
    go : (a b : Bool)
        → cond a (after_trivia (second in_line) r) (cond b (after_trivia (second (in_block 0)) r) (47 ∷ r)) ≡ 47 ∷ r
        → cond a (second in_line) (cond b (second (in_block 0)) outside) ≡ outside
    go true b e = absurd (no_rest (second in_line) 47 r e)
    go false true e = absurd (no_rest (second (in_block 0)) 47 r e)
    go false false e = refl

word_neat : (k : Kind) (w r : List ℕ) → IsToken k w r → Neat outside solid r → NeatWord (w ++ r)
word_neat k w r (is_word kind v rest m s e) n = spelled_neat k w r s n
word_neat k w r (is_slash rest e) n =
    (refl, subst (λ p. Neat p solid r) (sym (slash_goes r (token_here k w r (is_slash rest e)))) n)
word_neat k w r (is_slash_equal rest e) n = (refl, ((λ l. absurd cc), n))
word_neat k w r (is_start rest) n = (refl, n)
word_neat k w r (is_end rest) n = (refl, n)

-- ---- after a token the text has begun

end_role : (state : LayoutState) → is (last_after state template_end) beginning ≡ false
end_role state = go (is state.last at)
  where
    go : (b : Bool) → is (cond b attribute template_end) beginning ≡ false
    go true = refl
    go false = refl

has_begun : (state : LayoutState) (k : Kind) (before_operand : Bool) (w r : List ℕ) → IsToken k w r
    → is (last_after state (role_in state k.class before_operand)) beginning ≡ false
has_begun state k before_operand w r t = go (shaped state k before_operand w r t)
  where
    go : Shaped (role_in state k.class before_operand) w ⊎ (k ≡ plain TemplateArgsEnd)
        → is (last_after state (role_in state k.class before_operand)) beginning ≡ false
    go (inl h) = not_beginning (last_after state (role_in state k.class before_operand)) w
        (shaped_after state (role_in state k.class before_operand) w h)
    go (inr e) = subst
        (λ (j : Kind). is (last_after state (role_in state j.class before_operand)) beginning ≡ false)
        (sym e) (end_role state)

pub token_neat : (state : LayoutState) (k : Kind) (before_operand : Bool) (w r : List ℕ) → IsToken k w r
    → NeatAt token (last_after state (role_in state k.class before_operand)) r → NeatWord (w ++ r)
token_neat state k before_operand w r t n = word_neat k w r t
    (subst (λ b. Neat outside (cond b start solid) r) (has_begun state k before_operand w r t) n)
