-- A spelling that does not begin with `/` has no blank space and no `/`.
use Rattle.std.proofs.Common.{◌≡◌, ℕ, ◌==◌, ◌||◌, ◌&&◌, Bool, true, false, refl, sym, List, [], ◌∷◌, ◌∙◌, map, arith}
use Rattle.std.proofs.lemmas.Bool.{and_parts, true≢false}
use Rattle.std.proofs.lemmas.Bool.Decides.{nat_tests}
use Rattle.wgsl_model.specs.Tokens.ClassTable.{symbols}
use Rattle.wgsl_model.specs.Tokens.Numbers.{number_spelling}
use Rattle.wgsl_model.specs.Tokens.Pattern.{begins, literal, any_of, spells}
use Rattle.wgsl_model.specs.Tokens.Spelling.{identifier, spelling}
use Rattle.wgsl_model.specs.Tokens.Trivia.{first_or_zero}
use Rattle.wgsl_theory_grammar.proofs.Tokens.Classes.{all_pass}
use Rattle.wgsl_theory_printed.proofs.Spelling.Split.{Each, Stricter, wider, by_either, spelled_each}
use Rattle.wgsl_theory_printed.proofs.Spelling.Fronts.{spelled_first, words_begin}
use Rattle.wgsl_theory_printed.proofs.Spelling.Signs.{one_of_three}
use Rattle.wgsl_theory_printed.proofs.Spelling.Characters.{is_in_words, xid_continue-in_words}
use Rattle.wgsl_theory_printed.proofs.Spelling.Scalars.{is_numeral, number_lets, identifier_lets, literal_lets}

numeral_in_words : Stricter is_numeral is_in_words
numeral_in_words c h = grind (arith, nat_tests)

-- a word that begins with `/`, or whose characters pass
abbrev begins_or_passes : List ℕ → Bool
begins_or_passes w = first_or_zero w == 47 || all_pass is_in_words w

abbrev all_so : List (List ℕ) → Bool
all_so [] = true
all_so (w ∷ ws) = begins_or_passes w && all_so ws

symbol_passes : (w : List ℕ) → begins_or_passes w ≡ true → (c : ℕ) (cs : List ℕ) → (c == 47) ≡ false
    → spells (literal w) (c ∷ cs) ≡ true → Each is_in_words (c ∷ cs)
unfolding begins
symbol_passes [] a c cs n h = absurd (true≢false (sym h))
symbol_passes (x ∷ xs) a c cs n h =
    by_either (x == 47) (all_pass is_in_words (x ∷ xs)) a
    (λ e. absurd (true≢false (sym (spelled_first (λ y. y == 47) (literal (x ∷ xs))
    (words_begin (λ y. y == 47) ((x ∷ xs) ∷ []) (begun e)).0 c cs h) ∙ n)))
    (λ e. spelled_each is_in_words (literal (x ∷ xs)) (literal_lets is_in_words (x ∷ xs) e) (c ∷ cs) h)
  where
    begun : (x == 47) ≡ true → (x == 47 && true) ≡ true
    begun e = rw e refl

symbols_pass : (ws : List (List ℕ)) → all_so ws ≡ true → (c : ℕ) (cs : List ℕ) → (c == 47) ≡ false
    → spells (any_of ws) (c ∷ cs) ≡ true → Each is_in_words (c ∷ cs)
unfolding begins
symbols_pass [] a c cs n h = absurd (true≢false (sym h))
symbols_pass (w ∷ ws) a c cs n h =
    let parts = and_parts (begins_or_passes w) (all_so ws) a in
    by_either (spells (literal w) (c ∷ cs)) (spells (any_of ws) (c ∷ cs)) h
    (λ e. symbol_passes w parts.0 c cs n e) (λ e. symbols_pass ws parts.1 c cs n e)

pub spelled_word : (c : ℕ) (cs : List ℕ) → (c == 47) ≡ false → spells spelling (c ∷ cs) ≡ true
    → Each is_in_words (c ∷ cs)
spelled_word c cs n h =
    one_of_three (c ∷ cs) h
    (λ e. spelled_each is_in_words identifier (identifier_lets is_in_words xid_continue-in_words refl) (c ∷ cs) e)
    (λ e. spelled_each is_in_words number_spelling
    (wider is_numeral is_in_words numeral_in_words number_spelling number_lets) (c ∷ cs) e)
    (λ e. symbols_pass (map (λ (entry : List ℕ × ℕ). entry.0) symbols) refl c cs n e)
