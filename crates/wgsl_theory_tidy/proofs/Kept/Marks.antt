-- A text that has a token list begins with no byte order mark.
use Rattle.std.proofs.Common.{◌≡◌, ℕ, ◌==◌, false, refl, sym, ap, subst, ◌∙◌, List, [], ◌∷◌, ◌++◌, map, Some}
use Rattle.std.proofs.lemmas.Bool.{eqb-true}
use Rattle.unicode_ident.specs.Ident.{is_xid_start}
use Rattle.unicode_ident.proofs.Computing.{unicode_ident}
use Rattle.grammar.specs.Tokens.{Token}
use Rattle.grammar.specs.Endings.{Ending.finished}
use Rattle.wgsl_model.specs.Tokens.Kind.{Kind}
use Rattle.wgsl_model.specs.Tokens.Raw.{kind_of_spelling}
use Rattle.wgsl_model.specs.Tokens.TokenList.{IsTokenList}
use Rattle.wgsl_model.specs.Tokens.Trivia.{outside, after_trivia}
use Rattle.wgsl_model_tidy.specs.Pieces.{Piece, pieces}
use Rattle.wgsl_model_tidy.specs.Open.{start}
use Rattle.wgsl_model_tidy.specs.Formatted.{mark_of, unmarked}
use Rattle.wgsl_model_tidy.specs.Kept.{unplaced}
use Rattle.wgsl_theory_tidy.proofs.Kept.Readings.{IsToken, is_word, Reads, reads_end, reads_token}
use Rattle.wgsl_theory_tidy.proofs.Kept.TokenRoles.{starts_so}
use Rattle.wgsl_theory_tidy.proofs.Kept.Read.{read}
use Rattle.wgsl_theory_tidy.proofs.Kept.TextFronts.{by_test}

-- the mark begins no name
no_name : is_xid_start 65279 ≡ false
unfolding unicode_ident
no_name = refl

-- no number and no symbol either
no_value : (ws : List ℕ) (k : Kind) → kind_of_spelling (65279 ∷ ws) ≡ Some k → ⊥
no_value ws k = rw no_name (λ e. absurd cc)

no_word : (k : Kind) (ws rest : List ℕ) → IsToken k (65279 ∷ ws) rest → ⊥
no_word k ws rest (is_word j v r m s e) = no_value ws k s.valued

-- it is no blank space and no comment
mark_left : (cs : List ℕ) → after_trivia outside (65279 ∷ cs) ≡ 65279 ∷ cs
unfolding after_trivia
mark_left cs = refl

head_is : (x : ℕ) (xs cs : List ℕ) → x ∷ xs ≡ 65279 ∷ cs → x ≡ 65279
head_is x xs cs q = cc

no_front : (k : Kind) (w rest cs : List ℕ) → IsToken k w rest → w ++ rest ≡ 65279 ∷ cs → ⊥
no_front k [] rest cs i q = absurd (starts_so start k false [] rest i)
no_front k (x ∷ xs) rest cs i q = no_word k xs rest
    (subst (λ c. IsToken k (c ∷ xs) rest) (head_is x (xs ++ rest) cs q) i)

unread : (text : List ℕ) (ks : List Kind) (ps : List Piece) (cs : List ℕ) → Reads text ks ps → text ≡ 65279 ∷ cs → ⊥
unread _ _ _ cs (reads_end text e) q =
    let left : 65279 ∷ cs ≡ [] = sym (mark_left cs) ∙ ap (after_trivia outside) (sym q) ∙ e in absurd cc
unread _ _ _ cs (reads_token trivia w rest k ks ps p i r) q = no_front k w rest cs i
    (sym p ∙ ap (after_trivia outside) q ∙ mark_left cs)

-- so it is all of the text, after no mark
pub read_no_mark : (text : List ℕ) (ts : List Token) → IsTokenList text ts finished
    → (mark_of text ≡ []) × (unmarked text ≡ text)
read_no_mark [] ts h = (refl, refl)
read_no_mark (c ∷ cs) ts h =
    by_test (c == 0xFEFF) (λ e. absurd (unread (c ∷ cs) (map unplaced ts) (pieces (c ∷ cs) ts) cs
    (read (c ∷ cs) ts h) (ap (λ x. x ∷ cs) (eqb-true c 0xFEFF e)))) (λ e. (rw e refl, rw e refl))
