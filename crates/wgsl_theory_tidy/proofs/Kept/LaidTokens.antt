-- One token is at a place of a text.
use Rattle.std.proofs.Common.{◌≡◌, ℕ, ◌==◌, true, false, refl, sym, ap, ap₂, ◌∙◌, List, [], ◌∷◌, ◌++◌, length, length-append, arith}
use Rattle.std.proofs.lemmas.Bool.{true≢false}
use Rattle.wgsl_model.specs.Tokens.ClassTable.{SymForwardSlash, SymDivisionEqual, TemplateArgsStart, TemplateArgsEnd}
use Rattle.wgsl_model.specs.Tokens.Kind.{Kind, plain}
use Rattle.wgsl_model.specs.Tokens.Raw.{Raw.token, raw}
use Rattle.wgsl_model.specs.Tokens.Trivia.{outside, after_trivia}
use Rattle.wgsl_theory_templates.proofs.Reaching.Reach.{role}
use Rattle.wgsl_theory_templates.proofs.Lexed.RoleClasses.{is_mark_role}
use Rattle.wgsl_theory_grammar.proofs.Tokens.Symbols.{none_valued}
use Rattle.wgsl_model_tidy.specs.Ahead.{is_comment}
use Rattle.wgsl_theory_tidy.proofs.Kept.TokenTexts.{cut_token}
use Rattle.wgsl_theory_tidy.proofs.Kept.Readings.{IsToken, is_word, is_start, is_end, is_slash, is_slash_equal}

-- ---- a token is no comment

pub no_comment : (k : Kind) (w rest : List ℕ) → IsToken k w rest → is_comment k.class ≡ false
no_comment k w rest (is_word j v r m s e) = none_valued is_comment refl refl refl w k s.valued
no_comment k w rest (is_start r) = refl
no_comment k w rest (is_end r) = refl
no_comment k w rest (is_slash r e) = refl
no_comment k w rest (is_slash_equal r e) = refl

-- ---- a token is where no blank space and no comment are left

start_here : (rest : List ℕ) → after_trivia outside (60 ∷ rest) ≡ 60 ∷ rest
unfolding after_trivia
start_here rest = refl

end_here : (rest : List ℕ) → after_trivia outside (62 ∷ rest) ≡ 62 ∷ rest
unfolding after_trivia
end_here rest = refl

pub token_here : (k : Kind) (w rest : List ℕ) → IsToken k w rest → after_trivia outside (w ++ rest) ≡ w ++ rest
token_here k w rest (is_word j v r m s e) = (cut_token (w ++ rest) (w ++ rest) rest k e).passed
token_here k w rest (is_start r) = start_here rest
token_here k w rest (is_end r) = end_here rest
token_here k w rest (is_slash r e) = (cut_token (47 ∷ rest) (47 ∷ rest) rest (plain SymForwardSlash) e).passed
token_here k w rest (is_slash_equal r e) =
    (cut_token (47 ∷ (61 ∷ rest)) (47 ∷ (61 ∷ rest)) rest (plain SymDivisionEqual) e).passed

-- ---- one token is there

-- the `<` or the `>` of a template list, or the front token
data Stood (k : Kind) (w rest : List ℕ) : Type 0 where
  stood_front : is_mark_role (role k.class) ≡ false → raw (w ++ rest) ≡ token k (w ++ rest) rest → Stood k w rest
  stood_start : k.class ≡ TemplateArgsStart → w ≡ 60 ∷ [] → Stood k w rest
  stood_end : k.class ≡ TemplateArgsEnd → w ≡ 62 ∷ [] → Stood k w rest

stood : (k : Kind) (w rest : List ℕ) → IsToken k w rest → Stood k w rest
stood k w rest (is_word j v r m s e) = stood_front m e
stood k w rest (is_start r) = stood_start refl refl
stood k w rest (is_end r) = stood_end refl refl
stood k w rest (is_slash r e) = stood_front refl e
stood k w rest (is_slash_equal r e) = stood_front refl e

unmarked : (k : Kind) (c : ℕ) → is_mark_role (role k.class) ≡ false → k.class ≡ c → is_mark_role (role c) ≡ true → ⊥
unmarked k c m e h = true≢false (sym h ∙ sym (ap (λ (j : ℕ). is_mark_role (role j)) e) ∙ m)

two_marks : (k : Kind) → k.class ≡ TemplateArgsStart → k.class ≡ TemplateArgsEnd → ⊥
two_marks k e f = true≢false (sym (ap (λ (j : ℕ). j == TemplateArgsStart) e) ∙ ap (λ (j : ℕ). j == TemplateArgsStart) f)

-- texts before the same rest
pub same_before : (xs ys zs : List ℕ) → xs ++ zs ≡ ys ++ zs → xs ≡ ys
same_before [] [] zs e = refl
same_before [] (y ∷ ys) zs e = absurd (omega (arith, ap length e, length-append ys zs))
same_before (x ∷ xs) [] zs e = absurd (omega (arith, ap length e, length-append xs zs))
same_before (x ∷ xs) (y ∷ ys) zs e =
    let h : x ≡ y = cc in let i : xs ++ zs ≡ ys ++ zs = cc in
    ap₂ (λ (c : ℕ) (cs : List ℕ). c ∷ cs) h (same_before xs ys zs i)

-- texts after the same character
same_after : (c : ℕ) (v w : List ℕ) (r u : List ℕ) → v ≡ c ∷ [] → w ≡ c ∷ [] → v ++ r ≡ w ++ u → (v ≡ w) × (r ≡ u)
same_after c v w r u e f q =
    let both : c ∷ r ≡ c ∷ u = ap (λ xs. xs ++ r) (sym e) ∙ q ∙ ap (λ xs. xs ++ u) f in (e ∙ sym f, cc)

pub same_token : (k : Kind) (v r w u : List ℕ) → IsToken k v r → IsToken k w u → v ++ r ≡ w ++ u → (v ≡ w) × (r ≡ u)
same_token k v r w u i j q = go (stood k v r i) (stood k w u j)
  where
    go : Stood k v r → Stood k w u → (v ≡ w) × (r ≡ u)
    go (stood_front m e) (stood_front n f) =
        let both : token k (v ++ r) r ≡ token k (w ++ u) u = sym e ∙ ap raw q ∙ f in
        let rests : r ≡ u = cc in
        (same_before v w u (ap (λ xs. v ++ xs) (sym rests) ∙ q), rests)
    go (stood_start e f) (stood_start g h) = same_after 60 v w r u f h q
    go (stood_end e f) (stood_end g h) = same_after 62 v w r u f h q
    go (stood_front m e) (stood_start g h) = absurd (unmarked k TemplateArgsStart m g refl)
    go (stood_front m e) (stood_end g h) = absurd (unmarked k TemplateArgsEnd m g refl)
    go (stood_start e f) (stood_front n g) = absurd (unmarked k TemplateArgsStart n e refl)
    go (stood_end e f) (stood_front n g) = absurd (unmarked k TemplateArgsEnd n e refl)
    go (stood_start e f) (stood_end g h) = absurd (two_marks k e g)
    go (stood_end e f) (stood_start g h) = absurd (two_marks k g e)
