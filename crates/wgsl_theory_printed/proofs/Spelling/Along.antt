-- The text of pieces that fit lexes along the kinds of their tokens.
use Rattle.std.proofs.Common.{◌≡◌, ℕ, Bool, true, false, ◌==◌, refl, sym, subst, List, [], ◌∷◌, ◌++◌, ◌∙◌}
use Rattle.std.specs.Str.{chars}
use Rattle.wgsl_model.specs.Tokens.Characters.{is_blank}
use Rattle.std.proofs.lemmas.Bool.{eqb-true}
use Rattle.wgsl_model.specs.Tokens.ClassTable.{SymLessThan, SymGreaterThan, SymGreaterThanEqual, SymShiftRight, SymShiftRightAssign}
use Rattle.wgsl_model.specs.Tokens.Kind.{Kind, plain}
use Rattle.wgsl_model.specs.Tokens.Raw.{Raw.none_left, Raw.token, raw}
use Rattle.wgsl_model.specs.Tokens.Templates.{begins_with_greater}
use Rattle.wgsl_model.specs.Tokens.Trivia.{after_trivia}
use Rattle.wgsl_theory_templates.proofs.Reaching.Reach.{Role, template_start, template_end, role}
use Rattle.wgsl_theory_templates.proofs.Lexed.LexedAlong.{along_role, Along}
use Rattle.wgsl_theory_printed.proofs.Spelling.Pieces.{Piece, space, line_end, opens, closes, word, render, kinds, IsOrdinaryRole, Stands, Fits, raw_blank}
use Rattle.wgsl_theory_printed.proofs.Spelling.Signs.{sign_stands}

-- ---- the `>` of a template list

-- a token that begins with the `>` before a text
pub record Greater (text : List ℕ) : Type 0 where
  pub kind : Kind
  pub after : List ℕ
  pub is_token : raw (62 ∷ text) ≡ token kind (62 ∷ text) after
  pub greater : begins_with_greater kind.class ≡ true

equal_stands : (rest : List ℕ) → Stands (62 ∷ (61 ∷ [])) (plain SymGreaterThanEqual) rest
equal_stands [] = sign_stands 62 (61 ∷ []) SymGreaterThanEqual [] refl refl tt
equal_stands (d ∷ ds) = sign_stands 62 (61 ∷ []) SymGreaterThanEqual (d ∷ ds) refl refl refl

assign_stands : (rest : List ℕ) → Stands (62 ∷ (62 ∷ (61 ∷ []))) (plain SymShiftRightAssign) rest
assign_stands [] = sign_stands 62 (62 ∷ (61 ∷ [])) SymShiftRightAssign [] refl refl tt
assign_stands (d ∷ ds) = sign_stands 62 (62 ∷ (61 ∷ [])) SymShiftRightAssign (d ∷ ds) refl refl refl

-- `>>` or `>>=`
after_two : (text : List ℕ) → Greater (62 ∷ text)
after_two [] = record {
  kind = plain SymShiftRight;
  after = [];
  is_token = sign_stands 62 (62 ∷ []) SymShiftRight [] refl refl tt;
  greater = refl;
}
after_two (c ∷ cs) = go (c == 61) refl
  where
    go : (b : Bool) → (c == 61) ≡ b → Greater (62 ∷ (c ∷ cs))
    go true e = subst (λ d. Greater (62 ∷ (d ∷ cs))) (sym (eqb-true c 61 e))
        (record { kind = plain SymShiftRightAssign; after = cs; is_token = assign_stands cs; greater = refl })
    go false e = record {
      kind = plain SymShiftRight;
      after = c ∷ cs;
      is_token = sign_stands 62 (62 ∷ []) SymShiftRight (c ∷ cs) refl refl (rw e refl);
      greater = refl;
    }

-- whatever follows
pub after_one : (text : List ℕ) → Greater text
after_one [] = record {
  kind = plain SymGreaterThan;
  after = [];
  is_token = sign_stands 62 [] SymGreaterThan [] refl refl tt;
  greater = refl;
}
after_one (c ∷ cs) = go (c == 61) (c == 62) refl refl
  where
    go : (a b : Bool) → (c == 61) ≡ a → (c == 62) ≡ b → Greater (c ∷ cs)
    go true b e f = subst (λ d. Greater (d ∷ cs)) (sym (eqb-true c 61 e))
        (record { kind = plain SymGreaterThanEqual; after = cs; is_token = equal_stands cs; greater = refl })
    go false true e f = subst (λ d. Greater (d ∷ cs)) (sym (eqb-true c 62 f)) (after_two cs)
    go false false e f = record {
      kind = plain SymGreaterThan;
      after = c ∷ cs;
      is_token = sign_stands 62 [] SymGreaterThan (c ∷ cs) refl refl (rw (e, f) refl);
      greater = refl;
    }

-- ---- pieces that fit

-- blank space is passed over
along_blank : (c : ℕ) (ks : List Kind) (text : List ℕ) → is_blank c ≡ true → Along ks text → Along ks (c ∷ text)
along_blank c [] text h a = raw_blank c text h ∙ a
along_blank c (k ∷ ks) text h a = go (role k.class) (λ rest. Along ks rest) a
  where
    go : (r : Role) (on : List ℕ → Type 0) → along_role r k on text → along_role r k on (c ∷ text)
    go template_start on b = (b.0, b.1, b.2, raw_blank c text h ∙ b.3, b.4, b.5)
    go template_end on b = (b.0, b.1, b.2, raw_blank c text h ∙ b.3, b.4, b.5)
    go r on b = (b.0, b.1, raw_blank c text h ∙ b.2, b.3)

raw_nil : raw [] ≡ none_left
unfolding after_trivia
raw_nil = refl

along_word : (k : Kind) (r : Role) (on : List ℕ → Type 0) (text rest : List ℕ) → IsOrdinaryRole r
    → raw text ≡ token k text rest → on rest → along_role r k on text
along_word k template_start on text rest o e h = absurd o
along_word k template_end on text rest o e h = absurd o
along_word k r on text rest o e h = (text, rest, e, h)

-- the text of pieces that fit is read along their kinds
pub along : (ps : List Piece) → Fits ps → Along (kinds ps) (render ps)
along [] fits = raw_nil
along (space ∷ ps) fits = along_blank 32 (kinds ps) (render ps) refl (along ps fits)
along (line_end ∷ ps) fits = along_blank 10 (kinds ps) (render ps) refl (along ps fits)
along (word w k ∷ ps) fits = along_word k (role k.class) (λ rest. Along (kinds ps) rest)
    (chars w ++ render ps) (render ps) fits.0.ordinary fits.0.stands (along ps fits.1)
along (opens ∷ ps) fits = (plain SymLessThan, 60 ∷ render ps, render ps, fits.0, refl, (refl, along ps fits.1))
along (closes ∷ ps) fits =
    let g = after_one (render ps) in
    (g.kind, 62 ∷ render ps, g.after, g.is_token, g.greater, (refl, along ps fits))
