-- The characters of texts and of pieces that are not blank space.
use Rattle.std.proofs.Common.{◌≡◌, ℕ, ◌&&◌, Bool, true, false, cond, refl, sym, ap, ◌∙◌, List, [], ◌∷◌, ◌++◌, append_assoc}
use Rattle.std.specs.Char.{is_whitespace}
use Rattle.grammar.specs.Tables.{is_empty}
use Rattle.wgsl_model.specs.Tokens.Characters.{is_blank}
use Rattle.wgsl_model_tidy.specs.Pieces.{Piece}
use Rattle.wgsl_model_tidy.specs.NonBlank.{non_blank}
use Rattle.wgsl_theory_tidy.proofs.Comments.{trimmed}

-- those of pieces, one after another
abbrev pub non_blank_of : List Piece → List ℕ
non_blank_of [] = []
non_blank_of (p ∷ ps) = non_blank p.text ++ non_blank_of ps

-- two texts, one after the other
pub joined : (xs ys : List ℕ) → non_blank (xs ++ ys) ≡ non_blank xs ++ non_blank ys
joined [] ys = refl
joined (x ∷ xs) ys = go (is_blank x) (joined xs ys)
  where
    go : (b : Bool) → non_blank (xs ++ ys) ≡ non_blank xs ++ non_blank ys
        → cond b (non_blank (xs ++ ys)) (x ∷ non_blank (xs ++ ys))
        ≡ cond b (non_blank xs) (x ∷ non_blank xs) ++ non_blank ys
    go true h = h
    go false h = ap (λ zs. x ∷ zs) h

-- and two lists of pieces
pub joined_of : (ps qs : List Piece) → non_blank_of (ps ++ qs) ≡ non_blank_of ps ++ non_blank_of qs
joined_of [] qs = refl
joined_of (p ∷ ps) qs = ap (λ xs. non_blank p.text ++ xs) (joined_of ps qs)
    ∙ sym (append_assoc (non_blank p.text) (non_blank_of ps) (non_blank_of qs))

-- before a blank character
pub over_blank_one : (c : ℕ) (cs : List ℕ) → is_blank c ≡ true → non_blank (c ∷ cs) ≡ non_blank cs
over_blank_one c cs b = rw b refl

-- without the blank space at the end of a text
pub trimmed_same : (xs : List ℕ) → non_blank (trimmed xs) ≡ non_blank xs
trimmed_same [] = refl
trimmed_same (x ∷ xs) = go (is_whitespace x) (trimmed xs) refl (trimmed_same xs)
  where
    kept : (ys : List ℕ) → non_blank ys ≡ non_blank xs → non_blank (x ∷ ys) ≡ non_blank (x ∷ xs)
    kept ys h = ap (λ zs. cond (is_blank x) zs (x ∷ zs)) h

    go : (b : Bool) (ys : List ℕ) → is_whitespace x ≡ b → non_blank ys ≡ non_blank xs
        → non_blank (cond (b && is_empty ys) [] (x ∷ ys)) ≡ non_blank (x ∷ xs)
    go true [] e h = h ∙ sym (over_blank_one x xs (rw e refl))
    go true (y ∷ ys) e h = kept (y ∷ ys) h
    go false ys e h = kept ys h
