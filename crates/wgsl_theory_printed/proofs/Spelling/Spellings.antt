-- Words that are spelled end where a character follows with which no spelling goes on.
use Rattle.std.proofs.Common.{◌≡◌, ℕ, ◌≤◌, true, refl, sym, ap, ap₂, subst, List, [], ◌∷◌, ◌++◌, length, Option, Some, None, ◌∙◌, arith}
use Rattle.std.specs.Str.{IsUtf8, chars}
use Rattle.wgsl_model.specs.Tokens.Kind.{Kind}
use Rattle.wgsl_model.specs.Tokens.Pattern.{spells, after_longest, after_spelling, FollowsLongest}
use Rattle.wgsl_model.specs.Tokens.Spelling.{spelling}
use Rattle.wgsl_model.specs.Tokens.Raw.{Raw.token, raw_at, kind_of_spelling}
use Rattle.wgsl_model.proofs.Tokens.Fronts.{after_longest_is}
use Rattle.wgsl_theory_printed.proofs.Spelling.Cut.{found}
use Rattle.wgsl_theory_printed.proofs.Spelling.Pieces.{Begins, Stands, stands}

-- the characters are the spelling of a token of a kind, and begin with no blank space and no
-- comment
pub record IsSpelling (k : Kind) (w : List ℕ) : Type 0 where
  pub spelled : spells spelling w ≡ true
  pub valued : kind_of_spelling w ≡ Some k
  pub begins : Begins w

-- a text of such characters
pub record IsSpelled (k : Kind) (text : List ℕ) : Type 0 where
  pub utf8 : IsUtf8 text
  pub word : IsSpelling k (chars text)

-- no spelling begins with the word and this character
abbrev pub EndsAt : List ℕ → ℕ → Type 0
EndsAt w c = (z : List ℕ) → spells spelling (w ++ (c ∷ z)) ≡ true → ⊥

-- nor with the word and the first character of a rest
abbrev pub EndsBefore : List ℕ → List ℕ → Type 0
EndsBefore w [] = Unit {0}
EndsBefore w (c ∷ cs) = EndsAt w c

-- of two fronts of a text the longer one begins with the other
record Longer (w rest v u : List ℕ) : Type 0 where
  pub more : List ℕ
  pub front : v ≡ w ++ more
  pub following : rest ≡ more ++ u

longer : (w rest v u : List ℕ) → w ++ rest ≡ v ++ u → length w ≤ length v → Longer w rest v u
longer [] rest v u e l = record { more = v; front = refl; following = e }
longer (c ∷ w) rest [] u e l = absurd (omega (arith, l))
longer (c ∷ w) rest (d ∷ v) u e l =
    let head : c ≡ d = cc in
    let tail : w ++ rest ≡ v ++ u = cc in
    let m = longer w rest v u tail (omega (arith, l)) in
    record { more = m.more; front = ap₂ (λ (x : ℕ) (xs : List ℕ). x ∷ xs) (sym head) m.front; following = m.following }

no_more : (w more u rest : List ℕ) → rest ≡ more ++ u → EndsBefore w rest
    → spells spelling (w ++ more) ≡ true → more ≡ []
no_more w [] u rest e k h = refl
no_more w (d ∷ ds) u rest e k h = let ends : EndsAt w d = subst (EndsBefore w) e k in absurd (ends ds h)

-- the word is the longest spelling
after_word : (w rest : List ℕ) → spells spelling w ≡ true → EndsBefore w rest
    → after_spelling spelling (w ++ rest) ≡ Some rest
unfolding after_spelling
after_word w rest h k = go (after_longest (spells spelling) (w ++ rest))
    (after_longest_is (spells spelling) (w ++ rest))
  where
    go : (o : Option (List ℕ)) → FollowsLongest (spells spelling) (w ++ rest) o → o ≡ Some rest
    go None f = absurd (f w rest refl h)
    go (Some u) (v, i) =
        let m = longer w rest v u i.whole (i.longest w rest refl h) in
        let none = no_more w m.more u rest m.following k
        (subst (λ (x : List ℕ). spells spelling x ≡ true) m.front i.passes) in
        ap Some (sym (m.following ∙ ap (λ (x : List ℕ). x ++ u) none))

-- the token at the front of a text that begins with a spelling
pub spelling_at : (c : ℕ) (cs rest : List ℕ) (k : Kind) → spells spelling (c ∷ cs) ≡ true
    → kind_of_spelling (c ∷ cs) ≡ Some k → EndsBefore (c ∷ cs) rest
    → raw_at ((c ∷ cs) ++ rest) ≡ token k ((c ∷ cs) ++ rest) rest
spelling_at c cs rest k h v e = found c cs rest k (after_word (c ∷ cs) rest h e) v

pub spelling_stands : (k : Kind) (w rest : List ℕ) → IsSpelling k w → EndsBefore w rest → Stands w k rest
spelling_stands k [] rest h e = absurd h.begins
spelling_stands k (c ∷ cs) rest h e = stands (c ∷ cs) k rest h.begins (spelling_at c cs rest k h.spelled h.valued e)
