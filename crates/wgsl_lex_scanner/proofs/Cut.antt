-- Where the longest spelling cuts a text.
use Rattle.std.proofs.Common.{◌≡◌, ℕ, sym, ap, List, ◌∷◌, ◌++◌, Option, Some, None, ◌∙◌}
use Rattle.wgsl_model.specs.Tokens.Kind.{Kind}
use Rattle.wgsl_model.specs.Tokens.Pattern.{after_spelling}
use Rattle.wgsl_model.specs.Tokens.Raw.{invalid, front, kind_of_spelling, spelled, valued, raw_at}
use Rattle.wgsl_model.specs.Tokens.Spelling.{spelling}
use Rattle.wgsl_model.proofs.Tokens.Fronts.{front-append}

-- what is before a rest is a front
pub front-whole : (xs text rest : List ℕ) → text ≡ xs ++ rest → text ≡ front text rest ++ rest
front-whole xs text rest e = e ∙ ap (λ zs. zs ++ rest) (sym (ap (λ t. front t rest) e ∙ front-append xs rest))

-- the token of a spelling that is known
pub found : (c : ℕ) (cs rest : List ℕ) (kind : Option Kind)
    → after_spelling spelling ((c ∷ cs) ++ rest) ≡ Some rest → kind_of_spelling (c ∷ cs) ≡ kind
    → raw_at ((c ∷ cs) ++ rest) ≡ valued ((c ∷ cs) ++ rest) rest kind
found c cs rest kind e v =
    let text : List ℕ = (c ∷ cs) ++ rest in
    ap (spelled text (cs ++ rest)) e
    ∙ ap (λ w. valued text rest (kind_of_spelling w)) (front-append (c ∷ cs) rest) ∙ ap (valued text rest) v

-- a character that begins no spelling
pub missed : (c : ℕ) (cs : List ℕ) → after_spelling spelling (c ∷ cs) ≡ None → raw_at (c ∷ cs) ≡ invalid (c ∷ cs) cs
missed c cs e = ap (spelled (c ∷ cs) cs) e
