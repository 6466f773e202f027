-- Where the longest spelling cuts a text.
use Rattle.std.proofs.Common.{◌≡◌, ℕ, ap, subst, List, ◌∷◌, ◌++◌, Option, Some, None, ◌∙◌}
use Rattle.wgsl_model.specs.Tokens.Kind.{Kind}
use Rattle.wgsl_model.specs.Tokens.Pattern.{Pattern, after_spelling, spells, IsLongest, FollowsLongest}
use Rattle.wgsl_model.specs.Tokens.Spelling.{spelling}
use Rattle.wgsl_model.specs.Tokens.Raw.{token, kind_of_spelling, spelled, valued, raw_at}
use Rattle.wgsl_model.proofs.Tokens.Fronts.{front-append, after_longest_is}

longest_front : (r : Pattern) (text rest : List ℕ) (o : Option (List ℕ)) → o ≡ Some rest
    → FollowsLongest (spells r) text o → (word : List ℕ) × IsLongest (spells r) text word rest
longest_front r text rest None e h = absurd (cc)
longest_front r text rest (Some other) e h =
    let same : other ≡ rest = cc in (h.0, subst (IsLongest (spells r) text h.0) same h.1)

-- what follows the longest spelling follows a spelling, and no longer front is one
pub longest_spelling : (r : Pattern) (text rest : List ℕ) → after_spelling r text ≡ Some rest
    → (word : List ℕ) × IsLongest (spells r) text word rest
unfolding after_spelling
longest_spelling r text rest e = longest_front r text rest (after_spelling r text) e (after_longest_is (spells r) text)

-- the token of a spelling that is known
pub found : (c : ℕ) (cs rest : List ℕ) (kind : Kind)
    → after_spelling spelling ((c ∷ cs) ++ rest) ≡ Some rest → kind_of_spelling (c ∷ cs) ≡ Some kind
    → raw_at ((c ∷ cs) ++ rest) ≡ token kind ((c ∷ cs) ++ rest) rest
found c cs rest kind e v =
    let text : List ℕ = (c ∷ cs) ++ rest in
    ap (spelled text (cs ++ rest)) e
    ∙ ap (λ w. valued text rest (kind_of_spelling w)) (front-append (c ∷ cs) rest) ∙ ap (valued text rest) v
