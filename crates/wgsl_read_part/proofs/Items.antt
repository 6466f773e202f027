-- Items and what ends them, after the items that were read so far.
use Rattle.std.proofs.Common.{◌≡◌, ◌∙◌, ap, List, [], ◌∷◌, ◌++◌, append-nil}
use Rattle.grammar.specs.Tokens.{Token}
use Rattle.grammar.specs.States.{State, Read, Read.done, ◌>>=◌}
use Rattle.grammar.proofs.Binding.{bind_associates, bind_alike, pair_goes_on}
use Rattle.wgsl_read_simple.proofs.Binding.{put_before, following, after_more}

-- the token that closes
pub closed_is : {A B : Type 0} (l : List A) (end : B) (m : Read Token)
    → following l (m >>= λ t s. done ([], end) s) ≡ (m >>= λ t s. done (l, end) s)
closed_is l end m = bind_associates m (λ t s. done ([], end) s) (λ p s. done (put_before l p) s)
    ∙ bind_alike m _ _ (λ t s h. ap (λ xs. done (xs, end) s) (append-nil l))

abbrev pub with_item : {A B : Type 0} → A × (List A × B) → List A × B
with_item q = (q.0 ∷ q.1.0, q.1.1)

-- an item, and more
pub item_is : {A B : Type 0} (l : List A) (m : Read A) (rest : State → Read (List A × B))
    → following l ((m >>= λ a s. rest s >>= λ p s'. done (a, p) s') >>= λ q s. done (with_item q) s)
    ≡ (m >>= λ a s. following (l ++ a ∷ []) (rest s))
item_is l m rest =
    bind_associates (m >>= λ a s. rest s >>= λ p s'. done (a, p) s') (λ q s. done (with_item q) s)
    (λ p s. done (put_before l p) s)
    ∙ pair_goes_on m rest (λ q s. done (put_before l (with_item q)) s)
    ∙ bind_alike m _ _ (λ a s h. after_more l a (rest s))
