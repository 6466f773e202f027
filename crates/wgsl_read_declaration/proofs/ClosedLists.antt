-- Lists of one item at least whose rule ends with the list itself, read with an accumulator of what
-- was read so far.
use Rattle.std.proofs.Common.{◌≡◌, ℕ, cond, List, [], ◌∷◌, ◌++◌, refl, sym, ap, ap₂, ◌∙◌, append_assoc, append-nil}
use Rattle.grammar.specs.Tokens.{Token}
use Rattle.grammar.specs.States.{State, Read, Read.done, Read.stop, ◌>>=◌, is_at, take}
use Rattle.grammar.proofs.Binding.{bind_alike, bind_cond}

-- ---- what a rule makes of its parts
-- nothing, of the token that closes
abbrev pub closing : {A : Type 0} → Read Token → Read (List A)
closing m = m >>= λ t s. done [] s

-- an item and the items after it
abbrev pub item_before : {A : Type 0} → (State → Read (List A)) → Read A → Read (List A)
item_before {A} more m = (m >>= λ e s. more s >>= λ l s'. done (e, l) s') >>= λ (p : A × List A) s. done (p.0 ∷ p.1) s

-- what is after a token
abbrev pub past_token : {A : Type 0} → (State → Read A) → Read Token → Read A
past_token {A} rest m = (m >>= λ t s. rest s >>= λ a s'. done (t, a) s') >>= λ (p : Token × A) s. done p.1 s

-- the items that were read so far, and those after them
abbrev pub put_after : {A : Type 0} → List A → Read (List A) → Read (List A)
put_after l m = m >>= λ k s. done (l ++ k) s

none_after : {A : Type 0} (l : List A) (m : Read Token) → put_after l (closing m) ≡ (m >>= λ t s. done l s)
none_after l (done t s) = ap (λ x. done x s) (append-nil l)
none_after l (stop e) = refl

one_after : {A : Type 0} (l : List A) (e : A) (m : Read (List A))
    → put_after l ((m >>= λ k s. done (e, k) s) >>= λ (p : A × List A) s. done (p.0 ∷ p.1) s)
    ≡ put_after (l ++ (e ∷ [])) m
one_after l e (done k s) = ap (λ x. done x s) (sym (append_assoc l (e ∷ []) k))
one_after l e (stop x) = refl

item_after : {A : Type 0} (l : List A) (more : State → Read (List A)) (m : Read A)
    → put_after l (item_before more m) ≡ (m >>= λ e s. put_after (l ++ (e ∷ [])) (more s))
item_after l more (done e s) = one_after l e (more s)
item_after l more (stop x) = refl

token_after : {A : Type 0} (l : List A) (t : Token) (m : Read (List A))
    → put_after l ((m >>= λ k s. done (t, k) s) >>= λ (p : Token × List A) s. done p.1 s) ≡ put_after l m
token_after l t (done k s) = refl
token_after l t (stop x) = refl

past_after : {A : Type 0} (l : List A) (rest : State → Read (List A)) (m : Read Token)
    → put_after l (past_token rest m) ≡ (m >>= λ t s. put_after l (rest s))
past_after l rest (done t s) = token_after l t (rest s)
past_after l rest (stop x) = refl

-- ---- the equations
-- Items = One More
pub from_first : {A : Type 0} (more : State → Read (List A)) (m : Read A)
    → item_before more m ≡ (m >>= λ e s. put_after (e ∷ []) (more s))
from_first more (done e s) = first_after (more s)
  where
    first_after : (k : Read (List _))
        → ((k >>= λ l s'. done (e, l) s') >>= λ (p : _ × List _) s'. done (p.0 ∷ p.1) s') ≡ put_after (e ∷ []) k
    first_after (done l s') = refl
    first_after (stop x) = refl
from_first more (stop x) = refl

-- More = comma Rest / close, Rest = close / One More
pub further_items : {A : Type 0} (rest more : State → Read (List A)) (one : State → Read A) (comma close : ℕ)
    → ((s : State) → rest s ≡ cond (is_at close s) (closing (take close s)) (item_before more (one s)))
    → ((s : State) → more s ≡ cond (is_at comma s) (past_token rest (take comma s)) (closing (take close s)))
    → (l : List A) (s : State) → put_after l (more s) ≡ cond (is_at comma s)
    (take comma s >>= λ t s'. cond (is_at close s') (take close s' >>= λ u s''. done l s'')
    (one s' >>= λ e s''. put_after (l ++ (e ∷ [])) (more s'')))
    (take close s >>= λ t s'. done l s')
further_items rest more one comma close h k l s =
    ap (put_after l) (k s) ∙ bind_cond (is_at comma s) _ _ _ ∙ ap₂ (cond (is_at comma s))
    (past_after l rest (take comma s) ∙ bind_alike (take comma s) _ _ (λ t s' is.
    ap (put_after l) (h s') ∙ bind_cond (is_at close s') _ _ _
    ∙ ap₂ (cond (is_at close s')) (none_after l (take close s')) (item_after l more (one s'))))
    (none_after l (take close s))
