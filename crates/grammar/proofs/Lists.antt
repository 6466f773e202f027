-- Lists whose rule ends with the list itself, read with an accumulator of what was read so far.
use Rattle.std.proofs.Common.{◌≡◌, ℕ, cond, List, [], ◌∷◌, ◌++◌, refl, sym, ap, ap₂, ◌∙◌, append_assoc, append-nil}
use Rattle.grammar.specs.Tokens.{Token}
use Rattle.grammar.specs.States.{State, Read, Read.done, Read.stop, ◌>>=◌, is_at, take}
use Rattle.grammar.proofs.Binding.{bind_associates, bind_alike, bind_cond}

-- ---- what a rule makes of its parts
-- nothing, of the token that closes
abbrev no_items : {A : Type 0} → Token → State → Read (List A)
no_items t s = done [] s

-- an item and the list after it
abbrev paired : {A : Type 0} → A → List A → State → Read (A × List A)
paired e l s = done (e, l) s

abbrev item_first : {A : Type 0} → A × List A → State → Read (List A)
item_first p s = done (p.0 ∷ p.1) s

-- the list after a token
abbrev with_token : {A : Type 0} → Token → List A → State → Read (Token × List A)
with_token t l s = done (t, l) s

abbrev token_dropped : {A : Type 0} → Token × List A → State → Read (List A)
token_dropped p s = done p.1 s

-- the items that were read so far, and those after them
abbrev put_after : {A : Type 0} → List A → List A → State → Read (List A)
put_after l m s = done (l ++ m) s

-- the items that were read so far, at the token that closes
abbrev items_closed : {A : Type 0} → List A → Token → State → Read (List A)
items_closed l t s = done l s

none_after : {A : Type 0} (l : List A) (m : Read Token) → ((m >>= no_items) >>= put_after l) ≡ (m >>= items_closed l)
none_after l m = bind_associates m no_items (put_after l)
    ∙ bind_alike m _ _ (λ t s is. ap (λ x. done x s) (append-nil l))

one_after : {A : Type 0} (l : List A) (e : A) (m : Read (List A))
    → (((m >>= paired e) >>= item_first) >>= put_after l) ≡ (m >>= put_after (l ++ e ∷ []))
one_after l e m =
    bind_associates (m >>= paired e) item_first (put_after l) ∙ bind_associates m (paired e) _
    ∙ bind_alike m _ _ (λ k s is. ap (λ x. done x s) (sym (append_assoc l (e ∷ []) k)))

first_after : {A : Type 0} (l : List A) (m : Read A) (rest : State → Read (List A))
    → (((m >>= λ e s. rest s >>= paired e) >>= item_first) >>= put_after l)
    ≡ (m >>= λ e s. rest s >>= put_after (l ++ e ∷ []))
first_after l (done e s) rest = one_after l e (rest s)
first_after l (stop x) rest = refl

token_after : {A : Type 0} (l : List A) (m : Read Token) (rest : State → Read (List A))
    → (((m >>= λ t s. rest s >>= with_token t) >>= token_dropped) >>= put_after l)
    ≡ (m >>= λ t s. rest s >>= put_after l)
token_after l (done t s) rest = bind_associates (rest s >>= with_token t) token_dropped (put_after l)
    ∙ bind_associates (rest s) (with_token t) _
token_after l (stop x) rest = refl

-- ---- the equations
-- Rest = close / One Rest
pub until : {A : Type 0} (rest : State → Read (List A)) (one : State → Read A) (close : ℕ)
    → ((s : State) → rest s ≡ cond (is_at close s) (take close s >>= no_items)
    ((one s >>= λ e s'. rest s' >>= paired e) >>= item_first))
    → (l : List A) (s : State) → (rest s >>= put_after l) ≡ cond (is_at close s)
    (take close s >>= items_closed l) (one s >>= λ e s'. rest s' >>= put_after (l ++ e ∷ []))
until rest one close h l s =
    ap (λ m. m >>= put_after l) (h s) ∙ bind_cond (is_at close s) _ _ (put_after l)
    ∙ ap₂ (cond (is_at close s)) (none_after l (take close s)) (first_after l (one s) rest)

-- Rest = close / One More, More = comma Rest / close
pub separated : {A : Type 0} (rest more : State → Read (List A)) (one : State → Read A) (comma close : ℕ)
    → ((s : State) → rest s ≡ cond (is_at close s) (take close s >>= no_items)
    ((one s >>= λ e s'. more s' >>= paired e) >>= item_first))
    → ((s : State) → more s ≡ cond (is_at comma s)
    ((take comma s >>= λ t s'. rest s' >>= with_token t) >>= token_dropped) (take close s >>= no_items))
    → (l : List A) (s : State)
    → (rest s >>= put_after l) ≡ cond (is_at close s) (take close s >>= items_closed l)
    (one s >>= λ e s'. cond (is_at comma s') (take comma s'
    >>= λ t s''. rest s'' >>= put_after (l ++ e ∷ [])) (take close s' >>= items_closed (l ++ e ∷ [])))
separated rest more one comma close h k l s =
    ap (λ m. m >>= put_after l) (h s) ∙ bind_cond (is_at close s) _ _ (put_after l)
    ∙ ap₂ (cond (is_at close s)) (none_after l (take close s))
    (first_after l (one s) more ∙ bind_alike (one s) _ _ (λ e s' is.
    ap (λ m. m >>= put_after (l ++ e ∷ [])) (k s') ∙ bind_cond (is_at comma s') _ _ _
    ∙ ap₂ (cond (is_at comma s')) (token_after _ (take comma s') rest) (none_after _ (take close s'))))

-- from no items on
pub after_none : {A : Type 0} (m : Read (List A)) → m ≡ (m >>= put_after [])
after_none (done l s) = refl
after_none (stop e) = refl
