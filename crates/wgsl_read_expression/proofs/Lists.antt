-- Lists of one item at least, read with an accumulator of what was read so far.
use Rattle.std.proofs.Common.{◌≡◌, ℕ, cond, List, [], ◌∷◌, ◌++◌, sym, ap, ap₂, ◌∙◌, append_assoc, append-nil}
use Rattle.grammar.specs.Tokens.{Token}
use Rattle.grammar.specs.States.{State, Read, Read.done, ◌>>=◌, is_at, take}
use Rattle.grammar.proofs.Binding.{bind_associates, bind_alike, bind_cond}

-- an item and what may follow it, after items that were read so far; what may follow is a comma
-- and the rest, or the token that closes
pub one_and_more : {A : Type 0} (items rest more : State → Read (List A)) (one : State → Read A) (comma close : ℕ)
    → ((s : State) → items s ≡ ((one s >>= λ e s'. more s' >>= λ l s''. done (e, l) s'')
    >>= λ (p : A × List A) s'. done (p.0 ∷ p.1) s'))
    → ((s : State) → more s ≡ cond (is_at comma s) ((take comma s >>= λ t s'. rest s' >>= λ l s''. done (t, l) s'')
    >>= λ (p : Token × List A) s'. done p.1 s') (take close s >>= λ t s'. done [] s'))
    → (l : List A) (s : State) → (items s >>= λ m s'. done (l ++ m) s')
    ≡ (one s >>= λ e s'. cond (is_at comma s') (take comma s' >>= λ t s''. rest s''
    >>= λ m s'''. done ((l ++ e ∷ []) ++ m) s''') (take close s' >>= λ t s''. done (l ++ e ∷ []) s''))
one_and_more {A} items rest more one comma close h k l s =
    ap (λ m. m >>= following l) (h s)
    ∙ bind_associates (one s >>= λ e s'. more s' >>= λ l s''. done (e, l) s'') _ (following l)
    ∙ bind_associates (one s) _ _
    ∙ bind_alike (one s) _ _ (λ e s' is.
    bind_associates (more s') _ _ ∙ bind_alike (more s') _ (following (l ++ e ∷ []))
    (λ m s'' is. ap (λ x. done x s'') (sym (append_assoc l (e ∷ []) m)))
    ∙ ap (λ m. m >>= following (l ++ e ∷ [])) (k s') ∙ bind_cond (is_at comma s') _ _ _
    ∙ ap₂ (cond (is_at comma s'))
    (bind_associates (take comma s' >>= λ t s''. rest s'' >>= λ m s'''. done (t, m) s''') _ _
    ∙ bind_associates (take comma s') _ _ ∙ bind_alike (take comma s') _ _ (λ t s'' is. bind_associates (rest s'') _ _))
    (bind_associates (take close s') _ _
    ∙ bind_alike (take close s') _ _ (λ t s'' is. ap (λ x. done x s'') (append-nil (l ++ e ∷ [])))))
  where
    following : List A → List A → State → Read (List A)
    following l m s = done (l ++ m) s
