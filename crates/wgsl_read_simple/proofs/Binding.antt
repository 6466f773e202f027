-- What comes after a reading.
use Rattle.std.proofs.Common.{◌≡◌, List, [], ◌∷◌, ◌++◌, refl, sym, ap, ◌∙◌, append_assoc}
use Rattle.grammar.specs.Tokens.{Token}
use Rattle.grammar.specs.States.{State, Read, Read.done, Read.stop, ◌>>=◌}
use Rattle.grammar.proofs.Binding.{bind_associates, bind_alike, pair_goes_on}
use Rattle.wgsl_read_simple.specs.Given.{given}

-- three values, and what comes after all of them
pub triple_goes_on : {A B C D : Type 0} (m : Read A) (h : State → Read B) (k : State → Read C)
    (f : A × (B × C) → State → Read D)
    → ((m >>= λ a s. (h s >>= λ b s'. k s' >>= λ c s''. done (b, c) s'') >>= λ x s'. done (a, x) s') >>= f)
    ≡ (m >>= λ a s. h s >>= λ b s'. k s' >>= λ c s''. f (a, (b, c)) s'')
triple_goes_on m h k f = pair_goes_on m _ f ∙ bind_alike m _ _ (λ a s e. pair_goes_on (h s) k _)

-- a token that says nothing, a value, and what comes after it
pub token_before : {A B : Type 0} (m : Read Token) (r : State → Read A) (f : A → State → Read B)
    → (((m >>= λ t s. r s >>= λ a s'. done (t, a) s') >>= λ (p : Token × A) s. done p.1 s) >>= f)
    ≡ (m >>= λ t s. r s >>= f)
token_before m r f = bind_associates (m >>= λ t s. r s >>= λ a s'. done (t, a) s') _ f ∙ pair_goes_on m r _

-- a value, a token that says nothing, and what comes after it
pub token_after : {A B : Type 0} (m : Read A) (r : State → Read Token) (f : A → State → Read B)
    → (((m >>= λ a s. r s >>= λ t s'. done (a, t) s') >>= λ (p : A × Token) s. done p.0 s) >>= f)
    ≡ (m >>= λ a s. r s >>= λ t s'. f a s')
token_after m r f = bind_associates (m >>= λ a s. r s >>= λ t s'. done (a, t) s') _ f ∙ pair_goes_on m r _

-- two values that become what waits for a third, which it gets
pub pair_given : {A B C T : Type 0} (m : Read A) (r : State → Read B) (f : A × B → T → C) (t : T)
    → (((m >>= λ a s. r s >>= λ b s'. done (a, b) s') >>= λ p s. done (f p) s) >>= λ g s. done (g t) s)
    ≡ (m >>= λ a s. r s >>= λ b s'. done (f (a, b) t) s')
pair_given m r f t = bind_associates (m >>= λ a s. r s >>= λ b s'. done (a, b) s') _ _ ∙ pair_goes_on m r _

-- a value, then what waits for it
pub given_is : {A B : Type 0} (m : Read A) (r : State → Read (A → B))
    → ((m >>= λ a s. r s >>= λ f s'. done (a, f) s') >>= λ (p : A × (A → B)) s. done (p.1 p.0) s)
    ≡ (m >>= λ a s. given a r s)
given_is m r = pair_goes_on m r _

-- ---- a list and what ends it, after the items that were read so far
abbrev pub put_before : {A B : Type 0} → List A → List A × B → List A × B
put_before l p = (l ++ p.0, p.1)

abbrev pub following : {A B : Type 0} → List A → Read (List A × B) → Read (List A × B)
following l m = m >>= λ p s. done (put_before l p) s

pub after_more : {A B : Type 0} (l : List A) (a : A) (m : Read (List A × B))
    → (m >>= λ p s. done (put_before l (a ∷ p.0, p.1)) s) ≡ following (l ++ (a ∷ [])) m
after_more l a m = bind_alike m _ _ (λ p s e. ap (λ xs. done (xs, p.1) s) (sym (append_assoc l (a ∷ []) p.0)))

-- from no items on
pub after_none : {A B : Type 0} (m : Read (List A × B)) → m ≡ following [] m
after_none (done p s) = refl
after_none (stop e) = refl
