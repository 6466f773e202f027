-- What comes after a reading.
use Rattle.std.proofs.Common.{◌≡◌, Bool, true, false, cond, refl, ◌∙◌}
use Rattle.grammar.specs.States.{State, Read, Read.done, Read.stop, ◌>>=◌}

pub bind_associates : {A B C : Type 0} (m : Read A) (f : A → State → Read B) (g : B → State → Read C)
    → ((m >>= f) >>= g) ≡ (m >>= λ a s. f a s >>= g)
bind_associates (done a s) f g = refl
bind_associates (stop e) f g = refl

pub bind_alike : {A B : Type 0} (m : Read A) (f f' : A → State → Read B)
    → ((a : A) (s : State) → m ≡ done a s → f a s ≡ f' a s) → (m >>= f) ≡ (m >>= f')
bind_alike (done a s) f f' h = h a s refl
bind_alike (stop e) f f' h = refl

pub bind_cond : {A B : Type 0} (b : Bool) (x y : Read A) (f : A → State → Read B)
    → (cond b x y >>= f) ≡ cond b (x >>= f) (y >>= f)
bind_cond true x y f = refl
bind_cond false x y f = refl

-- two values, and what comes after both
pub pair_goes_on : {A B C : Type 0} (m : Read A) (r : State → Read B) (f : A × B → State → Read C)
    → ((m >>= λ a s. r s >>= λ b s'. done (a, b) s') >>= f) ≡ (m >>= λ a s. r s >>= λ b s'. f (a, b) s')
pair_goes_on m r f = bind_associates m _ f ∙ bind_alike m _ _ (λ a s is. bind_associates (r s) _ f)
