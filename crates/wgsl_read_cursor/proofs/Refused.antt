-- A token that was not taken is refused.
use Rattle.std.proofs.Common.{◌≡◌, ℕ, Bool, true, false, List, [], ◌∷◌, cond, ap, sym, subst, ◌∙◌, if◌then◌else◌}
use Rattle.grammar.specs.Tokens.{Token}
use Rattle.grammar.specs.States.{State, Stop, Read, done, stop, unexpected, ended, is_at, first_of, after, take, refused_at, refused}
use Rattle.wgsl_read_cursor.specs.declared.fault.Fault.{Fault}
use Rattle.wgsl_read_cursor.specs.declared.fault.Fault.TheVariants as fault
use Rattle.wgsl_read_cursor.specs.Reading.{refusal_stop, Tells, Fails}

-- what a fault says is why reading stops
pub told : {Y : Type 0} (x : Fault) (s : Stop) (read : Read Y) → Tells x s → read ≡ stop s → Fails x read
told (fault.Refused refusal) s read t r = r ∙ ap stop (sym t)
told fault.OutOfMemory s read t r = tt

-- whatever would be read
stops : (A : Type 0) (x : Fault) (s : Stop) → Fails {Y = A} x (stop s) → Fails {Y = Token} x (stop s)
stops A (fault.Refused refusal) s h = let same : s ≡ refusal_stop refusal.value = cc in ap stop same
stops A fault.OutOfMemory s h = tt

refuses : (A : Type 0) (x : Fault) (end : ℕ) (ts : List Token) → Fails x (refused_at {A = A} end ts)
    → Fails x (refused_at {A = Token} end ts)
refuses A x end [] h = stops A x (ended end) h
refuses A x end (t ∷ ts) h = stops A x (unexpected t) h

pub refused_is : (A : Type 0) (class : ℕ) (old left : State) (taken : Bool) (x : Fault)
    → taken ≡ is_at class old → taken ≡ false → left ≡ (if taken then after old else old)
    → Fails x (refused {A = A} left) → Fails x (take class old)
unfolding take
refused_is A class old left true x a f r h = absurd cc
refused_is A class old left false x a f r h =
    subst (λ b. Fails x (cond b (done (first_of old) (after old)) (refused old))) a
    (refuses A x old.end old.rest (subst (λ (s : State). Fails x (refused {A = A} s)) r h))
