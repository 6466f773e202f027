-- A token that is left after a value is told.
use Rattle.std.proofs.Common.{◌≡◌, ℕ, List, [], ◌∷◌, inr, refl, sym, subst, Ok, Err, Result}
use Rattle.grammar.specs.Tokens.{Token}
use Rattle.grammar.specs.Endings.{Ending}
use Rattle.grammar.specs.States.{State, Read.stop, refused_at, refused}
use Rattle.wgsl_error.specs.declared.Error.{Error}
use Rattle.wgsl_lex_token.specs.Placed.{placed_view}
use Rattle.wgsl_read_cursor.specs.declared.fault.Refusal.{Refusal}
use Rattle.wgsl_read_cursor.specs.declared.fault.Refusal.TheVariants as refusal
use Rattle.wgsl_read_cursor.specs.declared.fault.Fault.{Fault}
use Rattle.wgsl_read_cursor.specs.declared.fault.Fault.TheVariants as fault
use Rattle.wgsl_read_cursor.specs.Reading.{refusal_stop, Fails}
use Rattle.wgsl_read_cursor.specs.Answers.{IsRefusalOf, IsToldOfRefusal, IsToldOf, IsToldAfter, IsAnsweredOf}
use Rattle.wgsl_read_cursor.specs.declared.origin.Origin.{Origin}
use Rattle.wgsl_read_cursor.specs.Origins.{IsRefusedOf, IsFaultOf}

-- what is told of a token that was refused is told after a value
refusal_after : (A : Type 0) (end : ℕ) (t : Token) (ts : List Token) (r : Refusal)
    (ending : Ending) (e : Error) → refused_at {A = A} end (t ∷ ts) ≡ stop (refusal_stop r)
    → IsToldOfRefusal r ending e → IsToldAfter (t ∷ ts) ending e
unfolding refusal_stop
refusal_after A end t ts (refusal.UnexpectedToken p expected) ending e fails told =
    let same : t ≡ placed_view p = cc in subst (λ (u : Token). IsRefusalOf u ending e) (sym same) told
refusal_after A end t ts (refusal.UnexpectedEnd place expected) ending e fails told = absurd cc
refusal_after A end t ts (refusal.Checked x) ending e fails told = absurd cc

refusal_is : (A : Type 0) (end : ℕ) (ts : List Token) (x : Fault) (ending : Ending) (e : Error)
    → (ts ≡ [] → ⊥) → Fails x (refused_at {A = A} end ts) → IsToldOf x ending e → IsToldAfter ts ending e
refusal_is A end [] x ending e some fails told = absurd (some refl)
refusal_is A end (t ∷ ts) (fault.Refused refusal) ending e some fails told =
    refusal_after A end t ts refusal.value ending e fails told
refusal_is A end (t ∷ ts) fault.OutOfMemory ending e some fails told = absurd told

-- it is no end that comes too early
no_end : (A : Type 0) (origin : Origin) (end : ℕ) (t : Token) (ts us : List Token) (r : Refusal)
    → refused_at {A = A} end (t ∷ ts) ≡ stop (refusal_stop r) → IsRefusedOf origin r us
unfolding refusal_stop
no_end A origin end t ts us (refusal.UnexpectedToken p expected) fails = tt
no_end A origin end t ts us (refusal.UnexpectedEnd place expected) fails = absurd cc
no_end A origin end t ts us (refusal.Checked x) fails = tt

fault_after : (A : Type 0) (origin : Origin) (end : ℕ) (ts us : List Token) (x : Fault)
    → (ts ≡ [] → ⊥) → Fails x (refused_at {A = A} end ts) → IsFaultOf origin x us
fault_after A origin end [] us x some fails = absurd (some refl)
fault_after A origin end (t ∷ ts) us (fault.Refused refusal) some fails =
    no_end A origin end t ts us refusal.value fails
fault_after A origin end (t ∷ ts) us fault.OutOfMemory some fails = tt

-- and so it is answered
pub told_after : {T : Type 0} (A : Type 0) (origin : Origin) (read : Result T Fault) (v : T)
    (left : State) (x : Fault) (us : List Token) (ending : Ending) (e : Error) → read ≡ Ok v
    → (left.rest ≡ [] → ⊥) → Fails x (refused {A = A} left)
    → (IsFaultOf origin x us → IsToldOf x ending e) → IsAnsweredOf read left ending (Err e)
told_after A origin read v left x us ending e is some fails told =
    subst (λ r. IsAnsweredOf r left ending (Err e)) (sym is) (inr (refusal_is A left.end left.rest x
    ending e some fails (told (fault_after A origin left.end left.rest us x some fails))))
