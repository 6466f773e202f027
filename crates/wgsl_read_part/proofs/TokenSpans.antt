-- The span of two tokens that are one after the other.
use Rattle.std.proofs.Common.{◌≡◌, ◌∙◌, ℕ, Bool, true, false, eqb, sym, ap, ap₂, List, [], ◌∷◌, cond}
use Rattle.grammar.specs.Tokens.{Token}
use Rattle.grammar.specs.States.{State, Read.done, Stop, Stop.unexpected, Read.stop, is_at, take, next_start, first_of, after, span_from}

-- what was taken, or why nothing was
chosen : (b : Bool) (u : Token) (r : State) (x : Stop) (t : Token) (s' : State)
    → cond b (done u r) (stop x) ≡ done t s' → (u ≡ t) × (r ≡ s')
chosen true u r x t s' h = (cc, cc)
chosen false u r x t s' h = absurd cc

taken_in : (c e : ℕ) (ts : List Token) (t : Token) (s' : State)
    → take c (record { end = e; rest = ts }) ≡ done t s'
    → (t.start ≡ next_start (record { end = e; rest = ts })) × (t.end ≡ s'.end)
unfolding take is_at next_start first_of after
taken_in c e [] t s' h = absurd cc
taken_in c e (u ∷ ts) t s' h =
    let w = chosen (eqb u.class c) u (record { end = u.end; rest = ts }) (unexpected u) t s' h in
    (ap (λ (v : Token). v.start) (sym w.0), ap (λ (v : Token). v.end) (sym w.0) ∙ ap (λ (z : State). z.end) w.1)

taken : (c : ℕ) (s : State) (t : Token) (s' : State) → take c s ≡ done t s'
    → (t.start ≡ next_start s) × (t.end ≡ s'.end)
taken c s t s' h = taken_in c s.end s.rest t s' h

pub two_tokens : (c d : ℕ) (s : State) (t : Token) (s1 : State) (u : Token) (s2 : State)
    → take c s ≡ done t s1 → take d s1 ≡ done u s2
    → record { start = t.start; end = u.end } ≡ span_from (next_start s) s2
two_tokens c d s t s1 u s2 h k = ap₂ (λ (x y : ℕ). record { start = x; end = y })
    (taken c s t s1 h).0 (taken d s1 u s2 k).1
