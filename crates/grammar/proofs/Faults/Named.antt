-- What is returned for a list and how it ended: the value that it derives, or the fault that is
-- named.
use Rattle.std.proofs.Common.{ℕ, List, [], ◌∷◌, refl, sym, ap, subst, append-nil}
use Rattle.grammar.specs.Tokens.{Token, last_end}
use Rattle.grammar.specs.Grammar.{Grammar, Mode.checking, Mode.unchecked, Derives, IsSentence, IsViable}
use Rattle.grammar.specs.Endings.{Ending, Ending.finished, Ending.carried, Wording}
use Rattle.grammar.specs.Faults.{IsNamedBy.first_fault, IsNamedBy.unexpected_token, IsNamedBy.carried_fault, IsNamedBy.missing_token, Answers}
use Rattle.grammar.specs.Tables.{Tables}
use Rattle.grammar.specs.Reading.{Outcome, Outcome.ok, Outcome.stuck, Outcome.bad, Outcome.out, Says, read_all}
use Rattle.grammar.specs.States.{start_state, tag, reads, answer}
use Rattle.grammar.proofs.Reading.Frame.{tokens_all}
use Rattle.grammar.proofs.Reading.Depth.{loosen}
use Rattle.grammar.proofs.Faults.Outcomes.{IsTested, outcomes}

derived_is_sentence : {N : Type 0} {Value : N → Type 0} (body : (n : N) → Grammar N Value (Value n))
    (n : N) (v : Value n) (ts : List Token) → Derives checking body n v ts → IsSentence body n ts
derived_is_sentence body n v ts d = (v, loosen checking body n v ts [] d)

sentence_is_viable : {N : Type 0} {Value : N → Type 0} (body : (n : N) → Grammar N Value (Value n))
    (n : N) (ts : List Token) → IsSentence body n ts → IsViable body n ts
sentence_is_viable body n ts (v, d) =
    ([], (v, subst (λ (x : List Token). Derives unchecked body n v x) (sym (append-nil ts)) d))

-- all that is returned for what the reader read is true
pub answers : {N : Type 0} {Value : N → Type 0} (T : Tables N)
    (body : (n : N) → Grammar N Value (Value n)) (R : ℕ) (apart : N → List ℕ) → IsTested T body R apart
    → (wording : Wording) (n : N) (ts : List Token) (ending : Ending)
    → Answers body apart wording n ts ending (answer wording ending (reads T body R n (start_state ts)))
unfolding reads
answers {N} {Value} T body R apart s wording n ts ending = go (read_all T checking body R n ts)
    (outcomes T body R apart s n ts) ending
  where
    go : (o : Outcome (Value n)) → Says body apart n ts o → (ending : Ending)
        → Answers body apart wording n ts ending (answer wording ending (tag (start_state ts) o))
    go (ok v []) h finished = (refl, h.0)
    go (ok v []) h (carried x) =
        carried_fault (sentence_is_viable body n ts (derived_is_sentence body n v ts h.0), h.1) refl
    go (ok v (t ∷ us)) h ending = unexpected_token t us h refl
    go (stuck (t ∷ us)) h ending = unexpected_token t us h refl
    go (stuck []) h finished = missing_token (h.0, h.2) h.1 refl
        (ap (λ (us : List Token). wording.missing (last_end 0 us)) (tokens_all ts))
    go (stuck []) h (carried x) = carried_fault (h.0, h.2) refl
    go (bad x us) h ending = first_fault us h
    go out h ending = absurd h
