-- The tokens of a text, or those that an iterator gave.
use Rattle.std.proofs.Common.{◌≡◌, ◌∙◌, ℕ, Bool, false, List, [], ◌∷◌, ◌++◌, refl, sym, ap, subst, chars, Ok, Err, Result, if◌then◌else◌}
use Rattle.std.specs.Borrow.{Bor}
use Rattle.grammar.specs.Tokens.{Token, last_end, tokens_between}
use Rattle.grammar.specs.Endings.{Ending}
use Rattle.grammar.specs.Reading.{Outcome, Outcome.ok, Outcome.stuck, Outcome.bad, Outcome.out}
use Rattle.grammar.specs.States.{State, Read, done, stop, ended, start_state, tag, state_at}
use Rattle.grammar.proofs.Reading.Frame.{tokens_all}
use Rattle.wgsl_model.specs.Faults.Checked.{wants_memory}
use Rattle.wgsl_model.specs.Tokens.TokenList.{IsTokenList, TokensOf, at_end, at_fault, before_template, before_more}
use Rattle.wgsl_theory_grammar.specs.Answers.{opening}
use Rattle.wgsl_read_cursor.specs.declared.fault.Refusal.{Refusal}
use Rattle.wgsl_read_cursor.specs.declared.fault.Refusal.TheVariants as refusal
use Rattle.wgsl_read_cursor.specs.declared.fault.Fault as declared
use Rattle.wgsl_read_cursor.specs.declared.fault.Fault.TheVariants as fault
use Rattle.wgsl_read_cursor.specs.Reading.{refusal_stop, Gives}
use Rattle.wgsl_read_cursor.specs.declared.origin.Origin.{Origin}
use Rattle.wgsl_read_cursor.specs.declared.origin.Origin.TheVariants as origin
use Rattle.wgsl_read_cursor.specs.Sources.{tokens_to_read}
use Rattle.wgsl_read_cursor.specs.Origins.{AreOf, IsRefusedOf, IsReadTo}

-- ---- a text never ends because an allocation failed
list_ends : (total : ℕ) (text : List ℕ) (ts : List Token) (ending : Ending)
    → TokensOf total text ts ending → wants_memory ending ≡ false
list_ends total text ts ending (at_end t r) = refl
list_ends total text ts ending (at_fault t from after r) = refl
list_ends total text ts ending (before_template t from after rest kind us vs e r w q h) = list_ends total rest vs e h
list_ends total text ts ending (before_more t from after kind us e r n h) = list_ends total after us e h

pub no_want : (source : List ℕ) (ts : List Token) (ending : Ending) → IsTokenList source ts ending
    → wants_memory ending ≡ false
no_want source ts ending h = list_ends _ source ts ending h

-- so its tokens are read as they are
pub read_alone : (ts : List Token) (ending : Ending) → wants_memory ending ≡ false → tokens_to_read ts ending ≡ ts
read_alone ts ending w = ap (λ (b : Bool). if b then ts ++ (opening ∷ []) else ts) w

-- ---- the last token is taken where all were
last_taken : {Y : Type 0} (ts : List Token) (o : Outcome Y) (y : Y) (left : State)
    → tag (start_state ts) o ≡ done y left → left.rest ≡ [] → left.end ≡ last_end 0 ts
last_taken ts (ok a us) y left e r =
    let same : state_at (start_state ts) us ≡ left = cc in
    let none : us ≡ [] = ap (λ (s : State). s.rest) same ∙ r in
    sym (ap (λ (s : State). s.end) same) ∙ ap (λ us. last_end 0 (tokens_between ts us)) none
    ∙ ap (last_end 0) (tokens_all ts)
last_taken ts (stuck []) y left e r = absurd cc
last_taken ts (stuck (t ∷ us)) y left e r = absurd cc
last_taken ts (bad x us) y left e r = absurd cc
last_taken ts out y left e r = absurd cc

last_ended : {Y : Type 0} (ts : List Token) (o : Outcome Y) (place : ℕ)
    → tag (start_state ts) o ≡ stop (ended place) → place ≡ last_end 0 ts
last_ended ts (ok a us) place e = absurd cc
last_ended ts (stuck []) place e =
    let same : last_end 0 (tokens_between ts []) ≡ place = cc in sym same ∙ ap (last_end 0) (tokens_all ts)
last_ended ts (stuck (t ∷ us)) place e = absurd cc
last_ended ts (bad x us) place e = absurd cc
last_ended ts out place e = absurd cc

-- tokens of a text are read as they are
as_read : {Y : Type 0} (source : Bor (List ℕ)) (ts : List Token) (ending : Ending)
    (outcome : Outcome Y) (read : Read Y) → AreOf (origin.Text source) ts ending
    → tag (start_state (tokens_to_read ts ending)) outcome ≡ read → tag (start_state ts) outcome ≡ read
as_read source ts ending outcome read are gives =
    subst (λ (us : List Token). tag (start_state us) outcome ≡ read)
    (read_alone ts ending (no_want (chars source.now) ts ending are)) gives

all_refused : {Y : Type 0} (o : Origin) (ts : List Token) (ending : Ending) (outcome : Outcome Y) (r : Refusal)
    → AreOf o ts ending → tag (start_state (tokens_to_read ts ending)) outcome ≡ stop (refusal_stop r)
    → IsRefusedOf o r ts
unfolding refusal_stop
all_refused o ts ending outcome (refusal.UnexpectedToken t expected) are gives = tt
all_refused (origin.Given error) ts ending outcome (refusal.UnexpectedEnd place expected) are gives = tt
all_refused (origin.Text source) ts ending outcome (refusal.UnexpectedEnd place expected) are gives =
    last_ended ts outcome place (as_read source ts ending outcome (stop (ended place)) are gives)
all_refused o ts ending outcome (refusal.Checked e) are gives = tt

pub all_taken : {X Y : Type 0} (view : X → Y) (o : Origin) (ts : List Token) (ending : Ending)
    (outcome : Outcome Y) (read : Result X declared.Fault) (left : State) → AreOf o ts ending
    → Gives view read left (tag (start_state (tokens_to_read ts ending)) outcome)
    → IsReadTo o read left ts
all_taken view o ts ending outcome (Err (fault.Refused refusal)) left are gives =
    all_refused o ts ending outcome refusal.value are gives
all_taken view o ts ending outcome (Err fault.OutOfMemory) left are gives = tt
all_taken view (origin.Given error) ts ending outcome (Ok v) left are gives = λ r. tt
all_taken view (origin.Text source) ts ending outcome (Ok v) left are gives =
    λ r. last_taken ts outcome (view v) left (as_read source ts ending outcome (done (view v) left) are gives) r

-- ---- how tokens end
pub text_wants : (o : Origin) (ts : List Token) (ending : Ending) (source : Bor (List ℕ))
    → o ≡ origin.Text source → AreOf o ts ending → false ≡ wants_memory ending
text_wants o ts ending source is are =
    sym (no_want (chars source.now) ts ending (subst (λ x. AreOf x ts ending) is are))
