-- What is answered, seen by view, is what the reader on lists returns.
use Rattle.std.proofs.Common.{◌≡◌, true, false, List, [], ◌∷◌, ◌++◌, inl, inr, refl, sym, ap, subst, ◌∙◌, Ok, Err, Result}
use Rattle.std.specs.Prelude.{Bool, if◌then◌else◌}
use Rattle.grammar.specs.Tokens.{Token, Fault, last_end, tokens_between}
use Rattle.grammar.specs.Grammar.{Mode.checking}
use Rattle.grammar.specs.Endings.{Ending, Ending.finished, Ending.carried, Answer.denied}
use Rattle.grammar.specs.Reading.{Outcome, Outcome.ok, Outcome.stuck, Outcome.bad, Outcome.out, read_all, Says}
use Rattle.grammar.specs.States.{State, Read.stop, start_state, tag}
use Rattle.grammar.proofs.Reading.Frame.{tokens_all}
use Rattle.grammar.proofs.Faults.Outcomes.{outcomes}
use Rattle.wgsl_model.specs.Faults.Kinds.{unexpected_token, unexpected_end}
use Rattle.wgsl_model.specs.Faults.Checked.{wants_memory}
use Rattle.wgsl_model.specs.Grammar.Symbols.{Symbol, Value}
use Rattle.wgsl_theory_grammar.specs.Factored.{FactoredSymbol.of, body}
use Rattle.wgsl_theory_grammar.specs.Tables.{rank_limit, tables}
use Rattle.wgsl_theory_grammar.specs.Apart.{apart}
use Rattle.wgsl_theory_grammar.specs.Answers.{answer_said, opening, answer_in_want, answer_of}
use Rattle.wgsl_theory_grammar.specs.Reader.{reader}
use Rattle.grammar.specs.States.{reads}
use Rattle.wgsl_theory_grammar.proofs.Outcomes.{tested}
use Rattle.wgsl_error.specs.declared.Error.{Error}
use Rattle.wgsl_error.specs.View.{fault_view}
use Rattle.wgsl_lex_token.specs.Placed.{placed_view}
use Rattle.wgsl_read_cursor.specs.declared.fault.Refusal.{Refusal}
use Rattle.wgsl_read_cursor.specs.declared.fault.Refusal.TheVariants as refusal
use Rattle.wgsl_read_cursor.specs.declared.fault.Fault as declared
use Rattle.wgsl_read_cursor.specs.declared.fault.Fault.TheVariants as fault
use Rattle.wgsl_read_cursor.specs.Reading.{refusal_stop, Fails, Gives, state}
use Rattle.wgsl_read_cursor.specs.Sources.{tokens_to_read}
use Rattle.wgsl_read_cursor.specs.Answers.{IsToldOfRefusal, IsToldOf, IsToldAfter, IsAnsweredOf, Answered}
use Rattle.wgsl_read_cursor.specs.declared.source.TokenSource.{TokenSource}
use Rattle.wgsl_read_cursor.specs.Origins.{AreOf, IsSourceOf, IsReadTo}
use Rattle.wgsl_read_cursor.proofs.Origins.{all_taken}

-- ---- tokens that did not end because an allocation failed
after_said : {Y : Type 0} (ts us : List Token) (ending : Ending) (a : Y) (e : Error)
    → IsToldAfter us ending e → answer_said ts ending (ok a us) ≡ denied (fault_view e)
after_said ts [] finished a e told = absurd told
after_said ts [] (carried x) a e told = ap denied (sym told)
after_said ts (t ∷ us) ending a e told = ap denied (sym told.1)

refusal_said : {Y : Type 0} (ts : List Token) (ending : Ending) (o : Outcome Y) (r : Refusal) (e : Error)
    → tag (start_state ts) o ≡ stop (refusal_stop r) → IsToldOfRefusal r ending e
    → answer_said ts ending o ≡ denied (fault_view e)
unfolding refusal_stop
refusal_said ts ending (ok a us) (refusal.UnexpectedToken p expected) e fails told = absurd cc
refusal_said ts ending (stuck []) (refusal.UnexpectedToken p expected) e fails told = absurd cc
refusal_said ts ending (stuck (t ∷ us)) (refusal.UnexpectedToken p expected) e fails told =
    let same : t ≡ placed_view p = cc in ap (λ u. denied (unexpected_token u)) same ∙ ap denied (sym told.1)
refusal_said ts ending (bad y us) (refusal.UnexpectedToken p expected) e fails told = absurd cc
refusal_said ts ending out (refusal.UnexpectedToken p expected) e fails told = absurd cc
refusal_said ts ending (ok a us) (refusal.UnexpectedEnd place expected) e fails told = absurd cc
refusal_said ts finished (stuck []) (refusal.UnexpectedEnd place expected) e fails told =
    let same : last_end 0 (tokens_between ts []) ≡ place = cc in
    ap (λ p. denied (unexpected_end p)) (ap (last_end 0) (sym (tokens_all ts)) ∙ same)
    ∙ ap denied (sym told)
refusal_said ts (carried x) (stuck []) (refusal.UnexpectedEnd place expected) e fails told = ap denied (sym told)
refusal_said ts ending (stuck (t ∷ us)) (refusal.UnexpectedEnd place expected) e fails told = absurd cc
refusal_said ts ending (bad y us) (refusal.UnexpectedEnd place expected) e fails told = absurd cc
refusal_said ts ending out (refusal.UnexpectedEnd place expected) e fails told = absurd cc
refusal_said ts ending (ok a us) (refusal.Checked x) e fails told = absurd cc
refusal_said ts ending (stuck []) (refusal.Checked x) e fails told = absurd cc
refusal_said ts ending (stuck (t ∷ us)) (refusal.Checked x) e fails told = absurd cc
refusal_said ts ending (bad y us) (refusal.Checked x) e fails told =
    let same : y ≡ fault_view x = cc in ap denied (same ∙ ap fault_view (sym told))
refusal_said ts ending out (refusal.Checked x) e fails told = absurd cc

stop_said : {Y : Type 0} (ts : List Token) (ending : Ending) (o : Outcome Y) (x : declared.Fault) (e : Error)
    → Fails x (tag (start_state ts) o) → IsToldOf x ending e
    → answer_said ts ending o ≡ denied (fault_view e)
stop_said ts ending o (fault.Refused refusal) e fails told = refusal_said ts ending o refusal.value e fails told
stop_said ts ending o fault.OutOfMemory e fails told = absurd told

pub said_seen : {X Y : Type 0} (view : X → Y) (ts : List Token) (ending : Ending) (o : Outcome Y)
    (read : Result X declared.Fault) (left : State) (result : Result X Error)
    → Gives view read left (tag (start_state ts) o) → IsAnsweredOf read left ending result
    → Answered view result (answer_said ts ending o)
said_seen view ts ending (ok a us) (Ok v) left (Ok w) gives told =
    let same : a ≡ view v = cc in let rest : us ≡ left.rest = cc in
    ap (λ (e : Ending). answer_said ts e (ok a us)) told.2
    ∙ ap (λ us. answer_said ts finished (ok a us)) (rest ∙ told.1)
    ∙ ap (λ a. answer_said ts finished (ok a [])) (same ∙ ap view (sym told.0))
said_seen view ts ending (stuck []) (Ok v) left result gives told = absurd cc
said_seen view ts ending (stuck (t ∷ us)) (Ok v) left result gives told = absurd cc
said_seen view ts ending (bad y us) (Ok v) left result gives told = absurd cc
said_seen view ts ending out (Ok v) left result gives told = absurd cc
said_seen view ts ending (ok a us) (Ok v) left (Err e) gives (inl m) = inl m
said_seen view ts ending (ok a us) (Ok v) left (Err e) gives (inr told) =
    let rest : left.rest ≡ us = cc in
    inr (after_said ts us ending a e (subst (λ us. IsToldAfter us ending e) rest told))
said_seen view ts ending o (Err x) left (Ok w) gives told = absurd told
said_seen view ts ending o (Err x) left (Err e) gives (inl m) = inl m
said_seen view ts ending o (Err x) left (Err e) gives (inr told) = inr (stop_said ts ending o x e gives told)

-- ---- tokens that ended because an allocation failed: as if a `(` followed
-- one token that is left is that `(`
abbrev IsOpened : {Y : Type 0} → Outcome Y → Type 0
IsOpened (ok a (t ∷ [])) = t ≡ opening
IsOpened (stuck (t ∷ [])) = t ≡ opening
IsOpened o = Unit {0}

last_of : (ts p : List Token) (t u : Token) → ts ++ (u ∷ []) ≡ p ++ (t ∷ []) → t ≡ u
last_of [] [] t u e = cc
last_of [] (q ∷ []) t u e = absurd cc
last_of [] (q ∷ (r ∷ p)) t u e = absurd cc
last_of (s ∷ []) [] t u e = absurd cc
last_of (s ∷ (r ∷ ts)) [] t u e = absurd cc
last_of (s ∷ ts) (q ∷ p) t u e = let rest : ts ++ (u ∷ []) ≡ p ++ (t ∷ []) = cc in last_of ts p t u rest

is_opened : (n : Symbol) (ts : List Token) (o : Outcome (Value n))
    → Says body apart (of n) (ts ++ (opening ∷ [])) o → IsOpened o
is_opened n ts (ok a []) h = tt
is_opened n ts (ok a (t ∷ [])) h = last_of ts h.0 t opening h.1
is_opened n ts (ok a (t ∷ (u ∷ us))) h = tt
is_opened n ts (stuck []) h = tt
is_opened n ts (stuck (t ∷ [])) h = last_of ts h.0 t opening h.1
is_opened n ts (stuck (t ∷ (u ∷ us))) h = tt
is_opened n ts (bad x us) h = tt
is_opened n ts out h = tt

after_in_want : {Y : Type 0} (us : List Token) (x : Fault) (a : Y) (e : Error)
    → wants_memory (carried x) ≡ true → IsOpened (ok a us) → IsToldAfter us (carried x) e
    → answer_in_want x (ok a us) ≡ denied (fault_view e)
after_in_want [] x a e m opened told = ap denied (sym told)
after_in_want (t ∷ []) x a e m opened told = let no = told.0 opened in absurd cc
after_in_want (t ∷ (u ∷ us)) x a e m opened told = ap denied (sym told.1)

refusal_in_want : {Y : Type 0} (x : Fault) (s : State) (o : Outcome Y) (r : Refusal) (e : Error)
    → wants_memory (carried x) ≡ true → IsOpened o → tag s o ≡ stop (refusal_stop r)
    → IsToldOfRefusal r (carried x) e
    → answer_in_want x o ≡ denied (fault_view e)
unfolding refusal_stop
refusal_in_want x s (ok a us) (refusal.UnexpectedToken p expected) e m opened fails told = absurd cc
refusal_in_want x s (stuck []) (refusal.UnexpectedToken p expected) e m opened fails told = absurd cc
refusal_in_want x s (stuck (t ∷ [])) (refusal.UnexpectedToken p expected) e m opened fails told =
    let same : placed_view p ≡ t = cc in let no = told.0 (same ∙ opened) in absurd cc
refusal_in_want x s (stuck (t ∷ (u ∷ us))) (refusal.UnexpectedToken p expected) e m opened fails told =
    let same : t ≡ placed_view p = cc in ap (λ u. denied (unexpected_token u)) same ∙ ap denied (sym told.1)
refusal_in_want x s (bad z us) (refusal.UnexpectedToken p expected) e m opened fails told = absurd cc
refusal_in_want x s out (refusal.UnexpectedToken p expected) e m opened fails told = absurd cc
refusal_in_want x s (ok a us) (refusal.UnexpectedEnd place expected) e m opened fails told = absurd cc
refusal_in_want x s (stuck []) (refusal.UnexpectedEnd place expected) e m opened fails told = ap denied (sym told)
refusal_in_want x s (stuck (t ∷ us)) (refusal.UnexpectedEnd place expected) e m opened fails told = absurd cc
refusal_in_want x s (bad z us) (refusal.UnexpectedEnd place expected) e m opened fails told = absurd cc
refusal_in_want x s out (refusal.UnexpectedEnd place expected) e m opened fails told = absurd cc
refusal_in_want x s (ok a us) (refusal.Checked y) e m opened fails told = absurd cc
refusal_in_want x s (stuck []) (refusal.Checked y) e m opened fails told = absurd cc
refusal_in_want x s (stuck (t ∷ us)) (refusal.Checked y) e m opened fails told = absurd cc
refusal_in_want x s (bad z us) (refusal.Checked y) e m opened fails told =
    let same : z ≡ fault_view y = cc in ap denied (same ∙ ap fault_view (sym told))
refusal_in_want x s out (refusal.Checked y) e m opened fails told = absurd cc

stop_in_want : {Y : Type 0} (x : Fault) (s : State) (o : Outcome Y) (y : declared.Fault) (e : Error)
    → wants_memory (carried x) ≡ true → IsOpened o → Fails y (tag s o) → IsToldOf y (carried x) e
    → answer_in_want x o ≡ denied (fault_view e)
stop_in_want x s o (fault.Refused refusal) e m opened fails told =
    refusal_in_want x s o refusal.value e m opened fails told
stop_in_want x s o fault.OutOfMemory e m opened fails told = absurd told

want_seen : {X Y : Type 0} (view : X → Y) (x : Fault) (s : State) (o : Outcome Y)
    (read : Result X declared.Fault) (left : State) (result : Result X Error)
    → wants_memory (carried x) ≡ true → IsOpened o
    → Gives view read left (tag s o) → IsAnsweredOf read left (carried x) result
    → Answered view result (answer_in_want x o)
want_seen view x s o (Ok v) left (Ok w) m opened gives told = let ends = told.2 in absurd cc
want_seen view x s (stuck []) (Ok v) left (Err e) m opened gives told = absurd cc
want_seen view x s (stuck (t ∷ us)) (Ok v) left (Err e) m opened gives told = absurd cc
want_seen view x s (bad y us) (Ok v) left (Err e) m opened gives told = absurd cc
want_seen view x s out (Ok v) left (Err e) m opened gives told = absurd cc
want_seen view x s (ok a us) (Ok v) left (Err e) m opened gives (inl r) = inl r
want_seen view x s (ok a us) (Ok v) left (Err e) m opened gives (inr told) =
    let rest : left.rest ≡ us = cc in
    inr (after_in_want us x a e m opened (subst (λ us. IsToldAfter us (carried x) e) rest told))
want_seen view x s o (Err y) left (Ok w) m opened gives told = absurd told
want_seen view x s o (Err y) left (Err e) m opened gives (inl r) = inl r
want_seen view x s o (Err y) left (Err e) m opened gives (inr told) = inr (stop_in_want x s o y e m opened gives told)

-- ---- both
-- what is returned for what a parse function gave
pub seen : (n : Symbol) {X : Type 0} (view : X → Value n) (ts : List Token) (ending : Ending)
    (read : Result X declared.Fault) (left : State) (result : Result X Error)
    → Gives view read left (reader (of n) (start_state (tokens_to_read ts ending)))
    → IsAnsweredOf read left ending result → Answered view result (answer_of n ts ending)
unfolding reader reads
seen n view ts finished read left result gives told =
    said_seen view ts finished (read_all tables checking body rank_limit (of n) ts) read left result
    gives told
seen n view ts (carried x) read left result gives told = by_want (wants_memory (carried x)) refl gives
  where
    reads_of : List Token → Outcome (Value n)
    reads_of us = read_all tables checking body rank_limit (of n) us

    by_want : (b : Bool) → wants_memory (carried x) ≡ b
        → Gives view read left (tag (start_state (if b then ts ++ (opening ∷ []) else ts))
        (reads_of (if b then ts ++ (opening ∷ []) else ts)))
        → Answered view result (if b then answer_in_want x (reads_of (ts ++ (opening ∷ [])))
        else answer_said ts (carried x) (reads_of ts))
    by_want true m given =
        want_seen view x (start_state (ts ++ (opening ∷ [])))
        (reads_of (ts ++ (opening ∷ []))) read left result m
        (is_opened n ts (reads_of (ts ++ (opening ∷ [])))
        (outcomes tables body rank_limit apart tested (of n) (ts ++ (opening ∷ [])))) given told
    by_want false m given = said_seen view ts (carried x) (reads_of ts) read left result given told

-- what is returned for what a parse function gave of a source
pub source_seen : (n : Symbol) {X : Type 0} (view : X → Value n) (source : TokenSource) (read : Result X
    declared.Fault) (left : State) (result : Result X Error) (ts : List Token) (ending : Ending)
    → IsSourceOf source ts ending
    → Gives view read left (reader (of n) (state source.tokens))
    → ((us : List Token) (e : Ending) → AreOf source.origin us e → IsReadTo source.origin read left us
    → IsAnsweredOf read left e result) → Answered view result (answer_of n ts ending)
unfolding reader reads
source_seen n view source read left result ts ending is gives answered =
    let given = subst (λ (s : State). Gives view read left (reader (of n) s)) is.0 gives in
    let taken = all_taken view source.origin ts ending
    (read_all tables checking body rank_limit (of n) (tokens_to_read ts ending)) read left is.1 given in
    seen n view ts ending read left result given (answered ts ending is.1 taken)
