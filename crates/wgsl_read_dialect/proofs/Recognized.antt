-- What is returned for the tokens of a text is what the definitions name.
use Rattle.std.proofs.Common.{◌≡◌, ◌⊎◌, inl, inr, ℕ, false, List, [], ◌∷◌, length, refl, sym, ap, subst, ◌∙◌}
use Rattle.std.specs.Prelude.{Result, Ok, Err, IfOk, IfErr, chars}
use Rattle.std.specs.Str.{IsUtf8}
use Rattle.grammar.specs.Tokens.{Token, Fault}
use Rattle.grammar.specs.Grammar.{Mode.checking}
use Rattle.grammar.specs.Endings.{Ending, Ending.finished, Ending.carried, Answer, Answer.accepted, Answer.denied}
use Rattle.grammar.specs.Reading.{Outcome, Outcome.ok, Outcome.stuck, Outcome.bad, Outcome.out, read_all}
use Rattle.grammar.specs.States.{State, start_state, Read, tag, reads}
use Rattle.wgsl_model.specs.Faults.Checked.{wants_memory}
use Rattle.wgsl_model.specs.Trees.Units.{TranslationUnit}
use Rattle.wgsl_model.specs.Grammar.Symbols.{Dialect, Dialect.parsed, Dialect.recognized, Symbol.unit}
use Rattle.wgsl_model.specs.Faults.NamedFault.{IsNamedUnchecked}
use Rattle.wgsl_model.specs.Tokens.TokenList.{IsTokenList}
use Rattle.wgsl_theory_grammar.specs.Unchecked.{unchecked_body}
use Rattle.wgsl_theory_grammar.specs.Factored.{FactoredSymbol.of}
use Rattle.wgsl_theory_grammar.specs.Tables.{rank_limit, tables}
use Rattle.wgsl_theory_grammar.specs.Answers.{answer_said, unchecked_answer_of, IsUncheckedAnswer, small_answer_of, IsSmallAnswer}
use Rattle.wgsl_theory_grammar.proofs.Faults.UncheckedAnswers.{syntax_answers_are_true, small_answers_are_true}
use Rattle.wgsl_theory_grammar.proofs.Tokens.Places.{bytes_width}
use Rattle.wgsl_error.specs.declared.Error.{Error}
use Rattle.wgsl_error.specs.View.{fault_view}
use Rattle.wgsl_read_cursor.specs.declared.fault.Fault as declared
use Rattle.wgsl_read_cursor.specs.Reading.{Gives, state}
use Rattle.wgsl_read_cursor.specs.Answers.{IsOutOfMemory, IsAnsweredOf, Answered}
use Rattle.wgsl_read_cursor.specs.Places.{StandsWithin}
use Rattle.wgsl_read_cursor.specs.declared.source.TokenSource.{TokenSource}
use Rattle.wgsl_read_cursor.specs.Origins.{AreOf, IsSourceOf, IsReadTo}
use Rattle.wgsl_read_cursor.proofs.Origins.{read_alone, all_taken}
use Rattle.wgsl_read_cursor.proofs.Places.{unchecked_within, memory_within}
use Rattle.wgsl_read_cursor.proofs.Seen.{said_seen}
use Rattle.wgsl_read_dialect.specs.Steps.{rule_steps}
use Rattle.wgsl_read_dialect.specs.Following.{forgotten, passes, follow}
use Rattle.wgsl_read_dialect.specs.Recognized.{AreUnit, Recognized}
use Rattle.wgsl_read_dialect.proofs.Following.{passes_is}

-- an outcome and an answer, their value forgotten
abbrev without_value : {A : Type 0} → Outcome A → Outcome (Unit {0})
without_value (ok a us) = ok (tt {0}) us
without_value (stuck us) = stuck us
without_value (bad x us) = bad x us
without_value out = out

abbrev answer_without_value : {A : Type 0} → Answer A → Answer (Unit {0})
answer_without_value (accepted a) = accepted (tt {0})
answer_without_value (denied x) = denied x

tagged : {A : Type 0} (s : State) (o : Outcome A) → forgotten (tag s o) ≡ tag s (without_value o)
tagged s (ok a us) = refl
tagged s (stuck []) = refl
tagged s (stuck (t ∷ us)) = refl
tagged s (bad x us) = refl
tagged s out = refl

said_without_value : {A : Type 0} (ts : List Token) (ending : Ending) (o : Outcome A)
    → answer_said ts ending (without_value o) ≡ answer_without_value (answer_said ts ending o)
said_without_value ts finished (ok a []) = refl
said_without_value ts (carried x) (ok a []) = refl
said_without_value ts ending (ok a (t ∷ us)) = refl
said_without_value ts finished (stuck []) = refl
said_without_value ts (carried x) (stuck []) = refl
said_without_value ts ending (stuck (t ∷ us)) = refl
said_without_value ts ending (bad x us) = refl
said_without_value ts ending out = refl

-- what the reader on lists says of a unit
abbrev outcome : Dialect → List Token → Outcome TranslationUnit
outcome L ts = read_all tables checking (unchecked_body L) rank_limit (of unit) ts

followed : (L : Dialect) (ts : List Token)
    → follow L (rule_steps L (of unit)) (start_state ts) ≡ tag (start_state ts) (without_value (outcome L ts))
unfolding passes reads
followed L ts = sym (passes_is L (of unit) (start_state ts)) ∙ tagged (start_state ts) (outcome L ts)

-- a true answer in a dialect
abbrev IsTrue : Dialect → List Token → Ending → Answer TranslationUnit → Type 0
IsTrue L ts ending a = IsUncheckedAnswer L unit (λ v. AreUnit L ts) ts ending a

small_true : (ts : List Token) (ending : Ending) (a : Answer TranslationUnit)
    → IsSmallAnswer unit ts ending a → IsTrue recognized ts ending a
small_true ts ending (accepted v) h = (h.0, (v, h.1))
small_true ts ending (denied x) h = h

answers_are_true : (L : Dialect) (ts : List Token) (ending : Ending)
    → IsTrue L ts ending (unchecked_answer_of L unit ts ending)
answers_are_true parsed ts ending = syntax_answers_are_true unit ts ending
answers_are_true recognized ts ending = small_true ts ending (small_answer_of unit ts ending)
    (small_answers_are_true unit ts ending)

-- it says what is promised
true_is : (L : Dialect) (ts : List Token) (ending : Ending) (result : Result (Unit {0}) Error)
    (a : Answer TranslationUnit) → IsTrue L ts ending a
    → Answered (λ u. u) result (answer_without_value a) → Recognized L result ts ending
true_is L ts ending (Ok u) (accepted v) h r = h
true_is L ts ending (Ok u) (denied x) h r = absurd cc
true_is L ts ending (Err e) a h (inl m) = inl m
true_is L ts ending (Err e) (accepted v) h (inr r) = absurd cc
true_is L ts ending (Err e) (denied x) h (inr r) =
    let same : x ≡ fault_view e = cc in inr (subst (IsNamedUnchecked L unit ts ending) same h)

-- what is returned of what was followed
pub unit_is : (L : Dialect) (source : TokenSource) (ts : List Token) (ending : Ending)
    (read : Result (Unit {0}) declared.Fault) (left : State) (result : Result (Unit {0}) Error)
    → IsSourceOf source ts ending → wants_memory ending ≡ false
    → Gives (λ u. u) read left (follow L (rule_steps L (of unit)) (state source.tokens))
    → ((us : List Token) (e : Ending) → AreOf source.origin us e → IsReadTo source.origin read left us
    → IsAnsweredOf read left e result) → Recognized L result ts ending
unit_is L source ts ending read left result is w gives answered =
    let alone = read_alone ts ending w in
    let start : state source.tokens ≡ start_state ts = is.0 ∙ ap start_state alone in
    let given = subst (λ (m : Read (Unit {0})). Gives (λ u. u) read left m)
    (ap (follow L (rule_steps L (of unit))) start ∙ followed L ts) gives in
    let taken = all_taken (λ u. u) source.origin ts ending (without_value (outcome L ts)) read left
    is.1 (subst (λ (us : List Token). Gives (λ u. u) read left
    (tag (start_state us) (without_value (outcome L ts)))) (sym alone) given) in
    let said = said_seen (λ u. u) ts ending (without_value (outcome L ts)) read left result given
    (answered ts ending is.1 taken) in
    true_is L ts ending result (answer_said ts ending (outcome L ts)) (answers_are_true L ts ending)
    (subst (Answered (λ u. u) result) (said_without_value ts ending (outcome L ts)) said)

-- ---- of the text
-- in a dialect
abbrev IsUnitIn : Dialect → List ℕ → Type 0
IsUnitIn L source = (ts : List Token) × IsTokenList source ts finished × AreUnit L ts

abbrev IsRefusedIn : Dialect → List ℕ → Fault → Type 0
IsRefusedIn L source x = (ts : List Token) × (ending : Ending) × IsTokenList source ts ending
    × IsNamedUnchecked L unit ts ending x

pub accepted_is : (L : Dialect) (source : List ℕ) (ts : List Token) (ending : Ending)
    (result : Result (Unit {0}) Error) → IsTokenList source ts ending
    → Recognized L result ts ending → IfOk result (λ u. IsUnitIn L source)
accepted_is L source ts ending (Ok u) l h = (ts, subst (IsTokenList source ts) h.0 l, h.1)
accepted_is L source ts ending (Err e) l h = tt

pub refused_is : (L : Dialect) (source : List ℕ) (ts : List Token) (ending : Ending)
    (result : Result (Unit {0}) Error) → IsTokenList source ts ending → Recognized L result ts ending
    → IfErr result (λ e. IsOutOfMemory e ⊎ IsRefusedIn L source (fault_view e))
refused_is L source ts ending (Ok u) l h = tt
refused_is L source ts ending (Err e) l (inl m) = inl m
refused_is L source ts ending (Err e) l (inr h) = inr (ts, ending, l, h)

pub placed_is : (L : Dialect) (source : List ℕ) (ts : List Token) (ending : Ending) (result : Result (Unit {0}) Error)
    → IsUtf8 source → IsTokenList (chars source) ts ending → Recognized L result ts ending
    → IfErr result (λ e. StandsWithin e.span (length source))
placed_is L source ts ending (Ok u) t l h = tt
placed_is L source ts ending (Err e) t l (inl m) = memory_within (length source) e m
placed_is L source ts ending (Err e) t l (inr h) = subst (StandsWithin e.span)
    (bytes_width source t) (unchecked_within L unit (chars source) ts ending (fault_view e) l h)
