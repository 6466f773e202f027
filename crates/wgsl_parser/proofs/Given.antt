-- What is returned for the tokens that an iterator gave.
use Rattle.std.proofs.Common.{◌≡◌, inl, inr, subst}
use Rattle.std.specs.Prelude.{Option, Result, Ok, Err}
use Rattle.wgsl_model.specs.Grammar.Symbols.{Symbol, Value}
use Rattle.wgsl_theory_grammar.specs.Answers.{answer_of, IsAnswer}
use Rattle.wgsl_theory_grammar.proofs.Faults.Answers.{answers_are_true}
use Rattle.wgsl_error.specs.declared.Error.{Error}
use Rattle.wgsl_lexer.specs.declared.collect.Collected.{Collected}
use Rattle.wgsl_lexer.specs.Given.{TokenItem, Gave}
use Rattle.wgsl_lexer.specs.Placed.{tokens_view, ending_view}
use Rattle.wgsl_read_cursor.specs.Answers.{Answered}
use Rattle.wgsl_parser.specs.Iterators.{Derived, IsParsed}

-- what is returned for the tokens that it gave
pub parsed_is : (n : Symbol) {X S : Type 0} (view : X → Value n) (starts : S → Type 0)
    (steps : S → Option TokenItem → S → Type 0) (it : S) (found : Collected) (result : Result X Error)
    → starts it → Gave steps it found
    → Answered view result (answer_of n (tokens_view found) (ending_view found.error))
    → IsParsed n (λ v found. Derived n (view v) found) starts steps result
parsed_is n view starts steps it found (Ok v) h g a =
    record {
      accepted = (
        found,
        (it, h, g),
        subst (IsAnswer n (tokens_view found) (ending_view found.error)) a
            (answers_are_true n (tokens_view found) (ending_view found.error)),
      );
      refused = tt;
    }
parsed_is n view starts steps it found (Err e) h g (inl m) = record { accepted = tt; refused = inl m }
parsed_is n view starts steps it found (Err e) h g (inr a) =
    record {
      accepted = tt;
      refused = inr (
        found,
        (it, h, g),
        subst (IsAnswer n (tokens_view found) (ending_view found.error)) a
            (answers_are_true n (tokens_view found) (ending_view found.error)),
      );
    }

-- a refusal, where something else would be accepted
pub refused_alike : (n : Symbol) {X Y S : Type 0} (accepts : X → Collected → Type 0)
    (takes : Y → Collected → Type 0) (starts : S → Type 0) (steps : S → Option TokenItem → S → Type 0)
    (read : Result X Error) (e : Error) → IsParsed n accepts starts steps read
    → read ≡ Err e → IsParsed n takes starts steps (Err e)
refused_alike n accepts takes starts steps read e h is =
    record { accepted = tt; refused = (subst (IsParsed n accepts starts steps) is h).refused }

-- something else that is accepted of the same tokens
pub accepted_alike : (n : Symbol) {X Y S : Type 0} (accepts : X → Collected → Type 0)
    (takes : Y → Collected → Type 0) (starts : S → Type 0) (steps : S → Option TokenItem → S → Type 0)
    (read : Result X Error) (v : X) (w : Y) → IsParsed n accepts starts steps read
    → read ≡ Ok v → ((found : Collected) → accepts v found → takes w found)
    → IsParsed n takes starts steps (Ok w)
accepted_alike n accepts takes starts steps read v w h is f =
    let k = (subst (IsParsed n accepts starts steps) is h).accepted in
    record { accepted = (k.0, k.1, f k.0 k.2); refused = tt }
