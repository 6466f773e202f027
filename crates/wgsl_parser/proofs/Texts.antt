-- What is returned for the tokens of a text says of the text what is promised.
use Rattle.std.proofs.Common.{◌≡◌, ℕ, List, inl, inr, subst}
use Rattle.std.specs.Prelude.{Result, Ok, Err, chars, length}
use Rattle.std.specs.Str.{IsUtf8}
use Rattle.grammar.specs.Tokens.{Token}
use Rattle.grammar.specs.Endings.{Ending}
use Rattle.wgsl_model.specs.Grammar.Symbols.{Symbol, Value}
use Rattle.wgsl_model.specs.Tokens.TokenList.{IsTokenList}
use Rattle.wgsl_theory_grammar.specs.Answers.{answer_of, IsAnswer}
use Rattle.wgsl_theory_grammar.proofs.Faults.Answers.{answers_are_true}
use Rattle.wgsl_theory_grammar.proofs.Tokens.Places.{bytes_width}
use Rattle.wgsl_error.specs.declared.Error.{Error}
use Rattle.wgsl_error.specs.View.{fault_view}
use Rattle.wgsl_read_cursor.specs.Answers.{Answered}
use Rattle.wgsl_read_cursor.specs.Places.{StandsWithin}
use Rattle.wgsl_read_cursor.proofs.Places.{named_within, memory_within}
use Rattle.wgsl_model.specs.SourceTrees.{IsTreeOf}
use Rattle.wgsl_parser.specs.Sources.{IsRead}

-- what is returned for the tokens of a text
pub read_is : (n : Symbol) {X : Type 0} (view : X → Value n) (source : List ℕ) (ts : List Token)
    (ending : Ending) (result : Result X Error) → IsUtf8 source → IsTokenList (chars source) ts ending
    → Answered view result (answer_of n ts ending)
    → IsRead n (λ v. IsTreeOf n (chars source) (view v)) source result
read_is n view source ts ending (Ok v) u l a =
    let t = subst (IsAnswer n ts ending) a (answers_are_true n ts ending) in
    record { accepted = (ts, subst (IsTokenList (chars source) ts) t.0 l, t.1); refused = tt; placed = tt }
read_is n view source ts ending (Err e) u l (inl m) =
    record { accepted = tt; refused = inl m; placed = memory_within (length source) e m }
read_is n view source ts ending (Err e) u l (inr a) =
    let t = subst (IsAnswer n ts ending) a (answers_are_true n ts ending) in
    record {
      accepted = tt;
      refused = inr (ts, ending, l, t);
      placed = subst (StandsWithin e.span) (bytes_width source u)
          (named_within n (chars source) ts ending (fault_view e) l t);
    }

-- a refusal, where something else would be accepted
pub refused_alike : (n : Symbol) {X Y : Type 0} (accepts : X → Type 0) (takes : Y → Type 0)
    (source : List ℕ) (read : Result X Error) (e : Error) → IsRead n accepts source read
    → read ≡ Err e → IsRead n takes source (Err e)
refused_alike n accepts takes source read e h is =
    let k = subst (IsRead n accepts source) is h in
    record { accepted = tt; refused = k.refused; placed = k.placed }

-- something else that is accepted
pub accepted_alike : (n : Symbol) {X Y : Type 0} (accepts : X → Type 0) (takes : Y → Type 0)
    (source : List ℕ) (read : Result X Error) (v : X) (w : Y) → IsRead n accepts source read
    → read ≡ Ok v → (accepts v → takes w) → IsRead n takes source (Ok w)
accepted_alike n accepts takes source read v w h is f =
    let k = subst (IsRead n accepts source) is h in
    record { accepted = f k.accepted; refused = tt; placed = tt }

-- what a part of what was read is answered with
pub ruleset alike = (refused_alike, accepted_alike)
