-- Where nothing is checked, the reader returns what the definitions name.
use Rattle.std.proofs.Common.{◌≡◌, List, [], ◌∷◌, ◌++◌, refl, sym, ap, subst, ◌∙◌, append-nil}
use Rattle.std.specs.Prelude.{None}
use Rattle.grammar.specs.Tokens.{Token, Fault, span_between}
use Rattle.grammar.specs.Grammar.{Mode.checking, Mode.unchecked, Derives, IsSentence, IsViable}
use Rattle.grammar.specs.Endings.{Ending, Ending.finished, Ending.carried}
use Rattle.grammar.specs.Faults.{head_check, FaultIn}
use Rattle.grammar.specs.Reading.{Outcome, Outcome.ok, Outcome.stuck, Outcome.bad, Outcome.out, read_all, Says}
use Rattle.grammar.proofs.Reading.Depth.{loosen}
use Rattle.grammar.proofs.Faults.Outcomes.{outcomes}
use Rattle.wgsl_model.specs.Grammar.Symbols.{Dialect, Dialect.parsed, Dialect.recognized, Symbol, Symbol.ident, Value}
use Rattle.wgsl_model.specs.Grammar.Written.{rules, written}
use Rattle.wgsl_model.specs.Grammar.Small.{small}
use Rattle.wgsl_model.specs.Faults.NamedFault.{IsNamedUnchecked.unchecked_unexpected, IsNamedUnchecked.unchecked_carried, IsNamedUnchecked.unchecked_missing}
use Rattle.wgsl_theory_grammar.specs.Factored.{Further.components, FactoredSymbol, FactoredSymbol.of, FactoredSymbol.further, FactoredValue, small_body}
use Rattle.wgsl_theory_grammar.specs.Unchecked.{syntax_body, unchecked_body}
use Rattle.wgsl_theory_grammar.specs.Tables.{rank_limit, tables}
use Rattle.wgsl_theory_grammar.specs.Apart.{nowhere}
use Rattle.wgsl_theory_grammar.specs.Answers.{answer_said, unchecked_answer_of, IsUncheckedAnswer, small_answer_of, IsSmallAnswer}
use Rattle.wgsl_theory_grammar.proofs.UncheckedTested.{unchecked_tested}
use Rattle.wgsl_theory_grammar.proofs.WithoutChecks.{part_unchecked, part_stripped}
use Rattle.wgsl_theory_grammar.proofs.Forms.Links.{written_is_factored, factored_is_written}
use Rattle.wgsl_theory_grammar.proofs.WrittenTree.{sentence_in, sentence_is_viable}

-- ---- sentences in both forms
sentence_out : (L : Dialect) (n : Symbol) (ts : List Token)
    → IsSentence (unchecked_body L) (of n) ts → IsSentence (rules L) n ts
sentence_out parsed n ts (v, d) =
    (v, factored_is_written parsed unchecked n v ts [] (part_unchecked unchecked (of n) v ts [] d))
sentence_out recognized n ts (v, d) = (v, factored_is_written recognized unchecked n v ts [] d)

sentence_back : (L : Dialect) (n : Symbol) (ts : List Token) → IsSentence (rules L) n ts
    → IsSentence (unchecked_body L) (of n) ts
sentence_back parsed n ts (v, d) =
    (v, part_stripped unchecked (of n) v ts [] (written_is_factored parsed unchecked n v ts [] d))
sentence_back recognized n ts s = sentence_in recognized n ts s

viable_out : (L : Dialect) (n : Symbol) (ts : List Token) → IsViable (unchecked_body L) (of n) ts
    → IsViable (rules L) n ts
viable_out L n ts (zs, s) = (zs, sentence_out L n (ts ++ zs) s)

viable_back : (L : Dialect) (n : Symbol) (ts : List Token) → IsViable (rules L) n ts
    → IsViable (unchecked_body L) (of n) ts
viable_back L n ts (zs, s) = (zs, sentence_back L n (ts ++ zs) s)

-- what is derived is a sentence
derived_sentence : (L : Dialect) (n : Symbol) (v : Value n) (ts : List Token)
    → Derives checking (unchecked_body L) (of n) v ts → IsSentence (rules L) n ts
derived_sentence L n v ts d = sentence_out L n ts (v, loosen checking (unchecked_body L) (of n) v ts [] d)

-- ---- nothing is checked
no_check : (L : Dialect) (n : FactoredSymbol) (v : FactoredValue n) → head_check (unchecked_body L n) v ≡ (λ s. None)
no_check parsed (of ident) v = refl
no_check recognized (of ident) v = refl
no_check L (of n) v = refl
no_check parsed (further components) v = refl
no_check recognized (further components) v = refl
no_check L (further x) v = refl

no_fault : (L : Dialect) (ts : List Token) (x : Fault) (ys : List Token)
    → FaultIn (unchecked_body L) nowhere ts x ys → ⊥
no_fault L ts x ys f =
    let q = sym (ap (λ (g : _). g (span_between f.from ys)) (no_check L f.symbol_of f.faulty.0)) ∙ f.faulty.2 in
    absurd cc

said_is : (L : Dialect) (n : Symbol) (Holds : Value n → Type 0) (ts : List Token) (ending : Ending)
    → ((v : Value n) → Derives checking (unchecked_body L) (of n) v ts → Holds v)
    → (o : Outcome (Value n)) → Says (unchecked_body L) nowhere (of n) ts o
    → IsUncheckedAnswer L n Holds ts ending (answer_said ts ending o)
said_is L n Holds ts finished f (ok v []) h = (refl, f v h.0)
said_is L n Holds ts (carried x) f (ok v []) h = unchecked_carried x
    (sentence_is_viable L n ts (derived_sentence L n v ts h.0)) refl
said_is L n Holds ts ending f (ok v (t ∷ us)) (p, w, i, j, k) = unchecked_unexpected p us t w
    (viable_out L n p i) (λ z. j (viable_back L n (p ++ (t ∷ [])) z))
said_is L n Holds ts ending f (stuck (t ∷ us)) (p, w, i, j, k) = unchecked_unexpected p us t w
    (viable_out L n p i) (λ z. j (viable_back L n (p ++ (t ∷ [])) z))
said_is L n Holds ts finished f (stuck []) (i, j, k) = unchecked_missing (viable_out L n ts i)
    (λ z. j (sentence_back L n ts z)) refl
said_is L n Holds ts (carried x) f (stuck []) (i, j, k) = unchecked_carried x (viable_out L n ts i) refl
said_is L n Holds ts ending f (bad x us) (p, w, i, g, k) = absurd (no_fault L ts x us g)
said_is L n Holds ts ending f out h = absurd h

-- what the reader returns is true
answers_are_true : (L : Dialect) (n : Symbol) (Holds : Value n → Type 0) (ts : List Token) (ending : Ending)
    → ((v : Value n) → Derives checking (unchecked_body L) (of n) v ts → Holds v)
    → IsUncheckedAnswer L n Holds ts ending (unchecked_answer_of L n ts ending)
answers_are_true L n Holds ts ending f =
    said_is L n Holds ts ending f (read_all tables checking (unchecked_body L) rank_limit (of n) ts)
    (outcomes tables (unchecked_body L) rank_limit nowhere (unchecked_tested L) (of n) ts)

-- of the whole language
pub syntax_answers_are_true : (n : Symbol) (ts : List Token) (ending : Ending)
    → IsUncheckedAnswer parsed n (λ v. IsSentence written n ts) ts ending (unchecked_answer_of parsed n ts ending)
syntax_answers_are_true n ts ending = answers_are_true parsed n
    (λ v. IsSentence written n ts) ts ending (λ v d. derived_sentence parsed n v ts d)

-- and in the dialect
pub small_answers_are_true : (n : Symbol) (ts : List Token) (ending : Ending)
    → IsSmallAnswer n ts ending (small_answer_of n ts ending)
small_answers_are_true n ts ending = answers_are_true recognized n (λ v. Derives checking small n v ts)
    ts ending (λ v d. factored_is_written recognized checking n v ts [] d)
