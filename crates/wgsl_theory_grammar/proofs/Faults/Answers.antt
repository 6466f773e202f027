-- The reader on lists returns what the definitions name.
use Rattle.grammar.specs.Faults as engine
use Rattle.std.proofs.Common.{◌≡◌, ◌↔◌, ℕ, suc, true, false, List, [], ◌∷◌, ◌++◌, length, inl, inr, refl, sym, ap, ap₂, subst, ◌∙◌, append_assoc, append-nil, arith, length-append}
use Rattle.std.specs.Prelude.{◌==◌, Some, None}
use Rattle.grammar.specs.Tokens.{Token, Fault}
use Rattle.grammar.specs.Grammar.{Mode.checking, IsViable}
use Rattle.grammar.specs.Endings.{Ending, Ending.finished, Ending.carried}
use Rattle.grammar.specs.Faults.{FaultIn, IsFirstFault, IsUnexpected}
use Rattle.grammar.specs.Reading.{Outcome, Outcome.ok, Outcome.stuck, Outcome.bad, Outcome.out, read_all, Says}
use Rattle.grammar.proofs.Reading.Sets.{clash, cases}
use Rattle.grammar.proofs.Reading.Exact.{same_front}
use Rattle.grammar.proofs.Faults.Outcomes.{outcomes}
use Rattle.grammar.proofs.Reading.Beginnings.{cond_yes, cond_no}
use Rattle.wgsl_model.specs.Faults.Kinds.{unexpected_token, out_of_memory_kind}
use Rattle.wgsl_model.specs.Grammar.Checks.{Arguments}
use Rattle.wgsl_model.specs.Grammar.Symbols.{Dialect.parsed, Symbol, Value}
use Rattle.wgsl_model.specs.Grammar.Written.{written}
use Rattle.wgsl_model.specs.Faults.Checked.{wants_memory, IsUnopened, IsWhole, IsCheckedFault, IsCheckedFault.reserved_fault, IsCheckedFault.severity_fault_at, IsCheckedFault.attribute_fault_at, IsCheckedFault.var_template_fault}
use Rattle.wgsl_model.specs.Faults.NamedFault.{NoFaultBefore, IsNamed, IsNamed.checked_first, IsNamed.unexpected_first, IsNamed.carried_last, IsNamed.missing_last}
use Rattle.wgsl_theory_grammar.specs.Factored.{FactoredSymbol.of, body}
use Rattle.wgsl_theory_grammar.specs.Tables.{rank_limit, tables}
use Rattle.wgsl_theory_grammar.specs.Apart.{apart}
use Rattle.wgsl_theory_grammar.specs.Answers.{answer_said, opening, answer_in_want, answer_of, IsAnswer}
use Rattle.wgsl_theory_grammar.proofs.Outcomes.{tested}
use Rattle.wgsl_theory_grammar.proofs.Forms.Links.{factored_is_written}
use Rattle.wgsl_theory_grammar.proofs.Faults.PlainFaults.{fault_is_plain, plain_is_fault}
use Rattle.wgsl_theory_grammar.proofs.Faults.FaultEnds.{no_fault_opens}
use Rattle.wgsl_theory_grammar.proofs.WrittenTree.{sentence_in, viable_in, viable_out, viable_front, checked_is_viable}

-- where the checks find no fault, there is none of the four kinds
none_plain : (ts : List Token) (ending : Ending) (k : ℕ) → engine.HasNoFaultBefore body apart ts k
    → NoFaultBefore ts ending k
none_plain ts ending k h x ys f l = h x ys (plain_is_fault ts ending x ys f) l

-- ---- tokens that did not end because an allocation failed
said_is : (n : Symbol) (ts : List Token) (ending : Ending) → wants_memory ending ≡ false
    → (o : Outcome (Value n)) → Says body apart (of n) ts o → IsAnswer n ts ending (answer_said ts ending o)
said_is n ts finished m (ok v []) h = (refl, factored_is_written parsed checking n v ts [] h.0)
said_is n ts (carried x) m (ok v []) h = carried_last x
    (checked_is_viable parsed n v ts (factored_is_written parsed checking n v ts [] h.0))
    (none_plain ts (carried x) 0 h.1) refl
said_is n ts ending m (ok v (t ∷ us)) (p, w, i, j, k) = unexpected_first p us t w (viable_out parsed n p i)
    (λ z. j (viable_in parsed n (p ++ (t ∷ [])) z)) (none_plain ts ending (suc (length us)) k)
said_is n ts ending m (stuck (t ∷ us)) (p, w, i, j, k) = unexpected_first p us t w (viable_out parsed n p i)
    (λ z. j (viable_in parsed n (p ++ (t ∷ [])) z)) (none_plain ts ending (suc (length us)) k)
said_is n ts finished m (stuck []) (i, j, k) = missing_last (viable_out parsed n ts i)
    (λ z. j (sentence_in parsed n ts z)) (none_plain ts finished 0 k) refl
said_is n ts (carried x) m (stuck []) (i, j, k) = carried_last x (viable_out parsed n ts i)
    (none_plain ts (carried x) 0 k) refl
said_is n ts ending m (bad x us) (p, w, i, f, k) = checked_first p us x w (viable_out parsed n p i)
    (fault_is_plain ts ending m x us f) (none_plain ts ending (suc (length us)) k)
said_is n ts ending m out h = absurd h

-- ---- tokens that ended because an allocation failed: as if a `(` followed
abbrev pub followed : List Token → List Token
followed ts = ts ++ (opening ∷ [])

unopened_followed : (ys : List Token) (ending : Ending) → wants_memory ending ≡ true
    → IsUnopened ys ending → IsUnopened (followed ys) finished
unopened_followed [] ending m u = clash _ m u
unopened_followed (t ∷ ys) ending m u = u

followed_unopened : (ys : List Token) (ending : Ending) → IsUnopened (followed ys) finished → IsUnopened ys ending
followed_unopened [] ending u = absurd cc
followed_unopened (t ∷ ys) ending u = u

whole_followed : (o : Arguments) (ys : List Token) (ending : Ending) → wants_memory ending ≡ true
    → IsWhole o ys ending → IsWhole o (followed ys) finished
whole_followed None ys ending m w = unopened_followed ys ending m w
whole_followed (Some es) ys ending m w = tt

followed_whole : (o : Arguments) (ys : List Token) (ending : Ending)
    → IsWhole o (followed ys) finished → IsWhole o ys ending
followed_whole None ys ending w = followed_unopened ys ending w
followed_whole (Some es) ys ending w = tt

-- a front and an end, with a token more after
longer : (ts before us : List Token) → ts ≡ before ++ us → followed ts ≡ before ++ followed us
longer ts before us w = ap followed w ∙ append_assoc before us (opening ∷ [])

shorter : (ts before us : List Token) → followed ts ≡ before ++ followed us → ts ≡ before ++ us
shorter ts before us w = same_front ts (before ++ us) (opening ∷ []) (w ∙ sym (append_assoc before us (opening ∷ [])))

-- a slice and what is after it
slice_longer : (ts before p ys : List Token) → ts ≡ before ++ (p ++ ys) → followed ts ≡ before ++ (p ++ followed ys)
slice_longer ts before p ys w = longer ts before (p ++ ys) w
    ∙ ap (λ (z : List Token). before ++ z) (append_assoc p ys (opening ∷ []))

slice_shorter : (ts before p ys : List Token) → followed ts ≡ before ++ (p ++ followed ys) → ts ≡ before ++ (p ++ ys)
slice_shorter ts before p ys w = shorter ts before (p ++ ys)
    (w ∙ ap (λ (z : List Token). before ++ z) (sym (append_assoc p ys (opening ∷ []))))

pub fault_followed : (ts : List Token) (ending : Ending) → wants_memory ending ≡ true
    → (x : Fault) (ys : List Token) → IsCheckedFault ts ending x ys
    → IsCheckedFault (followed ts) finished x (followed ys)
fault_followed ts ending m x ys (reserved_fault (before, t, w, a, c, e)) =
    reserved_fault (before, t, longer ts before (t ∷ ys) w, a, c, e)
fault_followed ts ending m x ys (severity_fault_at (before, d, p, t, w, a, b, c, g, n, e)) =
    severity_fault_at (before, d, p, t, longer ts before (d ∷ p ∷ t ∷ ys) w, a, b, c, g, n, e)
fault_followed ts ending m x ys (attribute_fault_at (before, p, v, w, d, c, e)) = attribute_fault_at
    (before, p, v, slice_longer ts before p ys w, d, whole_followed v.node.arguments ys ending m c, e)
fault_followed ts ending m x ys (var_template_fault (before, p, es, w, a, d, e)) =
    var_template_fault (before, p, es, slice_longer ts before p ys w, a, d, e)

pub followed_fault : (ts : List Token) (ending : Ending) (x : Fault) (ys : List Token)
    → IsCheckedFault (followed ts) finished x (followed ys) → IsCheckedFault ts ending x ys
followed_fault ts ending x ys (reserved_fault (before, t, w, a, c, e)) =
    reserved_fault (before, t, shorter ts before (t ∷ ys) w, a, c, e)
followed_fault ts ending x ys (severity_fault_at (before, d, p, t, w, a, b, c, g, n, e)) =
    severity_fault_at (before, d, p, t, shorter ts before (d ∷ p ∷ t ∷ ys) w, a, b, c, g, n, e)
followed_fault ts ending x ys (attribute_fault_at (before, p, v, w, d, c, e)) = attribute_fault_at
    (before, p, v, slice_shorter ts before p ys w, d, followed_whole v.node.arguments ys ending c, e)
followed_fault ts ending x ys (var_template_fault (before, p, es, w, a, d, e)) =
    var_template_fault (before, p, es, slice_shorter ts before p ys w, a, d, e)

-- an end of tokens with a `(` after them has it too
split : (ts p : List Token) (u : Token) (us : List Token) → followed ts ≡ p ++ (u ∷ us)
    → (vs : List Token) × ((u ∷ us) ≡ followed vs) × (ts ≡ p ++ vs)
split ts [] u us e = (ts, sym e, refl)
split [] (x ∷ p) u us e = let f = ap length e in absurd (omega (arith, f, length-append p (u ∷ us)))
split (y ∷ ts) (x ∷ p) u us e =
    let h : y ≡ x = cc in let i : followed ts ≡ p ++ (u ∷ us) = cc in
    let r = split ts p u us i in (r.0, r.1, ap₂ (λ (z : Token) (w : List Token). z ∷ w) h r.2)

none_in_want : (ts : List Token) (ending : Ending) → wants_memory ending ≡ true → (k : ℕ)
    → engine.HasNoFaultBefore body apart (followed ts) (suc k) → NoFaultBefore ts ending k
none_in_want ts ending m k h x ys f l =
    h x (followed ys)
    (plain_is_fault (followed ts) finished x (followed ys) (fault_followed ts ending m x ys f))
    (let e = length-append ys (opening ∷ []) in omega (arith, l, e))

weaker : (ts : List Token) (k : ℕ) → engine.HasNoFaultBefore body apart ts 0 → engine.HasNoFaultBefore body apart ts k
weaker ts k h x ys f l = h x ys f (omega arith)

-- nothing but the `(` is left
last_left : (n : Symbol) (ts : List Token) (x : Fault) → wants_memory (carried x) ≡ true
    → (t : Token) → IsUnexpected body apart (of n) (followed ts) t [] → IsNamed n ts (carried x) x
last_left n ts x m t (p, w, i, j, k) =
    let s = split ts p t [] w in
    let e : s.0 ≡ [] = empty_end s.0 s.1 in
    let all : ts ≡ p = s.2 ∙ (ap (λ (z : List Token). p ++ z) e ∙ append-nil p) in
    carried_last x (subst (IsViable written n) (sym all) (viable_out parsed n p i))
    (none_in_want ts (carried x) m 0 k) refl
  where
    empty_end : (vs : List Token) → (t ∷ []) ≡ followed vs → vs ≡ []
    empty_end [] e = refl
    empty_end (y ∷ vs) e = let f = ap length e in absurd (omega (arith, f, length-append vs (opening ∷ [])))

-- a token before it
other_left : (n : Symbol) (ts : List Token) (x : Fault) → wants_memory (carried x) ≡ true
    → (t u : Token) (us : List Token) → IsUnexpected body apart (of n) (followed ts) t (u ∷ us)
    → IsNamed n ts (carried x) (unexpected_token t)
other_left n ts x m t u us (p, w, i, j, k) = let s = split ts p t (u ∷ us) w in go s.0 s.1 s.2
  where
    go : (vs : List Token) → (t ∷ u ∷ us) ≡ followed vs → ts ≡ p ++ vs → IsNamed n ts (carried x) (unexpected_token t)
    go [] e f = let g = ap length e in absurd (omega (arith, g))
    go (y ∷ vs) e f =
        let h : t ≡ y = cc in let r : (u ∷ us) ≡ followed vs = cc in
        let l : suc (length us) ≡ suc (length vs) = ap length r
        ∙ (let q = length-append vs (opening ∷ []) in omega (arith, q)) in
        let same : ts ≡ p ++ (t ∷ vs) = f ∙ ap (λ (z : Token). p ++ (z ∷ vs)) (sym h) in
        unexpected_first p vs t same (viable_out parsed n p i)
        (λ z. j (viable_in parsed n (p ++ (t ∷ [])) z))
        (none_in_want ts (carried x) m (suc (length vs))
        (subst (λ (z : ℕ). engine.HasNoFaultBefore body apart (followed ts) (suc z)) l k))

faulty_left : (n : Symbol) (ts : List Token) (x : Fault) → wants_memory (carried x) ≡ true
    → (y : Fault) (us : List Token) → IsFirstFault body apart (of n) (followed ts) y us
    → IsNamed n ts (carried x) y
faulty_left n ts x m y [] (p, w, i, f, k) = absurd
    (no_fault_opens ts finished y opening refl (fault_is_plain (followed ts) finished refl y [] f))
faulty_left n ts x m y (u ∷ us) (p, w, i, f, k) =
    let s = split ts p u us w in
    let l : suc (length us) ≡ suc (length s.0) = ap length s.1
    ∙ (let q = length-append s.0 (opening ∷ []) in omega (arith, q)) in
    checked_first p s.0 y s.2 (viable_out parsed n p i)
    (followed_fault ts (carried x) y s.0 (subst (λ (z : List Token). IsCheckedFault (followed ts)
    finished y z) s.1 (fault_is_plain (followed ts) finished refl y (u ∷ us) f)))
    (none_in_want ts (carried x) m (suc (length s.0))
    (subst (λ (z : ℕ). engine.HasNoFaultBefore body apart (followed ts) (suc z)) l k))

want_is : (n : Symbol) (ts : List Token) (x : Fault) → wants_memory (carried x) ≡ true
    → (o : Outcome (Value n)) → Says body apart (of n) (followed ts) o
    → IsAnswer n ts (carried x) (answer_in_want x o)
want_is n ts x m (ok v []) h =
    carried_last x (viable_front parsed n ts (opening ∷ []) (checked_is_viable parsed n v
    (followed ts) (factored_is_written parsed checking n v (followed ts) [] h.0)))
    (none_in_want ts (carried x) m 0 (weaker (followed ts) 1 h.1)) refl
want_is n ts x m (ok v (t ∷ [])) h = last_left n ts x m t h
want_is n ts x m (ok v (t ∷ (u ∷ us))) h = other_left n ts x m t u us h
want_is n ts x m (stuck []) (i, j, k) = carried_last x
    (viable_front parsed n ts (opening ∷ []) (viable_out parsed n (followed ts) i))
    (none_in_want ts (carried x) m 0 (weaker (followed ts) 1 k)) refl
want_is n ts x m (stuck (t ∷ [])) h = last_left n ts x m t h
want_is n ts x m (stuck (t ∷ (u ∷ us))) h = other_left n ts x m t u us h
want_is n ts x m (bad y us) h = faulty_left n ts x m y us h
want_is n ts x m out h = absurd h

-- what the reader returns is true
pub answers_are_true : (n : Symbol) (ts : List Token) (ending : Ending) → IsAnswer n ts ending (answer_of n ts ending)
answers_are_true n ts finished = said_is n ts finished refl
    (read_all tables checking body rank_limit (of n) ts)
    (outcomes tables body rank_limit apart tested (of n) ts)
answers_are_true n ts (carried x) = elim (cases (x.kind == out_of_memory_kind)) [
  | inl y ↦ subst (IsAnswer n ts (carried x)) (sym (cond_yes (x.kind == out_of_memory_kind) _ _ y))
      (want_is n ts x y (read_all tables checking body rank_limit (of n) (followed ts))
      (outcomes tables body rank_limit apart tested (of n) (followed ts)))
  | inr y ↦ subst (IsAnswer n ts (carried x)) (sym (cond_no (x.kind == out_of_memory_kind) _ _ y))
      (said_is n ts (carried x) y (read_all tables checking body rank_limit (of n) ts)
      (outcomes tables body rank_limit apart tested (of n) ts))
]

-- ---- the checks find the checked faults
pub same_faults : (ts : List Token) (ending : Ending) → wants_memory ending ≡ false
    → (x : Fault) (ys : List Token) → FaultIn body apart ts x ys ↔ IsCheckedFault ts ending x ys
same_faults ts ending m x ys = (fault_is_plain ts ending m x ys, plain_is_fault ts ending x ys)

pub same_faults_in_want : (ts : List Token) (ending : Ending) → wants_memory ending ≡ true
    → (x : Fault) (ys : List Token)
    → FaultIn body apart (followed ts) x (followed ys) ↔ IsCheckedFault ts ending x ys
same_faults_in_want ts ending m x ys = (
  (λ f. followed_fault ts ending x ys (fault_is_plain (followed ts) finished refl x (followed ys) f)),
  (λ f. plain_is_fault (followed ts) finished x (followed ys) (fault_followed ts ending m x ys f)),
)
