-- What is read of `diagnostic (` and a name, by what the name says.
use Rattle.std.proofs.Common.{◌≡◌, ℕ, true, false, cond, eqb, List, [], ◌∷◌, inl, inr, refl, sym, ap, ap₂, subst, ◌∙◌}
use Rattle.std.specs.Prelude.{Option, Some, None}
use Rattle.grammar.specs.Tokens.{Token, Span, Fault}
use Rattle.grammar.specs.States.{State, Read, Read.done, Read.stop, Stop.faulty, ◌>>=◌, is_first, is_at, is_any, head_of, following, first_start, first_of, after, next_start, span_from, take, refused_at, refused, judged}
use Rattle.grammar.proofs.Reading.Sets.{cases}
use Rattle.grammar.proofs.Reading.Beginnings.{cond_yes, cond_no}
use Rattle.wgsl_model.specs.Tokens.ClassTable.{SymParenLeft, KwDiagnostic, Ident, ReservedWord}
use Rattle.wgsl_model.specs.Tokens.Words.{look_up}
use Rattle.wgsl_model.specs.Faults.Kinds.{span_of_token, reserved_word, diagnostic_severity}
use Rattle.wgsl_model.specs.Trees.NamedValues.{DiagnosticSeverity, error, severities, severity_text}
use Rattle.wgsl_model.specs.Grammar.TokenValues.{text_of}
use Rattle.wgsl_model.specs.Grammar.Checks.{given_or, unreserved, fault_unless, severity_fault, severity_of}
use Rattle.wgsl_model.specs.Grammar.Symbols.{Symbol, Symbol.ident}
use Rattle.wgsl_theory_grammar.specs.Factored.{FactoredSymbol.of}
use Rattle.wgsl_theory_grammar.specs.Reader.{reader}
use Rattle.wgsl_theory_grammar.proofs.Reader.{step}
use Rattle.wgsl_read_attribute.proofs.UntemplatedNames.{unnamed, severity_found}
use Rattle.wgsl_read_declaration.specs.Names.{third_of}
use Rattle.wgsl_read_declaration.proofs.ClosedLists.{past_token}

-- ---- the words of severities
-- a severity's text names it
known : (severity : DiagnosticSeverity) (text : List ℕ) → text ≡ severity_text severity
    → look_up severities text ≡ Some severity
known severity text e = ap (look_up severities) e ∙ severity_found severity

-- a text of no severity names none
unknown : (text : List ℕ) → ((severity : DiagnosticSeverity) → ¬ (text ≡ severity_text severity))
    → look_up severities text ≡ None
unknown = unnamed severity_text severities refl

-- ---- tokens that were taken
refused_not_done : {A : Type 0} (end : ℕ) (ts : List Token) (f : Token → State → Read A) (a : A) (s : State)
    → ¬ ((refused_at end ts >>= f) ≡ done a s)
refused_not_done end [] f a s e = absurd cc
refused_not_done end (t ∷ ts) f a s e = absurd cc

-- the state after a token that was taken
taken : (class : ℕ) (s : State) (t : Token) (s' : State) → take class s ≡ done t s' → s' ≡ after s
unfolding take
taken class s t s' e = elim (cases (is_at class s)) [
  | inl y ↦
      let q = sym (cond_yes {A = Read Token} (is_at class s) (done (first_of s) (after s)) (refused s) y) ∙ e in cc
  | inr n ↦
      let q = sym (cond_no {A = Read Token} (is_at class s) (done (first_of s) (after s)) (refused s) n) ∙ e in
      absurd (refused_not_done s.end s.rest (λ u v. done u v) t s' (ap (λ (m : Read Token). m >>= λ u v. done u v) q))
]

head_start : (ts : List Token) → (head_of ts).start ≡ first_start ts
head_start [] = refl
head_start (t ∷ ts) = refl

head_end : (place : ℕ) (ts : List Token) → cond (is_first Ident ts) true (is_first ReservedWord ts) ≡ true
    → (head_of ts).end ≡ (following place ts).end
head_end place [] e = absurd cc
head_end place (t ∷ ts) e = refl

-- where a name is
first_span : (s : State) → is_any (Ident ∷ ReservedWord ∷ []) s ≡ true
    → span_of_token (first_of s) ≡ span_from (next_start s) (after s)
unfolding is_at next_start first_of after
first_span s e = ap₂ (λ (x y : ℕ). record { start = x; end = y }) (head_start s.rest) (head_end s.end s.rest e)

judged_done : (o : Option Fault) (a : Token) (s : State) (b : Token) (s' : State)
    → judged o a s ≡ done b s' → (o ≡ None) × (a ≡ b) × (s ≡ s')
judged_done None a s b s' e = (refl, cc, cc)
judged_done (Some x) a s b s' e = absurd cc

unreserved_class : (t : Token) (span : Span) → unreserved t span ≡ None → eqb t.class ReservedWord ≡ false
unreserved_class t span e = elim (cases (eqb t.class ReservedWord)) [
  | inl y ↦ let q = sym (cond_yes {A = Option Fault} (eqb t.class ReservedWord)
      (Some (reserved_word (text_of t) span)) None y) ∙ e in absurd cc
  | inr n ↦ n
]

-- a name is no reserved word, and is from where the next token starts to where the last one
-- that was taken ends
ident_read : (s : State) (t : Token) (s' : State) → reader (of ident) s ≡ done t s'
    → (eqb t.class ReservedWord ≡ false) × (span_of_token t ≡ span_from (next_start s) s')
ident_read s t s' e =
    let check : Token → State → Read Token = λ a left. judged (unreserved a (span_from (next_start s) left)) a left in
    let at_name = is_any (Ident ∷ ReservedWord ∷ []) s in
    elim (cases at_name) [
      | inl y ↦
          let q = judged_done _ (first_of s) (after s) t s'
          (sym (step (of ident) s ∙ ap (λ (m : Read Token). m >>= check)
          (cond_yes {A = Read Token} at_name (done (first_of s) (after s)) (refused s) y)) ∙ e) in (
            subst (λ (u : Token). eqb u.class ReservedWord ≡ false) q.1
                (unreserved_class (first_of s) (span_from (next_start s) (after s)) q.0),
            ap span_of_token (sym q.1) ∙ first_span s y ∙ ap (span_from (next_start s)) q.2,
          )
      | inr n ↦ absurd (refused_not_done s.end s.rest check t s'
          (sym (step (of ident) s ∙ ap (λ (m : Read Token). m >>= check)
          (cond_no {A = Read Token} at_name (done (first_of s) (after s)) (refused s) n)) ∙ e))
    ]

-- ---- the check
no_fault : (t : Token) (severity : DiagnosticSeverity) → text_of t ≡ severity_text severity → severity_fault t ≡ None
no_fault t severity e =
    let fault = diagnostic_severity (span_of_token t) in
    elim (cases (eqb t.class ReservedWord)) [
      | inl y ↦ cond_yes {A = Option Fault} (eqb t.class ReservedWord) None
          (fault_unless (look_up severities (text_of t)) fault) y
      | inr n ↦ cond_no {A = Option Fault} (eqb t.class ReservedWord) None
          (fault_unless (look_up severities (text_of t)) fault) n
          ∙ ap (λ (o : Option DiagnosticSeverity). fault_unless o fault) (known severity (text_of t) e)
    ]

one_fault : (t : Token) → eqb t.class ReservedWord ≡ false → look_up severities (text_of t) ≡ None
    → severity_fault t ≡ Some (diagnostic_severity (span_of_token t))
one_fault t n e =
    let fault = diagnostic_severity (span_of_token t) in
    cond_no {A = Option Fault} (eqb t.class ReservedWord) None (fault_unless (look_up severities (text_of t)) fault) n
    ∙ ap (λ (o : Option DiagnosticSeverity). fault_unless o fault) e

-- ---- `diagnostic (` and a name
-- a name that was read, as it is checked
abbrev checked : Read Token → Read Token
checked m = m >>= λ t left. judged (severity_fault t) t left

-- the third token is the name
third_is : (s s' s'' : State) (t u : Token) → take KwDiagnostic s ≡ done t s'
    → take SymParenLeft s' ≡ done u s'' → first_of s'' ≡ third_of s
third_is s s' s'' t u e f = ap first_of (taken SymParenLeft s' u s'' f ∙ ap after (taken KwDiagnostic s t s' e))

severity_read : (s s' s'' : State) (t u v : Token) (left : State) → take KwDiagnostic s ≡ done t s'
    → take SymParenLeft s' ≡ done u s'' → reader (of ident) s'' ≡ done v left
    → reader (of Symbol.diagnostic_severity) s ≡ checked (done v left)
severity_read s s' s'' t u v left e f g =
    let name : State → Read Token = reader (of ident) in
    let past : Token → Read Token → Read Token =
    λ a m. (m >>= λ b r. done (a, b) r) >>= λ (p : Token × Token) r. done p.1 r in
    step (of Symbol.diagnostic_severity) s
    ∙ ap (λ (m : Read Token). checked (past_token (λ r. past_token name (take SymParenLeft r)) m)) e
    ∙ ap (λ (m : Read Token). checked (past t (past_token name m))) f
    ∙ ap (λ (m : Read Token). checked (past t (past u m))) g

-- a name of a severity is no fault
pub severity_named : (s s' s'' : State) (t u : Token) (left : State) (severity : DiagnosticSeverity)
    → take KwDiagnostic s ≡ done t s' → take SymParenLeft s' ≡ done u s''
    → reader (of ident) s'' ≡ done (first_of s'') left
    → text_of (first_of s'') ≡ severity_text severity
    → reader (of Symbol.diagnostic_severity) s ≡ done (third_of s) left
severity_named s s' s'' t u left severity e f g h =
    severity_read s s' s'' t u (first_of s'') left e f g
    ∙ ap (λ (o : Option Fault). judged o (first_of s'') left) (no_fault (first_of s'') severity h)
    ∙ ap (λ (v : Token). done v left) (third_is s s' s'' t u e f)

-- and it names that severity
pub severity_is : (s s' s'' : State) (t u : Token) (severity : DiagnosticSeverity)
    → take KwDiagnostic s ≡ done t s' → take SymParenLeft s' ≡ done u s''
    → text_of (first_of s'') ≡ severity_text severity → severity ≡ severity_of (third_of s)
severity_is s s' s'' t u severity e f h =
    sym (ap (λ (o : Option DiagnosticSeverity). given_or error o) (known severity (text_of (first_of s'')) h))
    ∙ ap severity_of (third_is s s' s'' t u e f)

-- any other name is a fault where it is
pub severity_refused : (s s' s'' : State) (t u : Token) (left : State) → take KwDiagnostic s ≡ done t s'
    → take SymParenLeft s' ≡ done u s'' → reader (of ident) s'' ≡ done (first_of s'') left
    → ((severity : DiagnosticSeverity) → ¬ (text_of (first_of s'') ≡ severity_text severity))
    → reader (of Symbol.diagnostic_severity) s ≡ stop (faulty (diagnostic_severity (span_from (next_start s'') left)))
severity_refused s s' s'' t u left e f g n =
    let read = ident_read s'' (first_of s'') left g in
    severity_read s s' s'' t u (first_of s'') left e f g
    ∙ ap (λ (o : Option Fault). judged o (first_of s'') left)
    (one_fault (first_of s'') read.0 (unknown (text_of (first_of s'')) n))
    ∙ ap (λ (span : Span). stop (faulty (diagnostic_severity span))) read.1
