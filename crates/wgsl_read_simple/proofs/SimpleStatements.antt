-- Calls, assignments, increments and decrements by their parts.
use Rattle.std.proofs.Common.{◌≡◌, ◌∙◌, ℕ, sym, ap, ap₂, List, [], ◌∷◌, Bool, true, false, cond}
use Rattle.std.specs.Prelude.{Option, Some, None}
use Rattle.grammar.specs.Tokens.{Token, Fault, Span}
use Rattle.grammar.specs.States.{State, Read, Read.done, Stop, Stop.unexpected, Read.stop, ◌>>=◌, is_at, is_any, take, next_start, first_of, after, judged, span_from}
use Rattle.grammar.proofs.Binding.{bind_associates, bind_alike, bind_cond}
use Rattle.wgsl_model.specs.Tokens.ClassTable.{SymAnd, SymMinusMinus, SymParenLeft, SymPlusPlus, SymStar, Ident, ReservedWord, TemplateArgsStart}
use Rattle.wgsl_model.specs.Trees.Expressions.{ExpressionNode}
use Rattle.wgsl_model.specs.Trees.Statements.{UnattributedStatement, assignment_of, increment_of, decrement_of}
use Rattle.wgsl_model.specs.Grammar.StatementParts.{variable_at}
use Rattle.wgsl_model.specs.Grammar.TokenValues.{text_of}
use Rattle.wgsl_model.specs.Grammar.Checks.{unreserved}
use Rattle.wgsl_model.specs.Grammar.Symbols.{Symbol.ident, Symbol.expression, Symbol.arguments}
use Rattle.wgsl_theory_grammar.specs.Factored.{FactoredSymbol.of, FactoredSymbol.further, Further.components, Further.left_side_in_parentheses, Further.prefixed_left_side, Further.left_side_rest, Further.name_rest_statement, Further.phony_part, Further.simple_part, Further.parenthesized_statement}
use Rattle.wgsl_theory_grammar.specs.Reader.{reader}
use Rattle.wgsl_theory_grammar.specs.ExpressionRules.{ident_at}
use Rattle.wgsl_theory_grammar.specs.StatementRules.{left_side_rest_at, name_rest_statement_at, simple_part_at, parenthesized_statement_at}
use Rattle.wgsl_theory_grammar.proofs.ExpressionEquations.{ident_is}
use Rattle.wgsl_theory_grammar.proofs.StatementEquations.{left_side_rest_is, name_rest_statement_is, simple_part_is, parenthesized_statement_is}
use Rattle.wgsl_read_simple.specs.Given.{given}
use Rattle.wgsl_read_simple.specs.SimpleStatements.{named_statement_at, maybe_template_list_at, call_of_name, call_rest_at, assignment_classes, assignment_operator_at}
use Rattle.wgsl_read_simple.proofs.Binding.{pair_given, given_is}

-- ---- what follows a left side
-- an assignment to it, or `++` or `--` after it
unfoldable pub left_side_rest_parts : ExpressionNode → State → Read UnattributedStatement
left_side_rest_parts left s = cond (is_any assignment_classes s) (assignment_operator_at s
    >>= λ operator s'. reader (of expression) s' >>= λ rhs s''. done (assignment_of left operator rhs) s'')
    (cond (is_at SymPlusPlus s) (take SymPlusPlus s >>= λ t s'. done (increment_of left) s')
    (take SymMinusMinus s >>= λ t s'. done (decrement_of left) s'))

one_given : {T C : Type 0} (m : Read Token) (f : T → C) (t : T)
    → ((m >>= λ u s. done f s) >>= λ g s. done (g t) s) ≡ (m >>= λ u s. done (f t) s)
one_given m f t = bind_associates m _ _

pub left_side_rest_by_parts : (left : ExpressionNode) (s : State)
    → given left (reader (further left_side_rest)) s ≡ left_side_rest_parts left s
unfolding left_side_rest_at left_side_rest_parts assignment_operator_at
left_side_rest_by_parts left s =
    ap (λ m. m >>= λ f s'. done (f left) s') (left_side_rest_is s)
    ∙ bind_cond (is_any assignment_classes s) _ _ _
    ∙ ap₂ (cond (is_any assignment_classes s)) (pair_given (assignment_operator_at s)
    (reader (of expression)) (λ p e. assignment_of e p.0 p.1) left)
    (bind_cond (is_at SymPlusPlus s) _ _ _ ∙ ap₂ (cond (is_at SymPlusPlus s))
    (one_given (take SymPlusPlus s) increment_of left) (one_given (take SymMinusMinus s) decrement_of left))

-- ---- what follows a name
-- the span of a name that was read
judged_name : (x : Option Fault) (u t : Token) (r s' : State) → judged x u r ≡ done t s' → (u ≡ t) × (r ≡ s')
judged_name None u t r s' h = (cc, cc)
judged_name (Some x) u t r s' h = absurd cc

taken_name : (b : Bool) (u : Token) (r : State) (x : Stop) (check : Token → State → Option Fault)
    (t : Token) (s' : State)
    → (cond b (done u r) (stop x) >>= λ a s. judged (check a s) a s) ≡ done t s' → (u ≡ t) × (r ≡ s')
taken_name true u r x check t s' h = judged_name (check u r) u t r s' h
taken_name false u r x check t s' h = absurd cc

name_span_in : (e : ℕ) (ts : List Token) (t : Token) (s' : State)
    → ident_at (record { end = e; rest = ts }) ≡ done t s'
    → let s : State = record { end = e; rest = ts } in record { start = t.start; end = t.end }
    ≡ span_from (next_start s) s'
unfolding ident_at is_at next_start first_of after
name_span_in e [] t s' h = absurd cc
name_span_in e (u ∷ ts) t s' h =
    let s : State = record { end = e; rest = u ∷ ts } in
    let taken = taken_name (is_any (Ident ∷ (ReservedWord ∷ [])) s) u (record { end = u.end; rest = ts })
    (unexpected u) (λ a z. unreserved a (span_from (next_start s) z)) t s' h in
    sym (ap (λ (v : Token). record { start = v.start; end = v.end }) taken.0)
    ∙ ap (λ (z : State). record { start = u.start; end = z.end }) taken.1

pub name_span : (s : State) (t : Token) (s' : State) → reader (of ident) s ≡ done t s'
    → record { start = t.start; end = t.end } ≡ span_from (next_start s) s'
name_span s t s' h = name_span_in s.end s.rest t s' (sym (ident_is s) ∙ h)

-- a call of it, or components and what follows a left side
abbrev pub named_rest : Token → Span → State → Read UnattributedStatement
named_rest t span s = cond (is_any (TemplateArgsStart ∷ (SymParenLeft ∷ [])) s)
    (call_rest_at (text_of t) s) (given (variable_at t span) (reader (further components)) s
    >>= λ e s'. given e (reader (further left_side_rest)) s')

unfoldable pub named_statement_parts : State → Read UnattributedStatement
named_statement_parts s = reader (of ident) s >>= λ t s'. named_rest t (span_from (next_start s) s') s'

name_rest_is : (t : Token) (s : State) → given t (reader (further name_rest_statement)) s
    ≡ named_rest t (record { start = t.start; end = t.end }) s
unfolding name_rest_statement_at call_rest_at maybe_template_list_at
name_rest_is t s =
    ap (λ m. m >>= λ f s'. done (f t) s') (name_rest_statement_is s)
    ∙ bind_cond (is_any (TemplateArgsStart ∷ (SymParenLeft ∷ [])) s) _ _ _
    ∙ ap₂ (cond (is_any (TemplateArgsStart ∷ (SymParenLeft ∷ [])) s)) (pair_given
    (maybe_template_list_at s) (reader (of arguments)) (λ p u. call_of_name (text_of u) p.0 p.1) t)
    (pair_given (reader (further components) s) (reader (further left_side_rest))
    (λ p u. p.1 (p.0 (variable_at u (record { start = u.start; end = u.end })))) t
    ∙ sym (bind_associates (reader (further components) s) _ _))

pub named_statement_by_parts : (s : State) → named_statement_at s ≡ named_statement_parts s
unfolding named_statement_at named_statement_parts
named_statement_by_parts s = given_is (reader (of ident) s) (reader (further name_rest_statement))
    ∙ bind_alike (reader (of ident) s) _ _
    (λ t s' e. name_rest_is t s' ∙ ap (λ span. named_rest t span s') (name_span s t s' e))

-- ---- all of them
unfoldable pub simple_parts : State → Read UnattributedStatement
simple_parts s = cond (is_any (Ident ∷ (ReservedWord ∷ [])) s) (named_statement_at s)
    (cond (is_any (SymAnd ∷ (SymStar ∷ [])) s) (reader (further prefixed_left_side) s
    >>= λ e s'. given e (reader (further left_side_rest)) s') (reader (further phony_part) s))

pub simple_by_parts : (s : State) → reader (further simple_part) s ≡ simple_parts s
unfolding simple_part_at simple_parts named_statement_at
simple_by_parts s = simple_part_is s
    ∙ ap (λ m. cond (is_any (Ident ∷ (ReservedWord ∷ [])) s) (named_statement_at s)
    (cond (is_any (SymAnd ∷ (SymStar ∷ [])) s) m (reader (further phony_part) s)))
    (given_is (reader (further prefixed_left_side) s) (reader (further left_side_rest)))

-- one that begins with `(`
unfoldable pub parenthesized_parts : State → Read UnattributedStatement
parenthesized_parts s = reader (further left_side_in_parentheses) s
    >>= λ e s'. given e (reader (further left_side_rest)) s'

pub parenthesized_by_parts : (s : State) → reader (further parenthesized_statement) s ≡ parenthesized_parts s
unfolding parenthesized_statement_at parenthesized_parts
parenthesized_by_parts s = parenthesized_statement_is s
    ∙ given_is (reader (further left_side_in_parentheses) s) (reader (further left_side_rest))
