-- Statements by their parts.
use Rattle.std.proofs.Common.{◌≡◌, ◌∙◌, ℕ, Bool, true, false, inl, inr, refl, sym, ap, List, [], ◌∷◌, cond}
use Rattle.grammar.specs.Tokens.{Token}
use Rattle.grammar.specs.Grammar.{Grammar.symbol}
use Rattle.grammar.specs.Notation.{◌or◌}
use Rattle.grammar.specs.Tables.{subset}
use Rattle.grammar.specs.States.{State, Read, Read.done, ◌>>=◌, refused_at, refused, is_at, is_any, take, next_start, span_from, go}
use Rattle.grammar.proofs.Reading.Sets.{cases, cond_and}
use Rattle.grammar.proofs.Reading.Beginnings.{cond_yes, cond_no}
use Rattle.grammar.proofs.Binding.{bind_associates, bind_alike, pair_goes_on}
use Rattle.wgsl_model.specs.Tokens.ClassTable.{SymParenLeft, SymSemicolon, KwBreak, KwConstAssert}
use Rattle.wgsl_model.specs.Trees.Expressions.{ExpressionNode}
use Rattle.wgsl_model.specs.Trees.Statements.{StatementNode, Statement, UnattributedStatement, statement, assert_of}
use Rattle.wgsl_model.specs.Grammar.StatementParts.{placed_statement}
use Rattle.wgsl_model.specs.Grammar.Symbols.{Symbol, Symbol.expression}
use Rattle.wgsl_theory_grammar.specs.Factored.{FactoredSymbol.of, FactoredSymbol.further, FactoredRule, Further.attribute_list, Further.plain_statement, Further.braced_part, Further.ended_part, break_part}
use Rattle.wgsl_theory_grammar.specs.Tables.{tables, firsts}
use Rattle.wgsl_theory_grammar.specs.Reader.{reader}
use Rattle.wgsl_theory_grammar.specs.StatementRules.{statement_at, ended_part_at, assert_part_at}
use Rattle.wgsl_theory_grammar.proofs.StatementEquations.{statement_is, ended_part_is, assert_part_is}
use Rattle.wgsl_read_expression.proofs.Choices.{not_taken}
use Rattle.wgsl_read_attribute.proofs.Classes.{alone, other_class, not_one, none_among}
use Rattle.wgsl_read_simple.specs.Values.{word_at}
use Rattle.wgsl_read_part.specs.Plain.{break_part_at, begun_part, ended_kinds, ended_kinds_at, assert_statement_at}
use Rattle.wgsl_read_statement.specs.Statements.{begin_braced_part, statement_part_at, statement_after_at}

-- ---- what is refused
-- a part and its `;`, as the grammar writes it
abbrev with_semicolon : Read UnattributedStatement → Read UnattributedStatement
with_semicolon m = (m >>= λ u s. take SymSemicolon s >>= λ t s'. done (u, t) s')
    >>= λ (p : UnattributedStatement × Token) s. done p.0 s

-- `break` of its token
abbrev break_from : Read Token → Read UnattributedStatement
break_from m = with_semicolon (m >>= λ t s. done UnattributedStatement.break_statement s)

break_stops : (end : ℕ) (ts : List Token) → break_from (refused_at end ts) ≡ refused_at end ts
break_stops end [] = refl
break_stops end (t ∷ ts) = refl

break_refused : (s : State) → is_at KwBreak s ≡ false → break_part_at s ≡ refused s
unfolding break_part_at
break_refused s n = ap break_from (not_taken KwBreak s n) ∙ break_stops s.end s.rest

-- `const_assert` of its token
abbrev assert_from : Read Token → Read UnattributedStatement
assert_from m = (((m >>= λ t s. reader (of expression) s >>= λ e s'. done (t, e) s')
    >>= λ (p : Token × ExpressionNode) s. done p.1 s) >>= λ e s. done (assert_of e) s)
    >>= λ c s. done (UnattributedStatement.const_assert c) s

assert_stops : (end : ℕ) (ts : List Token) → assert_from (refused_at end ts) ≡ refused_at end ts
assert_stops end [] = refl
assert_stops end (t ∷ ts) = refl

assert_refused : (s : State) → is_at KwConstAssert s ≡ false → assert_statement_at s ≡ refused s
unfolding assert_statement_at assert_part_at
assert_refused s n =
    ap (λ m. m >>= λ c s'. done (UnattributedStatement.const_assert c) s') (assert_part_is s)
    ∙ ap assert_from (not_taken KwConstAssert s n) ∙ assert_stops s.end s.rest

ended_stops : (end : ℕ) (ts : List Token) → with_semicolon (refused_at end ts) ≡ refused_at end ts
ended_stops end [] = refl
ended_stops end (t ∷ ts) = refl

-- the classes that begin a statement other than `break` that a `;` ends
abbrev begin_ended_part : List ℕ
begin_ended_part = firsts (further ended_part)

-- whether the classes that begin some parts are among these
abbrev begin_within : {A : Type 0} → List (List ℕ × (State → Read A)) → List ℕ → Bool
begin_within [] classes = true
begin_within (p ∷ parts) classes = cond (subset p.0 classes) (begin_within parts classes) false

-- where none of some parts is begun, the last one is
none_begun : {A : Type 0} (parts : List (List ℕ × (State → Read A))) (last : State → Read A)
    (classes : List ℕ) (s : State) → begin_within parts classes ≡ true → is_any classes s ≡ false
    → begun_part parts last s ≡ last s
none_begun [] last classes s h n = refl
none_begun {A} (p ∷ parts) last classes s h n =
    let both = cond_and (subset p.0 classes) (begin_within parts classes) h in
    cond_no {A = Read A} (is_any p.0 s) (p.1 s) (begun_part parts last s) (none_among p.0 classes s both.0 n)
    ∙ none_begun parts last classes s both.1 n

kinds_refused : (s : State) → is_any begin_ended_part s ≡ false → ended_kinds_at s ≡ refused s
unfolding ended_kinds_at
kinds_refused s n = none_begun ended_kinds assert_statement_at begin_ended_part s refl n
    ∙ assert_refused s (not_one KwConstAssert begin_ended_part s refl n)

ended_refused : (s : State) → is_any begin_ended_part s ≡ false → reader (further ended_part) s ≡ refused s
unfolding ended_part_at ended_kinds_at word_at assert_statement_at
ended_refused s n = ended_part_is s ∙ ap with_semicolon (kinds_refused s n) ∙ ended_stops s.end s.rest

-- ---- a statement after its attributes
-- as the grammar writes it
abbrev pub part_written : FactoredRule UnattributedStatement
part_written = symbol (further braced_part) or (symbol (further ended_part) or break_part)

-- of two that are refused alike, either may come last
last_is : (s : State) → is_at KwBreak s ≡ false → cond (is_any begin_ended_part s)
    (reader (further ended_part) s) (break_part_at s) ≡ reader (further ended_part) s
last_is s n = elim (cases (is_any begin_ended_part s)) [
  | inl y ↦ cond_yes {A = Read UnattributedStatement} (is_any begin_ended_part s)
      (reader (further ended_part) s) (break_part_at s) y
  | inr m ↦ cond_no {A = Read UnattributedStatement} (is_any begin_ended_part s)
      (reader (further ended_part) s) (break_part_at s) m ∙ break_refused s n ∙ sym (ended_refused s m)
]

begin_braced_apart : is_any begin_braced_part (alone KwBreak) ≡ false
unfolding is_at
begin_braced_apart = refl

begin_ended_apart : is_any begin_ended_part (alone KwBreak) ≡ false
unfolding is_at
begin_ended_apart = refl

pub statement_part_is : (s : State) → go tables reader part_written s ≡ statement_part_at s
unfolding statement_part_at break_part_at
statement_part_is s =
    let braced : Read UnattributedStatement = reader (further braced_part) s in
    let ended : Read UnattributedStatement = reader (further ended_part) s in
    let last : Read UnattributedStatement = cond (is_any begin_ended_part s) ended (break_part_at s) in
    elim (cases (is_at KwBreak s)) [
      | inl y ↦
          cond_no {A = Read UnattributedStatement} (is_any begin_braced_part s) braced last
          (other_class begin_braced_part KwBreak s begin_braced_apart y)
          ∙ cond_no {A = Read UnattributedStatement} (is_any begin_ended_part s) ended
          (break_part_at s) (other_class begin_ended_part KwBreak s begin_ended_apart y)
          ∙ sym (cond_yes {A = Read UnattributedStatement} (is_at KwBreak s) (break_part_at s)
          (cond (is_any begin_braced_part s) braced ended) y)
      | inr n ↦
          ap (cond (is_any begin_braced_part s) braced) (last_is s n)
          ∙ sym (cond_no {A = Read UnattributedStatement} (is_at KwBreak s) (break_part_at s)
          (cond (is_any begin_braced_part s) braced ended) n)
    ]

-- where there is no `break`
pub unbroken_is : (s : State) → is_at KwBreak s ≡ false → cond (is_any begin_braced_part s)
    (reader (further braced_part) s) (reader (further ended_part) s) ≡ statement_part_at s
unfolding statement_part_at
unbroken_is s n = sym (cond_no {A = Read UnattributedStatement} (is_at KwBreak s) (break_part_at s)
    (cond (is_any begin_braced_part s) (reader (further braced_part) s) (reader (further ended_part) s)) n)

-- ---- a statement
unfoldable pub statement_parts : State → Read StatementNode
statement_parts s = cond (is_any (SymParenLeft ∷ SymSemicolon ∷ []) s) (reader (further plain_statement) s)
    (reader (further attribute_list) s >>= λ a s'. statement_after_at a (next_start s) s')

pub statement_by_parts : (s : State) → reader (of Symbol.statement) s ≡ statement_parts s
unfolding statement_at statement_parts statement_after_at
statement_by_parts s =
    let place : Statement → State → Read StatementNode =
    λ x s'. done (placed_statement x (span_from (next_start s) s')) s' in
    statement_is s
    ∙ ap (cond (is_any (SymParenLeft ∷ SymSemicolon ∷ []) s) (reader (further plain_statement) s))
    (ap (λ m. m >>= place) (pair_goes_on (reader (further attribute_list) s)
    (go tables reader part_written) (λ p s'. done (statement p.0 p.1) s'))
    ∙ bind_associates (reader (further attribute_list) s) _ place
    ∙ bind_alike (reader (further attribute_list) s) _ _
    (λ a s' h. ap (λ m. (m >>= λ u s''. done (statement a u) s'') >>= place) (statement_part_is s')))
