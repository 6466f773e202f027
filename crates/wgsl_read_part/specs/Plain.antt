-- What the statements that a `;` ends read, and what is in the headers and bodies of loops,
-- each part as a word of its own, which no computation opens.
use Rattle.std.specs.Prelude.{ℕ, List, [], ◌∷◌, cond}
use Rattle.grammar.specs.Grammar.{Grammar.symbol}
use Rattle.grammar.specs.Notation.{◌gives◌, ◌▹◌, ◌◃◌}
use Rattle.grammar.specs.States.{State, Read, Read.done, ◌>>=◌, is_at, is_any, take, go}
use Rattle.wgsl_model.specs.Tokens.ClassTable.{SymAnd, SymBraceRight, SymParenLeft, SymSemicolon, SymStar, SymUnderscore, KwConst, KwContinue, KwDiscard, KwIf, KwLet, KwReturn, KwVar, Ident, ReservedWord}
use Rattle.wgsl_model.specs.Trees.Attributes.{Attributes}
use Rattle.wgsl_model.specs.Trees.Attributed.{Attributed, with_attributes}
use Rattle.wgsl_model.specs.Trees.Statements.{BreakIfStatement, Statement, UnattributedStatement, statement, unattributed, break_if_of}
use Rattle.wgsl_model.specs.Grammar.Symbols.{Symbol.expression}
use Rattle.wgsl_theory_grammar.specs.Factored.{FactoredSymbol.of, FactoredSymbol.further, Further.attribute_list, Further.returning_part, Further.local_part, Further.value_part, Further.simple_part, Further.assert_part, Further.parenthesized_statement, break_part}
use Rattle.wgsl_theory_grammar.specs.Tables.{tables}
use Rattle.wgsl_theory_grammar.specs.Reader.{reader}
use Rattle.wgsl_read_attribute.specs.After.{after_attributes}
use Rattle.wgsl_read_simple.specs.Values.{word_at}

-- a part and the `;` that ends it
abbrev pub ended : {A : Type 0} → (State → Read A) → State → Read A
ended r s = r s >>= λ a s'. take SymSemicolon s' >>= λ t s''. done a s''

-- `break` with its `;`
unfoldable pub break_part_at : State → Read UnattributedStatement
break_part_at s = go tables reader break_part s

-- an assignment, increment or decrement that begins with `(`
abbrev pub in_parentheses : State → Read Statement
in_parentheses s = after_attributes statement [] (reader (further parenthesized_statement)) s

-- a statement that has no attributes, with its `;`, without its place
unfoldable pub unplaced_plain_at : State → Read Statement
unplaced_plain_at s = cond (is_at SymSemicolon s)
    (take SymSemicolon s >>= λ t s'. done (unattributed UnattributedStatement.void) s')
    (ended in_parentheses s)

-- a `const_assert` as a statement, without its attributes
unfoldable pub assert_statement_at : State → Read UnattributedStatement
assert_statement_at s = reader (further assert_part) s >>= λ c s'. done (UnattributedStatement.const_assert c) s'

-- the classes that begin a call, an assignment, an increment or a decrement that may have
-- attributes
abbrev pub begin_simple_part : List ℕ
begin_simple_part = SymAnd ∷ SymStar ∷ SymUnderscore ∷ Ident ∷ ReservedWord ∷ []

-- of some parts, each with the classes that begin it, the first that is begun, or a last one
abbrev pub begun_part : {A : Type 0} → List (List ℕ × (State → Read A)) → (State → Read A) → State → Read A
begun_part [] last s = last s
begun_part (p ∷ parts) last s = cond (is_any p.0 s) (p.1 s) (begun_part parts last s)

-- the statements other than `break` and `const_assert` that a `;` ends, without their attributes
-- and their `;`
abbrev pub ended_kinds : List (List ℕ × (State → Read UnattributedStatement))
ended_kinds =
    (KwReturn ∷ [], reader (further returning_part))
    ∷ (KwVar ∷ [], reader (further local_part))
    ∷ (KwConst ∷ KwLet ∷ [], reader (further value_part))
    ∷ (KwContinue ∷ [], word_at KwContinue UnattributedStatement.continue_statement)
    ∷ (KwDiscard ∷ [], word_at KwDiscard UnattributedStatement.discard_statement)
    ∷ (begin_simple_part, reader (further simple_part))
    ∷ []

-- one of them, or a `const_assert`
unfoldable pub ended_kinds_at : State → Read UnattributedStatement
ended_kinds_at s = begun_part ended_kinds assert_statement_at s

-- a `break if` with its attributes, after its `break`, and the `}` after it
unfoldable pub break_if_rest_at : Attributes → State → Read (Attributed BreakIfStatement)
break_if_rest_at a s = go tables reader (KwIf ▹ symbol (of expression) ◃ SymSemicolon ◃ SymBraceRight
    gives λ e. with_attributes a (break_if_of e)) s

-- what a `for` does before its first turn, without its attributes
unfoldable pub init_kinds_at : State → Read UnattributedStatement
init_kinds_at s = cond (is_at KwVar s) (reader (further local_part) s)
    (cond (is_any (KwConst ∷ KwLet ∷ []) s) (reader (further value_part) s) (reader (further simple_part) s))

-- the same with its attributes, without its place
unfoldable pub init_statement_at : State → Read Statement
init_statement_at s = cond (is_at SymParenLeft s) (in_parentheses s)
    (reader (further attribute_list) s >>= λ a s'. after_attributes statement a init_kinds_at s')

-- what it does after each turn, without its place
unfoldable pub update_statement_at : State → Read Statement
update_statement_at s = cond (is_at SymParenLeft s) (in_parentheses s)
    (reader (further attribute_list) s >>= λ a s'. after_attributes statement a (reader (further simple_part)) s')
