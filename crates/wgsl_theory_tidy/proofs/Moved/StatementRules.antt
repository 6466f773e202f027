-- Parts of statements derive the same wherever the tokens are.
use Rattle.std.proofs.Common.{◌≡◌, List, [], ◌∷◌, map, Option, refl, sym, ap, ◌∙◌}
use Rattle.std.specs.Option.{option_map}
use Rattle.grammar.specs.Grammar.{Grammar.symbol}
use Rattle.grammar.specs.Notation.{one_token, ◌or◌, ◌means◌, ◌gives◌, ◌makes◌, optional, many, several}
use Rattle.wgsl_model.specs.Tokens.ClassTable.{SymAndEqual, SymDivisionEqual, SymEqual, SymMinusEqual, SymModuloEqual, SymOrEqual, SymPlusEqual, SymSemicolon, SymShiftLeftAssign, SymShiftRightAssign, SymTimesEqual, SymUnderscore, SymXorEqual, KwBreak, KwConst, KwElse, KwIf, KwLet}
use Rattle.wgsl_model.specs.Trees.Attributed.{Attributed, with_attributes}
use Rattle.wgsl_model.specs.Trees.Statements as tree
use Rattle.wgsl_model.specs.Trees.Statements.{BreakIfStatement, CaseSelector, StatementNode, statement_node, Statement, UnattributedStatement, CompoundStatement, statement_before, statements_of, else_ifs_of, else_of, clauses_of, continuing_of, maybe_statement, clause_of, continuing_statement_of, DeclarationKind}
use Rattle.wgsl_model.specs.Trees.WithoutSpans.{bare_expression_node, bare_attributes}
use Rattle.wgsl_model.specs.Trees.StatementsWithoutSpans.{bare_attributed, bare_break_if, bare_selector, bare_statement, bare_unattributed, bare_statement_node, bare_statements, bare_compound, bare_else_if_clause, bare_else_ifs, bare_else_clause, bare_else, bare_clauses, bare_maybe_continuing, bare_part, bare_switch_clause, bare_continuing}
use Rattle.wgsl_model.specs.Grammar.StatementParts.{attributed, statements, initializer, var_kind, assignment_operator, left_side, else_if, else_block, underscore_at, break_if}
use Rattle.wgsl_model.specs.Grammar.Symbols.{Dialect.parsed, expression, compound_statement, statement, switch_clause, continuing_statement, var_template, Rule}
use Rattle.wgsl_theory_reread.proofs.EachRule.StatementRules.{block_bare}
use Rattle.wgsl_theory_reread.proofs.EachRule.StatementParts.{else_ifs_bare, clauses_bare}
use Rattle.wgsl_theory_tidy.proofs.Moved.Ways.{MovesBy, sign_moves, symbol_moves, none_moves, then_moves, or_moves, gives_moves, makes_moves, alike_moves, before_moves, after_moves, means_moves, many_moves, several_moves}
use Rattle.wgsl_theory_tidy.proofs.Moved.ExpressionRules.{open_left_side_moves, parenthesized_left_side_moves}
use Rattle.wgsl_theory_tidy.proofs.Moved.AttributeRules.{attributes_move}

-- ---- lists, as they are in a tree
statements_bare : (ss : List StatementNode)
    → bare_statements (statements_of ss) ≡ statements_of (map bare_statement_node ss)
statements_bare [] = refl
statements_bare (s ∷ ss) = ap (statement_before (bare_statement_node s)) (statements_bare ss)

pub statements_move : MovesBy statements (λ w v. bare_statements (statements_of w) ≡ bare_statements (statements_of v))
statements_move = alike_moves (many_moves (symbol_moves statement))
    (λ w v h. statements_bare w ∙ ap statements_of h ∙ sym (statements_bare v))

-- ---- parts of several rules
pub initializer_moves : MovesBy initializer (λ w v. bare_expression_node w ≡ bare_expression_node v)
initializer_moves = before_moves SymEqual (symbol_moves expression)

pub var_kind_moves : MovesBy var_kind (λ w v. w ≡ v)
var_kind_moves = gives_moves (symbol_moves var_template) (λ w v h. h)

-- a statement after attributes
pub attributed_moves : {g : Rule UnattributedStatement}
    → MovesBy g (λ w v. bare_unattributed w ≡ bare_unattributed v)
    → MovesBy (attributed tree.statement g) (λ w v. bare_statement w ≡ bare_statement v)
attributed_moves G = gives_moves (then_moves attributes_move G) (λ w v h. λ i. tree.statement (h.0 i) (h.1 i))

-- another node after attributes
pub with_attributes_moves : {A : Type 0} {g : Rule A} {bare : A → A} → MovesBy g (λ w v. bare w ≡ bare v)
    → MovesBy (attributed with_attributes g) (λ w v. bare_attributed bare w ≡ bare_attributed bare v)
with_attributes_moves G = gives_moves (then_moves attributes_move G) (λ w v h. λ i. with_attributes (h.0 i) (h.1 i))

-- ---- statements that end with a block
pub else_if_moves : MovesBy else_if (λ w v. bare_else_if_clause w ≡ bare_else_if_clause v)
else_if_moves = gives_moves (before_moves KwElse
    (before_moves KwIf (then_moves (symbol_moves expression) (symbol_moves compound_statement))))
    (λ w v h. λ i. tree.else_if_clause [] (h.0 i) (h.1 i))

pub else_ifs_move : MovesBy (many else_if) (λ w v. bare_else_ifs (else_ifs_of w) ≡ bare_else_ifs (else_ifs_of v))
else_ifs_move = alike_moves (many_moves else_if_moves)
    (λ w v h. else_ifs_bare w ∙ ap else_ifs_of h ∙ sym (else_ifs_bare v))

pub else_moves : MovesBy (optional else_block) (λ w v. bare_else (else_of w) ≡ bare_else (else_of v))
else_moves = or_moves (gives_moves (gives_moves {same = λ w v. bare_else_clause w ≡ bare_else_clause v}
    (before_moves KwElse (symbol_moves compound_statement)) (λ w v h. λ i. tree.else_clause [] (h i)))
    (λ w v h. λ i. tree.one_else (h i)))
    (none_moves _ refl)

pub clauses_move : MovesBy (several (symbol switch_clause))
    (λ w v. bare_clauses (clauses_of w) ≡ bare_clauses (clauses_of v))
clauses_move = alike_moves (several_moves (symbol_moves switch_clause))
    (λ w v h. clauses_bare w ∙ ap clauses_of h ∙ sym (clauses_bare v))

pub maybe_continuing_moves : MovesBy (optional (symbol continuing_statement))
    (λ w v. bare_maybe_continuing (continuing_of w) ≡ bare_maybe_continuing (continuing_of v))
maybe_continuing_moves = or_moves (gives_moves (symbol_moves continuing_statement)
    (λ w v h. λ i. tree.one_continuing (h i))) (none_moves _ refl)

-- a part of the header of a `for`
pub part_moves : {g : Rule StatementNode} → MovesBy g (λ w v. bare_statement_node w ≡ bare_statement_node v)
    → MovesBy (optional g) (λ w v. bare_part (maybe_statement w) ≡ bare_part (maybe_statement v))
part_moves G = or_moves (gives_moves G (λ w v h. λ i. tree.one_statement (h i))) (none_moves _ refl)

-- a block as a statement
pub block_moves : MovesBy (symbol compound_statement gives tree.block_statement)
    (λ w v. bare_statement w ≡ bare_statement v)
block_moves = gives_moves (symbol_moves compound_statement)
    (λ w v h. block_bare w ∙ ap tree.block_statement h ∙ sym (block_bare v))

-- ---- statements that end with a `;`
pub value_kind_moves : MovesBy
    (KwLet means DeclarationKind.let_kind or KwConst means DeclarationKind.const_kind) (λ w v. w ≡ v)
value_kind_moves = or_moves (means_moves KwLet refl) (means_moves KwConst refl)

-- the left side of a phony assignment
pub underscore_moves : MovesBy (one_token SymUnderscore makes underscore_at)
    (λ w v. bare_expression_node w ≡ bare_expression_node v)
underscore_moves = makes_moves (sign_moves SymUnderscore) (λ w v s r h. refl)

-- a left side after attributes
pub left_side_moves : MovesBy (left_side parsed)
    (λ w v. (bare_attributes w.0 ≡ bare_attributes v.0) × (bare_expression_node w.1 ≡ bare_expression_node v.1))
left_side_moves = or_moves (then_moves attributes_move open_left_side_moves)
    (gives_moves parenthesized_left_side_moves (λ w v h. (refl, h)))

pub assignment_operator_moves : MovesBy assignment_operator (λ w v. w ≡ v)
assignment_operator_moves = or_moves (means_moves SymEqual refl) (or_moves (means_moves SymPlusEqual refl)
    (or_moves (means_moves SymMinusEqual refl) (or_moves (means_moves SymTimesEqual refl)
    (or_moves (means_moves SymDivisionEqual refl) (or_moves (means_moves SymModuloEqual refl)
    (or_moves (means_moves SymAndEqual refl) (or_moves (means_moves SymOrEqual refl)
    (or_moves (means_moves SymXorEqual refl)
    (or_moves (means_moves SymShiftRightAssign refl) (means_moves SymShiftLeftAssign refl))))))))))

-- ---- clauses and `continuing`
-- what a clause selects, and its block
abbrev SameClause : List CaseSelector × CompoundStatement → List CaseSelector × CompoundStatement → Type 0
SameClause w v = (map bare_selector w.0 ≡ map bare_selector v.0) × (bare_compound w.1 ≡ bare_compound v.1)

pub clause_moves : {g : Rule (List CaseSelector × CompoundStatement)}
    → MovesBy g SameClause → MovesBy (attributed clause_of g) (λ w v. bare_switch_clause w ≡ bare_switch_clause v)
clause_moves G = gives_moves (then_moves attributes_move G)
    (λ w v h. λ i. tree.switch_clause (h.0 i) (h.1.0 i) (h.1.1 i))

pub break_if_moves : MovesBy (break_if parsed)
    (λ w v. bare_attributed bare_break_if w ≡ bare_attributed bare_break_if v)
break_if_moves = with_attributes_moves {bare = bare_break_if}
    (gives_moves (before_moves KwBreak (before_moves KwIf (after_moves SymSemicolon
    (symbol_moves expression)))) (λ w v h. λ i. record { expression = h i }))

-- a block, and its `break if`
abbrev SameBody : CompoundStatement × Option (Attributed BreakIfStatement)
    → CompoundStatement × Option (Attributed BreakIfStatement) → Type 0
SameBody w v = (bare_compound w.0 ≡ bare_compound v.0)
    × (option_map (bare_attributed bare_break_if) w.1 ≡ option_map (bare_attributed bare_break_if) v.1)

pub continuing_moves : {g : Rule (CompoundStatement × Option (Attributed BreakIfStatement))}
    → MovesBy g SameBody → MovesBy (attributed continuing_statement_of g) (λ w v. bare_continuing w ≡ bare_continuing v)
continuing_moves G = gives_moves (then_moves attributes_move G)
    (λ w v h. λ i. tree.continuing (h.0 i) (h.1.0 i) (h.1.1 i))
