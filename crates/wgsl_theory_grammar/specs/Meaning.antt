-- What further symbols mean, as right sides over the written symbols, where that does not follow
-- from the rules.
use Rattle.std.specs.Prelude.{ℕ, List, [], Option}
use Rattle.grammar.specs.Grammar.{Grammar.empty, Grammar.symbol, Grammar.left_chain}
use Rattle.grammar.specs.Notation.{◌then◌, ◌or◌, ◌gives◌, ◌makes◌, ◌▹◌, ◌◃◌, ◌means◌, optional, many, list, list_or_none, one_token}
use Rattle.wgsl_model.specs.Tokens.ClassTable.{SymAnd, SymAndAnd, SymBraceRight, SymComma, SymShiftRight, SymShiftLeft, SymMinusMinus, SymPlusPlus, SymOr, SymOrOr, SymParenRight, SymSemicolon, SymStar, SymXor, TemplateArgsEnd, SymUnderscore}
use Rattle.wgsl_model.specs.Trees.Operators.{UnaryOperator.address_of, UnaryOperator.indirection, BinaryOperator, BinaryOperator.short_circuit_or, BinaryOperator.short_circuit_and, BinaryOperator.bitwise_or, BinaryOperator.bitwise_and, BinaryOperator.bitwise_xor, BinaryOperator.shift_left, BinaryOperator.shift_right, AssignmentOperator.equal}
use Rattle.wgsl_model.specs.Trees.Expressions.{ExpressionNode}
use Rattle.wgsl_model.specs.Trees.Statements.{UnattributedStatement, unattributed, ElseIfClause, ElseClause, assignment_of, increment_of, decrement_of, call_statement_of}
use Rattle.wgsl_model.specs.Grammar.ExpressionParts.{unary_of, multiplicative_operator, relational_operator, summand}
use Rattle.wgsl_model.specs.Grammar.StatementParts.{placed_statement, attributes, statements, initializer, assignment_operator, else_if, else_block, break_if, underscore_at, open_left_side, parenthesized_left_side}
use Rattle.wgsl_model.specs.Grammar.Symbols.{Dialect, Symbol.ident, Symbol.template_list, Symbol.arguments, Symbol.component, Symbol.unary_expression, Symbol.shift_expression, Symbol.relational_expression, Symbol.expression, Symbol.lhs_expression, Symbol.switch_clause, Symbol.case_selector, Symbol.continuing_statement, Symbol.for_init, Symbol.for_update, Symbol.struct_member, Symbol.formal_parameter, Symbol.global_declaration, Symbol.global_directive, Rule, Symbol.call}
use Rattle.wgsl_theory_grammar.specs.Factored.{FurtherValue, Further, Further.template_items, Further.template_rest, Further.template_more, Further.argument_rest, Further.argument_more, Further.member_items, Further.member_rest, Further.member_more, Further.parameter_rest, Further.parameter_more, Further.name_items, Further.name_rest, Further.name_more, Further.selectors, Further.components, Further.factors, Further.summands, Further.sum_rest, Further.relation_rest, Further.and_rest, Further.or_rest, Further.bitwise_and_rest, Further.bitwise_or_rest, Further.bitwise_xor_rest, Further.expression_rest, Further.attribute_list, Further.statement_rest, Further.loop_rest, Further.continuing_rest, Further.clause_rest, Further.else_rest, Further.init_part, Further.condition_part, Further.update_part, Further.phony_part, Further.simple_part, Further.left_side_rest, Further.left_side_in_parentheses, Further.prefixed_left_side, Further.name_rest_statement, Further.parenthesized_statement, Further.plain_statement, Further.declaration_list, Further.front, Growth, grown_by_component, unchanged, any_more, one_more, some_more, variable_of, call_by_name}
use Rattle.wgsl_theory_grammar.specs.MeaningCases.{IsOther}

-- list(X) and the token that closes it; the same, or that token alone; a comma and then the same,
-- or that token alone
abbrev pub closed_list : {A : Type 0} → ℕ → Rule A → Rule (List A)
closed_list close x = list SymComma x ◃ close

-- the same, or that token alone
abbrev pub closed_rest : {A : Type 0} → ℕ → Rule A → Rule (List A)
closed_rest close x = list_or_none SymComma x ◃ close

-- a comma and then the same, or that token alone
abbrev pub closed_more : {A : Type 0} → ℕ → Rule A → Rule (List A)
closed_more close x = (SymComma ▹ list_or_none SymComma x or empty []) ◃ close

-- the parts of rules
abbrev pub elses : Rule (List ElseIfClause × Option ElseClause)
elses = many else_if then optional else_block

-- an operator and a factor
abbrev pub factor : Rule (BinaryOperator × ExpressionNode)
factor = multiplicative_operator then symbol unary_expression

-- what makes a shift or a sum of a first operand
abbrev pub sum_growth : Dialect → Rule Growth
sum_growth L = one_more (SymShiftLeft means shift_left then symbol unary_expression)
    or one_more (SymShiftRight means shift_right then symbol unary_expression)
    or any_more factor then any_more (summand L) gives λ (product, sum) left. sum (product left)

-- what makes a comparison of a shift
abbrev pub relation_growth : Rule Growth
relation_growth = one_more (relational_operator then symbol shift_expression) or unchanged

-- what makes an expression of a first operand
abbrev pub expression_growth : Dialect → Rule Growth
expression_growth L = some_more SymAnd bitwise_and (symbol unary_expression)
    or some_more SymOr bitwise_or (symbol unary_expression)
    or some_more SymXor bitwise_xor (symbol unary_expression)
    or sum_growth L then relation_growth then (some_more SymAndAnd short_circuit_and (symbol relational_expression)
    or some_more SymOrOr short_circuit_or (symbol relational_expression) or unchanged)
    gives λ (sum, (relation, more)) left. more (relation (sum left))

-- components after a base
abbrev pub component_growth : Rule Growth
component_growth = left_chain grown_by_component unchanged (symbol component makes λ c span. (c, span.end))

-- what makes a statement of a left side
abbrev pub left_side_growth : Rule (ExpressionNode → UnattributedStatement)
left_side_growth = assignment_operator then symbol expression
    gives (λ (operator, right) left. assignment_of left operator right)
    or SymPlusPlus means increment_of or SymMinusMinus means decrement_of

-- an assignment, increment or decrement whose left side begins with `(`
abbrev pub parenthesized_growth : Rule UnattributedStatement
parenthesized_growth = parenthesized_left_side then left_side_growth gives λ (left, rest). rest left

-- statements that end with `;`, after their attributes
abbrev pub phony_kind : Rule UnattributedStatement
phony_kind = (one_token SymUnderscore makes underscore_at) then initializer
    gives λ (left, right). assignment_of left equal right

abbrev pub simple_kinds : Rule UnattributedStatement
simple_kinds = open_left_side then left_side_growth gives (λ (left, rest). rest left) or phony_kind
    or symbol call gives call_statement_of

-- what each further symbol means that is no part of a written rule, and not made of those
abbrev pub other_meaning : Dialect → (x : Further) → IsOther x → Rule (FurtherValue x)
other_meaning L template_items h = closed_list TemplateArgsEnd (symbol expression)
other_meaning L template_rest h = closed_rest TemplateArgsEnd (symbol expression)
other_meaning L template_more h = closed_more TemplateArgsEnd (symbol expression)
other_meaning L argument_rest h = closed_rest SymParenRight (symbol expression)
other_meaning L argument_more h = closed_more SymParenRight (symbol expression)
other_meaning L member_items h = closed_list SymBraceRight (symbol struct_member)
other_meaning L member_rest h = closed_rest SymBraceRight (symbol struct_member)
other_meaning L member_more h = closed_more SymBraceRight (symbol struct_member)
other_meaning L parameter_rest h = closed_rest SymParenRight (symbol formal_parameter)
other_meaning L parameter_more h = closed_more SymParenRight (symbol formal_parameter)
other_meaning L name_items h = closed_list SymSemicolon (symbol ident)
other_meaning L name_rest h = closed_rest SymSemicolon (symbol ident)
other_meaning L name_more h = closed_more SymSemicolon (symbol ident)
other_meaning L selectors h = list SymComma (symbol case_selector)
other_meaning L components h = component_growth
other_meaning L factors h = any_more factor
other_meaning L summands h = any_more (summand L)
other_meaning L sum_rest h = sum_growth L
other_meaning L relation_rest h = relation_growth
other_meaning L and_rest h = some_more SymAndAnd short_circuit_and (symbol relational_expression)
other_meaning L or_rest h = some_more SymOrOr short_circuit_or (symbol relational_expression)
other_meaning L bitwise_and_rest h = some_more SymAnd bitwise_and (symbol unary_expression)
other_meaning L bitwise_or_rest h = some_more SymOr bitwise_or (symbol unary_expression)
other_meaning L bitwise_xor_rest h = some_more SymXor bitwise_xor (symbol unary_expression)
other_meaning L expression_rest h = expression_growth L
other_meaning L attribute_list h = attributes
other_meaning L statement_rest h = statements ◃ SymBraceRight
other_meaning L loop_rest h = (statements then optional (symbol continuing_statement)) ◃ SymBraceRight
other_meaning L continuing_rest h = (statements then optional (break_if L)) ◃ SymBraceRight
other_meaning L clause_rest h = many (symbol switch_clause) ◃ SymBraceRight
other_meaning L else_rest h = elses
other_meaning L init_part h = optional (symbol for_init) ◃ SymSemicolon
other_meaning L condition_part h = optional (symbol expression) ◃ SymSemicolon
other_meaning L update_part h = optional (symbol for_update) ◃ SymParenRight
other_meaning L phony_part h = phony_kind
other_meaning L simple_part h = simple_kinds
other_meaning L left_side_rest h = left_side_growth
other_meaning L left_side_in_parentheses h = parenthesized_left_side
other_meaning L prefixed_left_side h = SymStar means indirection then symbol lhs_expression makes unary_of
    or SymAnd means address_of then symbol lhs_expression makes unary_of
other_meaning L name_rest_statement h =
    optional (symbol template_list) then symbol arguments gives (λ called name. call_by_name name called)
    or component_growth then left_side_growth gives λ (growth, rest) name. rest (growth (variable_of name))
other_meaning L parenthesized_statement h = parenthesized_growth
other_meaning L plain_statement h = (SymSemicolon means unattributed UnattributedStatement.void
    or parenthesized_growth ◃ SymSemicolon gives unattributed) makes placed_statement
other_meaning L declaration_list h = many (symbol global_declaration)
other_meaning L front h = many (symbol global_directive) then many (symbol global_declaration)
other_meaning L x h = absurd h
