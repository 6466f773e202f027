-- Printed texts of worked trees, computed.
use Rattle.std.proofs.Common.{◌≡◌, refl, ℕ, List, [], ◌∷◌, ◌++◌, Some, None, codes, true}
use Rattle.std.specs.Prelude.{pos}
use Rattle.std.specs.Fmt.{decimal, signed_decimal}
use Rattle.wgsl_model.specs.Trees.Operators.{negation, subtraction, multiplication, AssignmentOperator.equal}
use Rattle.wgsl_model.specs.Trees.Spanned.{spanned}
use Rattle.wgsl_model.specs.Trees.Expressions.{LiteralExpression.abstract_int, LiteralExpression.boolean, LiteralExpression.u32, ExpressionNode, expression_node, Expression, literal, unary, binary, named_component, type_or_identifier, call, type_expression, no_template, no_expressions}
use Rattle.wgsl_model.specs.Trees.Attributes.{Attributes, custom}
use Rattle.wgsl_model.specs.Trees.Attributed.{with_attributes, without_attributes}
use Rattle.wgsl_model.specs.Trees.Statements.{Statement, statement, UnattributedStatement.void, assignment, increment, if_statement, loop_statement, for_statement, function_call_statement, CompoundStatement, compound_statement, if_else, if_clause, else_if_clause, else_if_before, no_else_ifs, else_clause, one_else, repeat, repeat_for, continuing, one_continuing, one_statement, statement_node, StatementNodes, no_statements, statement_before, unattributed, block_statement}
use Rattle.wgsl_model.specs.Trees.WithoutSpans.{no_span}
use Rattle.wgsl_model.specs.Printed.Expressions.{print_expression}
use Rattle.wgsl_model.specs.Printed.Statements.{print_statement}
use Rattle.wgsl_model.specs.Trees.EmptyItems.{full_statement}

abbrev node : Expression → ExpressionNode
node e = expression_node e no_span

abbrev number : ℕ → ExpressionNode
number n = node (literal (abstract_int (pos n)))

abbrev name : List ℕ → Expression
name text = type_or_identifier (type_expression text no_template)

abbrev block : List Statement → CompoundStatement
block [] = compound_statement [] no_statements
block (s ∷ ss) = compound_statement [] (statement_before (statement_node s no_span) (statements ss)) where
  statements : List Statement → StatementNodes
  statements [] = no_statements
  statements (s ∷ ss) = statement_before (statement_node s no_span) (statements ss)

pub negated_product : print_expression (binary subtraction (node (name (codes "x")))
    (node (binary multiplication (node (unary negation (node (name (codes "y"))))) (node (name (codes "z"))))))
    ≡ codes "x - -y * z"
negated_product = refl

pub two_minuses : print_expression (unary negation (node (unary negation (node (name (codes "x")))))) ≡ codes "- -x"
two_minuses = refl

pub component_of_integer : print_expression (named_component (number 1) (codes "k"))
    ≡ signed_decimal (pos 1) ++ codes " ." ++ codes "k"
component_of_integer = refl

pub component_of_unsigned : print_expression (named_component (node (literal (u32 1))) (codes "x"))
    ≡ decimal 1 ++ codes "u" ++ codes "." ++ codes "x"
component_of_unsigned = refl

-- a call of a name that holds a line break
pub line_end_in_a_name : print_statement (block_statement (block (unattributed (function_call_statement
    (record { call = call (type_expression (codes "a\nb") no_template) no_expressions })) ∷ [])))
    ≡ codes "{\n    a\n    b();\n}"
line_end_in_a_name = refl

-- an empty statement in a loop and in its `continuing`
abbrev empty_loop : Statement
empty_loop = unattributed (loop_statement (repeat (block (unattributed void ∷ []))
    (one_continuing (continuing [] (block (unattributed void ∷ []))
    (Some (without_attributes (record { expression = node (literal (boolean true)) })))))))

pub empty_lines : print_statement (block_statement (block (empty_loop ∷ [])))
    ≡ codes "{\n    loop {\n    \n        continuing {\n        \n            break if true;\n        }\n    }\n}"
empty_lines = refl

pub without_empty_statements : full_statement empty_loop
    ≡ unattributed (loop_statement (repeat (block []) (one_continuing (continuing [] (block [])
    (Some (without_attributes (record { expression = node (literal (boolean true)) })))))))
without_empty_statements = refl

-- attributes before statements and their parts
abbrev attribute : List ℕ → Attributes
attribute text = spanned (custom (record { name = text; arguments = None })) no_span ∷ []

abbrev attributed_loop : Statement
attributed_loop = unattributed
    (loop_statement (repeat (block []) (one_continuing (continuing (attribute (codes "a")) (block [])
    (Some (with_attributes (attribute (codes "b")) (record { expression = node (name (codes "c")) })))))))

pub attributes_in_a_loop : print_statement attributed_loop
    ≡ codes "loop {\n\n    @a\n    continuing {\n    \n        @b\n        break if c;\n    }\n}"
attributes_in_a_loop = refl

abbrev attributed_for : Statement
attributed_for = unattributed
    (for_statement (repeat_for (one_statement (statement_node (statement (attribute (codes "a")) (assignment
    (record { operator = equal; lhs = node (name (codes "i")); rhs = node (name (codes "j")) }))) no_span)) None
    (one_statement (statement_node (statement (attribute (codes "b"))
    (increment (record { expression = node (name (codes "i")) }))) no_span)) (block [])))

pub attributes_in_a_header : print_statement attributed_for ≡ codes "for (@a\ni = j; ; @b\ni++) {\n\n}"
attributes_in_a_header = refl

abbrev attributed_if : Statement
attributed_if = unattributed (if_statement (if_else (if_clause (node (name (codes "a"))) (block []))
    (else_if_before (else_if_clause (attribute (codes "b")) (node (name (codes "c"))) (block []))
    no_else_ifs) (one_else (else_clause (attribute (codes "d")) (block [])))))

pub attributes_before_else : print_statement attributed_if ≡ codes "if a {\n\n}\n@b\nelse if c {\n\n}\n@d\nelse {\n\n}"
attributes_before_else = refl
