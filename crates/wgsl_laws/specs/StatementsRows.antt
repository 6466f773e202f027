-- Rows of statements: tokens, and the tree or the fault.
use Rattle.std.specs.Prelude.{true, List, [], ◌∷◌, Some, None, codes}
use Rattle.grammar.specs.Tokens.{Token, Fault}
use Rattle.wgsl_model.specs.Tokens.ClassTable.{SymAttr, SymBraceLeft, SymBraceRight, SymColon, SymComma, SymEqual, SymLessThan, SymPeriod, SymPlusPlus, SymParenLeft, SymParenRight, SymSemicolon, SymStar, SymUnderscore, SymPlusEqual, KwBreak, KwCase, KwContinuing, KwDefault, KwElse, KwFor, KwIf, KwLoop, KwReturn, KwSwitch, KwTrue, KwVar, TemplateArgsStart, TemplateArgsEnd}
use Rattle.wgsl_model.specs.Faults.Kinds.{var_template_kind}
use Rattle.wgsl_model.specs.Trees.Operators.{BinaryOperator.less_than, AssignmentOperator.equal, AssignmentOperator.plus_equal}
use Rattle.wgsl_model.specs.Trees.Expressions.{LiteralExpression.boolean, Expression}
use Rattle.wgsl_model.specs.Trees.Attributed.{with_attributes, without_attributes}
use Rattle.wgsl_model.specs.Trees.Statements.{DeclarationKind, CaseSelector, StatementNode, StatementNode.statement_node, ElseIfClause, ElseClause, UnattributedStatement, unattributed, block_statement, statement, compound_of, assignment_of, increment_of, return_of, if_of, clause_of, switch_of, loop_of, local_of, for_of, break_if_of, continuing_statement_of}
use Rattle.wgsl_laws.specs.RowParts.{span, sign, word, number_token, at, name_at, number_at, call_at, custom_at, if_at}

-- for (var i = 0; i < 4; i++) { s += i; }
abbrev pub for_header_tokens : List Token
for_header_tokens = (sign KwFor 0 3) ∷ (sign SymParenLeft 4 5) ∷ (sign KwVar 5 8)
    ∷ (word (codes "i") 9 10) ∷ (sign SymEqual 11 12) ∷ (number_token 0 13 14)
    ∷ (sign SymSemicolon 14 15) ∷ (word (codes "i") 16 17) ∷ (sign SymLessThan 18 19)
    ∷ (number_token 4 20 21) ∷ (sign SymSemicolon 21 22) ∷ (word (codes "i") 23 24)
    ∷ (sign SymPlusPlus 24 26) ∷ (sign SymParenRight 26 27) ∷ (sign SymBraceLeft 28 29)
    ∷ (word (codes "s") 30 31) ∷ (sign SymPlusEqual 32 34) ∷ (word (codes "i") 35 36)
    ∷ (sign SymSemicolon 36 37) ∷ (sign SymBraceRight 38 39) ∷ []

abbrev pub for_header_tree : StatementNode
for_header_tree = statement_node (unattributed (for_of (Some (statement_node (unattributed (local_of
    (DeclarationKind.var_kind None) (codes "i", None) (Some (number_at 0 13 14)))) (span 5 14)))
    (Some (at (Expression.binary less_than (name_at (codes "i") 16 17) (number_at 4 20 21)) 16 21))
    (Some (statement_node (unattributed (increment_of (name_at (codes "i") 23 24))) (span 23 26)))
    (compound_of [] (statement_node (unattributed (assignment_of (name_at (codes "s") 30 31)
    plus_equal (name_at (codes "i") 35 36))) (span 30 37) ∷ [])))) (span 0 39)

-- loop { ; continuing { ; break if true; } }
abbrev pub loop_and_continuing_tokens : List Token
loop_and_continuing_tokens = (sign KwLoop 0 4) ∷ (sign SymBraceLeft 5 6) ∷ (sign SymSemicolon 7 8)
    ∷ (sign KwContinuing 9 19) ∷ (sign SymBraceLeft 20 21) ∷ (sign SymSemicolon 22 23)
    ∷ (sign KwBreak 24 29) ∷ (sign KwIf 30 32) ∷ (sign KwTrue 33 37) ∷ (sign SymSemicolon 37 38)
    ∷ (sign SymBraceRight 39 40) ∷ (sign SymBraceRight 41 42) ∷ []

abbrev pub loop_and_continuing_tree : StatementNode
loop_and_continuing_tree = statement_node
    (unattributed (loop_of [] (statement_node (unattributed UnattributedStatement.void) (span 7 8) ∷ [])
    (Some (continuing_statement_of [] (
      compound_of [] (statement_node (unattributed UnattributedStatement.void) (span 22 23) ∷ []),
      Some (without_attributes (break_if_of (at (Expression.literal (boolean true)) 33 37))),
    ))))) (span 0 42)

-- loop { continuing { break; } }
abbrev pub break_in_continuing_tokens : List Token
break_in_continuing_tokens = (sign KwLoop 0 4) ∷ (sign SymBraceLeft 5 6) ∷ (sign KwContinuing 7 17)
    ∷ (sign SymBraceLeft 18 19) ∷ (sign KwBreak 20 25) ∷ (sign SymSemicolon 25 26)
    ∷ (sign SymBraceRight 27 28) ∷ (sign SymBraceRight 29 30) ∷ []

abbrev pub break_in_continuing_tree : StatementNode
break_in_continuing_tree = statement_node (unattributed (loop_of [] [] (Some (continuing_statement_of [] (
  compound_of [] (statement_node (unattributed UnattributedStatement.break_statement) (span 20 26) ∷ []),
  None,
))))) (span 0 30)

-- if a {} else if b {} else {}
abbrev pub else_ifs_tokens : List Token
else_ifs_tokens = (sign KwIf 0 2) ∷ (word (codes "a") 3 4) ∷ (sign SymBraceLeft 5 6)
    ∷ (sign SymBraceRight 6 7) ∷ (sign KwElse 8 12) ∷ (sign KwIf 13 15) ∷ (word (codes "b") 16 17)
    ∷ (sign SymBraceLeft 18 19) ∷ (sign SymBraceRight 19 20) ∷ (sign KwElse 21 25)
    ∷ (sign SymBraceLeft 26 27) ∷ (sign SymBraceRight 27 28) ∷ []

abbrev pub else_ifs_tree : StatementNode
else_ifs_tree = statement_node (unattributed (if_of (name_at (codes "a") 3 4) (compound_of [] []) (
  ElseIfClause.else_if_clause [] (name_at (codes "b") 16 17) (compound_of [] []) ∷ [],
  Some (ElseClause.else_clause [] (compound_of [] [])),
))) (span 0 28)

-- _ = f();
abbrev pub phony_assignment_tokens : List Token
phony_assignment_tokens = (sign SymUnderscore 0 1) ∷ (sign SymEqual 2 3) ∷ (word (codes "f") 4 5)
    ∷ (sign SymParenLeft 5 6) ∷ (sign SymParenRight 6 7) ∷ (sign SymSemicolon 7 8) ∷ []

abbrev pub phony_assignment_tree : StatementNode
phony_assignment_tree = statement_node (unattributed (assignment_of (name_at (codes "_") 0 1) equal
    (at (Expression.function_call (call_at (codes "f") None [])) 4 7))) (span 0 8)

-- (a).b++;
abbrev pub left_side_in_parentheses_tokens : List Token
left_side_in_parentheses_tokens = (sign SymParenLeft 0 1) ∷ (word (codes "a") 1 2)
    ∷ (sign SymParenRight 2 3) ∷ (sign SymPeriod 3 4) ∷ (word (codes "b") 4 5)
    ∷ (sign SymPlusPlus 5 7) ∷ (sign SymSemicolon 7 8) ∷ []

abbrev pub left_side_in_parentheses_tree : StatementNode
left_side_in_parentheses_tree = statement_node (unattributed (increment_of (at (Expression.named_component
    (at (Expression.parenthesized (name_at (codes "a") 1 2)) 0 3) (codes "b")) 0 5))) (span 0 8)

-- @if(a) {}
abbrev pub attribute_of_a_block_tokens : List Token
attribute_of_a_block_tokens = (sign SymAttr 0 1) ∷ (sign KwIf 1 3) ∷ (sign SymParenLeft 3 4)
    ∷ (word (codes "a") 4 5) ∷ (sign SymParenRight 5 6) ∷ (sign SymBraceLeft 7 8)
    ∷ (sign SymBraceRight 8 9) ∷ []

abbrev pub attribute_of_a_block_tree : StatementNode
attribute_of_a_block_tree = statement_node
    (block_statement (compound_of (if_at (name_at (codes "a") 4 5) 0 6 ∷ []) [])) (span 0 9)

-- switch x { default: {} }
abbrev pub clause_of_a_default_tokens : List Token
clause_of_a_default_tokens = (sign KwSwitch 0 6) ∷ (word (codes "x") 7 8) ∷ (sign SymBraceLeft 9 10)
    ∷ (sign KwDefault 11 18) ∷ (sign SymColon 18 19) ∷ (sign SymBraceLeft 20 21)
    ∷ (sign SymBraceRight 21 22) ∷ (sign SymBraceRight 23 24) ∷ []

abbrev pub clause_of_a_default_tree : StatementNode
clause_of_a_default_tree = statement_node (unattributed (switch_of (name_at (codes "x") 7 8) []
    (clause_of [] (CaseSelector.default_selector ∷ [], compound_of [] []) ∷ []))) (span 0 24)

-- switch x { case a < b, : {} }
abbrev pub last_comma_of_selectors_tokens : List Token
last_comma_of_selectors_tokens = (sign KwSwitch 0 6) ∷ (word (codes "x") 7 8) ∷ (sign SymBraceLeft 9 10)
    ∷ (sign KwCase 11 15) ∷ (word (codes "a") 16 17) ∷ (sign SymLessThan 18 19)
    ∷ (word (codes "b") 20 21) ∷ (sign SymComma 21 22) ∷ (sign SymColon 23 24)
    ∷ (sign SymBraceLeft 25 26) ∷ (sign SymBraceRight 26 27) ∷ (sign SymBraceRight 28 29) ∷ []

abbrev pub last_comma_of_selectors_tree : StatementNode
last_comma_of_selectors_tree =
    statement_node (unattributed (switch_of (name_at (codes "x") 7 8) [] (clause_of [] (
      CaseSelector.expression_selector (at (Expression.binary less_than (name_at (codes "a") 16 17)
          (name_at (codes "b") 20 21)) 16 21) ∷ [],
      compound_of [] [],
    ) ∷ []))) (span 0 29)

-- return;
abbrev pub empty_return_tokens : List Token
empty_return_tokens = (sign KwReturn 0 6) ∷ (sign SymSemicolon 6 7) ∷ []

abbrev pub empty_return_tree : StatementNode
empty_return_tree = statement_node (unattributed (return_of None)) (span 0 7)

-- a * b;
abbrev pub product_as_a_statement_tokens : List Token
product_as_a_statement_tokens = (word (codes "a") 0 1) ∷ (sign SymStar 2 3) ∷ (word (codes "b") 4 5)
    ∷ (sign SymSemicolon 5 6) ∷ []

abbrev pub product_as_a_statement_fault : Fault
product_as_a_statement_fault = record { kind = 3; texts = codes "*" ∷ []; span = span 2 3 }

-- a(b) = 1;
abbrev pub assignment_to_a_call_tokens : List Token
assignment_to_a_call_tokens = (word (codes "a") 0 1) ∷ (sign SymParenLeft 1 2)
    ∷ (word (codes "b") 2 3) ∷ (sign SymParenRight 3 4) ∷ (sign SymEqual 5 6) ∷ (number_token 1 7 8)
    ∷ (sign SymSemicolon 8 9) ∷ []

abbrev pub assignment_to_a_call_fault : Fault
assignment_to_a_call_fault = record { kind = 3; texts = codes "=" ∷ []; span = span 5 6 }

-- a<b> = c;
abbrev pub assignment_to_a_template_tokens : List Token
assignment_to_a_template_tokens = (word (codes "a") 0 1) ∷ (sign TemplateArgsStart 1 2)
    ∷ (word (codes "b") 2 3) ∷ (sign TemplateArgsEnd 3 4) ∷ (sign SymEqual 5 6)
    ∷ (word (codes "c") 7 8) ∷ (sign SymSemicolon 8 9) ∷ []

abbrev pub assignment_to_a_template_fault : Fault
assignment_to_a_template_fault = record { kind = 3; texts = codes "=" ∷ []; span = span 5 6 }

-- @if(a) a = 1;
abbrev pub attribute_before_an_assignment_tokens : List Token
attribute_before_an_assignment_tokens = (sign SymAttr 0 1) ∷ (sign KwIf 1 3) ∷ (sign SymParenLeft 3 4)
    ∷ (word (codes "a") 4 5) ∷ (sign SymParenRight 5 6) ∷ (word (codes "a") 7 8)
    ∷ (sign SymEqual 9 10) ∷ (number_token 1 11 12) ∷ (sign SymSemicolon 12 13) ∷ []

abbrev pub attribute_before_an_assignment_tree : StatementNode
attribute_before_an_assignment_tree = statement_node (statement (if_at (name_at (codes "a") 4 5) 0 6
    ∷ []) (assignment_of (name_at (codes "a") 7 8) equal (number_at 1 11 12))) (span 0 13)

-- for (@a i = 0; ; @b i++) {}
abbrev pub attributes_in_a_for_header_tokens : List Token
attributes_in_a_for_header_tokens = (sign KwFor 0 3) ∷ (sign SymParenLeft 4 5) ∷ (sign SymAttr 5 6)
    ∷ (word (codes "a") 6 7) ∷ (word (codes "i") 8 9) ∷ (sign SymEqual 10 11) ∷ (number_token 0 12 13)
    ∷ (sign SymSemicolon 13 14) ∷ (sign SymSemicolon 15 16) ∷ (sign SymAttr 17 18)
    ∷ (word (codes "b") 18 19) ∷ (word (codes "i") 20 21) ∷ (sign SymPlusPlus 21 23)
    ∷ (sign SymParenRight 23 24) ∷ (sign SymBraceLeft 25 26) ∷ (sign SymBraceRight 26 27) ∷ []

abbrev pub attributes_in_a_for_header_tree : StatementNode
attributes_in_a_for_header_tree =
    statement_node (unattributed (for_of (Some (statement_node (statement (custom_at (codes "a") 5 7
    ∷ []) (assignment_of (name_at (codes "i") 8 9) equal (number_at 0 12 13))) (span 5 13)))
    None (Some (statement_node (statement (custom_at (codes "b") 17 19 ∷ [])
    (increment_of (name_at (codes "i") 20 21))) (span 17 23))) (compound_of [] []))) (span 0 27)

-- switch x { @a default {} }
abbrev pub attribute_before_a_clause_tokens : List Token
attribute_before_a_clause_tokens = (sign KwSwitch 0 6) ∷ (word (codes "x") 7 8)
    ∷ (sign SymBraceLeft 9 10) ∷ (sign SymAttr 11 12) ∷ (word (codes "a") 12 13) ∷ (sign KwDefault 14 21)
    ∷ (sign SymBraceLeft 22 23) ∷ (sign SymBraceRight 23 24) ∷ (sign SymBraceRight 25 26) ∷ []

abbrev pub attribute_before_a_clause_tree : StatementNode
attribute_before_a_clause_tree = statement_node (unattributed (switch_of (name_at (codes "x") 7 8) []
    (clause_of (custom_at (codes "a") 11 13 ∷ []) (CaseSelector.default_selector ∷ [], compound_of [] []) ∷ [])))
    (span 0 26)

-- loop { @a continuing { @b break if c; } }
abbrev pub attributes_in_a_loop_tokens : List Token
attributes_in_a_loop_tokens = (sign KwLoop 0 4) ∷ (sign SymBraceLeft 5 6) ∷ (sign SymAttr 7 8)
    ∷ (word (codes "a") 8 9) ∷ (sign KwContinuing 10 20) ∷ (sign SymBraceLeft 21 22) ∷ (sign SymAttr 23 24)
    ∷ (word (codes "b") 24 25) ∷ (sign KwBreak 26 31) ∷ (sign KwIf 32 34) ∷ (word (codes "c") 35 36)
    ∷ (sign SymSemicolon 36 37) ∷ (sign SymBraceRight 38 39) ∷ (sign SymBraceRight 40 41) ∷ []

abbrev pub attributes_in_a_loop_tree : StatementNode
attributes_in_a_loop_tree = statement_node (unattributed (loop_of [] []
    (Some (continuing_statement_of (custom_at (codes "a") 7 9 ∷ []) (
      compound_of [] [],
      Some (with_attributes (custom_at (codes "b") 23 25 ∷ []) (break_if_of (name_at (codes "c") 35 36))),
    ))))) (span 0 41)

-- @x (a) = 1;
abbrev pub arguments_before_an_assignment_tokens : List Token
arguments_before_an_assignment_tokens = (sign SymAttr 0 1) ∷ (word (codes "x") 1 2)
    ∷ (sign SymParenLeft 3 4) ∷ (word (codes "a") 4 5) ∷ (sign SymParenRight 5 6)
    ∷ (sign SymEqual 7 8) ∷ (number_token 1 9 10) ∷ (sign SymSemicolon 10 11) ∷ []

abbrev pub arguments_before_an_assignment_fault : Fault
arguments_before_an_assignment_fault = record { kind = 3; texts = codes "=" ∷ []; span = span 7 8 }

-- @a(x) (y) = 1;
abbrev pub attribute_before_parentheses_tokens : List Token
attribute_before_parentheses_tokens = (sign SymAttr 0 1) ∷ (word (codes "a") 1 2)
    ∷ (sign SymParenLeft 2 3) ∷ (word (codes "x") 3 4) ∷ (sign SymParenRight 4 5)
    ∷ (sign SymParenLeft 6 7) ∷ (word (codes "y") 7 8) ∷ (sign SymParenRight 8 9)
    ∷ (sign SymEqual 10 11) ∷ (number_token 1 12 13) ∷ (sign SymSemicolon 13 14) ∷ []

abbrev pub attribute_before_parentheses_fault : Fault
attribute_before_parentheses_fault = record { kind = 3; texts = codes "(" ∷ []; span = span 6 7 }

-- @a ;
abbrev pub attribute_before_a_semicolon_tokens : List Token
attribute_before_a_semicolon_tokens = (sign SymAttr 0 1) ∷ (word (codes "a") 1 2) ∷ (sign SymSemicolon 3 4) ∷ []

abbrev pub attribute_before_a_semicolon_fault : Fault
attribute_before_a_semicolon_fault = record { kind = 3; texts = codes ";" ∷ []; span = span 3 4 }

-- if a {} @b else {}
abbrev pub attribute_before_else_tokens : List Token
attribute_before_else_tokens = (sign KwIf 0 2) ∷ (word (codes "a") 3 4) ∷ (sign SymBraceLeft 5 6)
    ∷ (sign SymBraceRight 6 7) ∷ (sign SymAttr 8 9) ∷ (word (codes "b") 9 10) ∷ (sign KwElse 11 15)
    ∷ (sign SymBraceLeft 16 17) ∷ (sign SymBraceRight 17 18) ∷ []

abbrev pub attribute_before_else_fault : Fault
attribute_before_else_fault = record { kind = 3; texts = codes "@" ∷ []; span = span 8 9 }

-- @a var<private, read> p: i32;
abbrev pub attribute_before_a_wrong_template_tokens : List Token
attribute_before_a_wrong_template_tokens = (sign SymAttr 0 1) ∷ (word (codes "a") 1 2) ∷ (sign KwVar 3 6)
    ∷ (sign TemplateArgsStart 6 7) ∷ (word (codes "private") 7 14) ∷ (sign SymComma 14 15)
    ∷ (word (codes "read") 16 20) ∷ (sign TemplateArgsEnd 20 21) ∷ (word (codes "p") 22 23)
    ∷ (sign SymColon 23 24) ∷ (word (codes "i32") 25 28) ∷ (sign SymSemicolon 28 29) ∷ []

abbrev pub attribute_before_a_wrong_template_fault : Fault
attribute_before_a_wrong_template_fault = record {
  kind = var_template_kind;
  texts = codes "only variables with `storage` address space can have an access mode" ∷ [];
  span = span 3 21;
}
