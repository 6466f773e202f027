-- The printed texts of statements.
use Rattle.std.specs.Prelude.{Bool, true, false, ℕ, List, [], ◌∷◌, ◌++◌, map, Option, Some, None, codes, if◌then◌else◌}
use Rattle.wgsl_model.specs.Trees.Attributed.{Attributed}
use Rattle.wgsl_model.specs.Trees.Statements.{statement_node, Statement, statement, UnattributedStatement, void, compound, assignment, increment, decrement, if_statement, switch_statement, loop_statement, for_statement, while_statement, break_statement, continue_statement, discard_statement, return_statement, function_call_statement, const_assert, declaration, CompoundStatement, compound_statement, IfStatement, if_else, IfClause, if_clause, ElseIfClause, else_if_clause, ElseClause, else_clause, SwitchStatement, switch, SwitchClause, switch_clause, LoopStatement, repeat, ContinuingStatement, continuing, ForStatement, repeat_for, WhileStatement, repeat_while, StatementNodes, no_statements, statement_before, ElseIfClauses, no_else_ifs, else_if_before, MaybeElseClause, no_else, one_else, SwitchClauses, no_clauses, clause_before, MaybeContinuing, no_continuing, one_continuing, MaybeStatement, no_statement, one_statement, BreakIfStatement}
use Rattle.wgsl_model.specs.Printed.Joining.{joined}
use Rattle.wgsl_model.specs.Printed.Indentation.{indented}
use Rattle.wgsl_model.specs.Printed.Expressions.{print_expression_node}
use Rattle.wgsl_model.specs.Printed.Attributes.{print_attribute_line}
use Rattle.wgsl_model.specs.Printed.Declarations.{print_attributed, print_condition, unended_declaration, unended_assignment, unended_increment, unended_decrement, unended_return, unended_call, unended_assert, print_break_if, print_selector}

-- an empty statement
abbrev pub is_void : Statement → Bool
is_void (statement attributes void) = true
is_void s = false

-- the `;` that ends a statement, if one does
abbrev pub terminator_of : Statement → List ℕ
terminator_of (statement attributes (compound b)) = []
terminator_of (statement attributes (if_statement s)) = []
terminator_of (statement attributes (switch_statement s)) = []
terminator_of (statement attributes (loop_statement s)) = []
terminator_of (statement attributes (for_statement s)) = []
terminator_of (statement attributes (while_statement s)) = []
terminator_of s = codes ";"

-- texts on lines of their own between braces, four spaces in
abbrev pub braced : List (List ℕ) → List ℕ
braced texts = codes "{\n" ++ indented (joined (codes "\n") texts) ++ codes "\n}"

-- a text four spaces in, and a line break
abbrev pub indented_line : List ℕ → List ℕ
indented_line text = indented text ++ codes "\n"

-- `break if`, if it is there, on a line four spaces in
abbrev pub break_if_line : Option (Attributed BreakIfStatement) → List ℕ
break_if_line None = []
break_if_line (Some b) = indented_line (print_attributed print_break_if b)

abbrev mutual
  -- a statement without the `;` that ends it
  pub unended : Statement → List ℕ
  unended (statement attributes s) = print_attribute_line attributes ++ unended_unattributed s

  -- the same without its attributes
  pub unended_unattributed : UnattributedStatement → List ℕ
  unended_unattributed void = []
  unended_unattributed (compound ss) = braced (statement_texts ss)
  unended_unattributed (assignment a) = unended_assignment a
  unended_unattributed (increment i) = unended_increment i
  unended_unattributed (decrement d) = unended_decrement d
  unended_unattributed (if_statement s) = print_if s
  unended_unattributed (switch_statement s) = print_switch s
  unended_unattributed (loop_statement s) = print_loop s
  unended_unattributed (for_statement s) = print_for s
  unended_unattributed (while_statement s) = print_while s
  unended_unattributed break_statement = codes "break"
  unended_unattributed continue_statement = codes "continue"
  unended_unattributed discard_statement = codes "discard"
  unended_unattributed (return_statement r) = unended_return r
  unended_unattributed (function_call_statement c) = unended_call c
  unended_unattributed (const_assert c) = unended_assert c
  unended_unattributed (declaration d) = unended_declaration d

  -- the texts of the statements that are not empty
  pub statement_texts : StatementNodes → List (List ℕ)
  statement_texts no_statements = []
  statement_texts (statement_before (statement_node s span) ss) = if is_void s
      then statement_texts ss else (unended s ++ terminator_of s) ∷ statement_texts ss

  -- a block: attributes, and statements in braces
  pub print_compound : CompoundStatement → List ℕ
  print_compound (compound_statement attributes statements) = print_attribute_line attributes
      ++ braced (statement_texts statements)

  pub print_if : IfStatement → List ℕ
  print_if (if_else first others last) = print_if_clause first ++ print_else_ifs others ++ print_else last

  pub print_if_clause : IfClause → List ℕ
  print_if_clause (if_clause e block) = codes "if " ++ print_expression_node e ++ codes " " ++ print_compound block

  pub print_else_if_clause : ElseIfClause → List ℕ
  print_else_if_clause (else_if_clause attributes e block) = print_attribute_line attributes
      ++ codes "else if " ++ print_expression_node e ++ codes " " ++ print_compound block

  -- each on a line of its own
  pub print_else_ifs : ElseIfClauses → List ℕ
  print_else_ifs no_else_ifs = []
  print_else_ifs (else_if_before c cs) = codes "\n" ++ print_else_if_clause c ++ print_else_ifs cs

  pub print_else_clause : ElseClause → List ℕ
  print_else_clause (else_clause attributes block) = print_attribute_line attributes
      ++ codes "else " ++ print_compound block

  -- the last `else`, if there is one
  pub print_else : MaybeElseClause → List ℕ
  print_else no_else = []
  print_else (one_else c) = codes "\n" ++ print_else_clause c

  pub print_switch : SwitchStatement → List ℕ
  print_switch (switch e body_attributes cs) =
      codes "switch " ++ print_expression_node e ++ codes " "
      ++ print_attribute_line body_attributes ++ braced (clause_texts cs)

  -- the texts of clauses
  pub clause_texts : SwitchClauses → List (List ℕ)
  clause_texts no_clauses = []
  clause_texts (clause_before c cs) = print_switch_clause c ∷ clause_texts cs

  pub print_switch_clause : SwitchClause → List ℕ
  print_switch_clause (switch_clause attributes selectors block) =
      print_attribute_line attributes ++ codes "case "
      ++ joined (codes ", ") (map print_selector selectors) ++ codes " " ++ print_compound block

  -- the lines of a body up to its closing brace
  pub print_opened : CompoundStatement → List ℕ
  print_opened (compound_statement attributes statements) = print_attribute_line attributes
      ++ codes "{\n" ++ indented_line (joined (codes "\n") (statement_texts statements))

  pub print_loop : LoopStatement → List ℕ
  print_loop (repeat body last) = codes "loop " ++ print_opened body ++ continuing_line last ++ codes "}"

  -- `continuing`, if it is there, on lines four spaces in
  pub continuing_line : MaybeContinuing → List ℕ
  continuing_line no_continuing = []
  continuing_line (one_continuing c) = indented_line (print_continuing c)

  pub print_continuing : ContinuingStatement → List ℕ
  print_continuing (continuing attributes body condition) = print_attribute_line attributes
      ++ codes "continuing " ++ print_opened body ++ break_if_line condition ++ codes "}"

  pub print_for : ForStatement → List ℕ
  print_for (repeat_for init condition update block) =
      codes "for (" ++ unended_part init ++ codes "; " ++ print_condition condition ++ codes "; "
      ++ unended_part update ++ codes ") " ++ print_compound block

  -- a part of a `for` header, if it is there, without the `;` that ends it
  pub unended_part : MaybeStatement → List ℕ
  unended_part no_statement = []
  unended_part (one_statement (statement_node s span)) = unended s

  pub print_while : WhileStatement → List ℕ
  print_while (repeat_while e block) = codes "while " ++ print_expression_node e ++ codes " " ++ print_compound block

-- a statement with the `;` that ends it
abbrev pub print_statement : Statement → List ℕ
print_statement s = unended s ++ terminator_of s
