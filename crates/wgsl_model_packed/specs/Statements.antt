-- The packed forms of the declarations of values and of statements. In a block an empty statement
-- has its span alone; nothing else is printed of it.
use Rattle.std.specs.Prelude.{ℕ, List, [], ◌∷◌, ◌++◌, Option, codes, if◌then◌else◌}
use Rattle.wgsl_model.specs.Trees.NamedValues.{AddressSpace, AccessMode, access_mode_text, address_space_text}
use Rattle.wgsl_model.specs.Printed.Operators.{assignment_operator_text}
use Rattle.wgsl_model.specs.Printed.Statements.{is_void}
use Rattle.wgsl_model.specs.Trees.Attributed.{Attributed}
use Rattle.wgsl_model.specs.Trees.Attributes.{Attributes}
use Rattle.wgsl_model.specs.Trees.Statements.{DeclarationKind, const_kind, override_kind, let_kind, var_kind, Declaration, AssignmentStatement, BreakIfStatement, CaseSelector, default_selector, expression_selector, statement_node, Statement, statement, UnattributedStatement, void, compound, assignment, increment, decrement, if_statement, switch_statement, loop_statement, for_statement, while_statement, break_statement, continue_statement, discard_statement, return_statement, function_call_statement, const_assert, declaration, CompoundStatement, compound_statement, IfStatement, if_else, IfClause, if_clause, ElseIfClause, else_if_clause, ElseClause, else_clause, SwitchStatement, switch, SwitchClause, switch_clause, LoopStatement, repeat, ContinuingStatement, continuing, ForStatement, repeat_for, WhileStatement, repeat_while, StatementNodes, no_statements, statement_before, ElseIfClauses, no_else_ifs, else_if_before, MaybeElseClause, no_else, one_else, SwitchClauses, no_clauses, clause_before, MaybeContinuing, no_continuing, one_continuing, MaybeStatement, no_statement, one_statement}
use Rattle.wgsl_model_packed.specs.Printing.{packed_text, packed_span}
use Rattle.wgsl_model_packed.specs.Expressions.{packed_expression_node, packed_type, packed_call, packed_optional, packed_list}
use Rattle.wgsl_model_packed.specs.Attributes.{packed_attribute_line}
use Rattle.wgsl_model_packed.specs.Rules.{name_rule, nothing_rule, node_rule, parts_rule, part_rule, further_word_rule, var_rule, var_template_rule, declaration_rule, typed_rule, initializer_rule, assignment_rule, increment_rule, decrement_rule, break_rule, continue_rule, discard_rule, return_rule, returned_rule, call_statement_rule, const_assert_rule, break_if_rule, default_rule, void_rule, ended_rule, block_rule, void_item_rule, item_rule, block_end_rule, empty_end_rule, opened_end_rule, empty_opened_end_rule, if_rule, if_clause_rule, else_if_rule, else_rule, line_rule, lines_rule, switch_rule, switch_clause_rule, loop_rule, indented_line_rule, continuing_rule, for_rule, while_rule}

abbrev pub packed_access_mode : AccessMode → List ℕ
packed_access_mode mode = packed_text (access_mode_text mode)

abbrev pub packed_var_template : AddressSpace × Option AccessMode → List ℕ
packed_var_template (space, mode) = packed_text (address_space_text space)
    ++ packed_optional further_word_rule packed_access_mode mode

abbrev pub packed_kind : DeclarationKind → List ℕ
packed_kind const_kind = name_rule ∷ packed_text (codes "const")
packed_kind override_kind = name_rule ∷ packed_text (codes "override")
packed_kind let_kind = name_rule ∷ packed_text (codes "let")
packed_kind (var_kind t) = var_rule ∷ packed_optional var_template_rule packed_var_template t

-- what is after the attributes of a declaration
abbrev pub packed_declaration : Declaration → List ℕ
packed_declaration d = packed_kind d.kind ++ (packed_text d.ident
    ++ (packed_optional typed_rule packed_type d.ty
    ++ packed_optional initializer_rule packed_expression_node d.initializer))

abbrev pub packed_assignment : AssignmentStatement → List ℕ
packed_assignment a = packed_expression_node a.lhs
    ++ (packed_text (assignment_operator_text a.operator) ++ packed_expression_node a.rhs)

abbrev pub packed_break_if : Attributed BreakIfStatement → List ℕ
packed_break_if b = break_if_rule
    ∷ (packed_attribute_line b.attributes ++ packed_expression_node b.node.expression)

abbrev pub packed_selector : CaseSelector → List ℕ
packed_selector default_selector = default_rule ∷ []
packed_selector (expression_selector e) = node_rule ∷ packed_expression_node e

-- the end of a list, by whether something in it is printed
abbrev pub end_of : ℕ → ℕ → StatementNodes → List ℕ
end_of some none no_statements = none ∷ []
end_of some none (statement_before (statement_node s span) ss) =
    if is_void s then end_of some none ss else some ∷ []

-- the end of the clauses of a `switch`, by whether there are some
abbrev pub end_of_clauses : SwitchClauses → ℕ
end_of_clauses no_clauses = empty_end_rule
end_of_clauses (clause_before c cs) = block_end_rule

-- the number of the rule that ends a statement, if a `;` does
abbrev pub ended : UnattributedStatement → List ℕ → List ℕ
ended (compound ss) form = form
ended (if_statement s) form = form
ended (switch_statement s) form = form
ended (loop_statement s) form = form
ended (for_statement s) form = form
ended (while_statement s) form = form
ended s form = ended_rule ∷ form

abbrev mutual
  -- a statement without the `;` that ends it
  pub packed_unended : Statement → List ℕ
  packed_unended (statement attributes s) = packed_after attributes s

  pub packed_after : Attributes → UnattributedStatement → List ℕ
  packed_after attributes void = void_rule ∷ packed_attribute_line attributes
  packed_after attributes (compound ss) = block_rule ∷ (packed_attribute_line attributes
      ++ (packed_in ss ++ end_of block_end_rule empty_end_rule ss))
  packed_after attributes (assignment a) =
      assignment_rule ∷ (packed_attribute_line attributes ++ packed_assignment a)
  packed_after attributes (increment i) = increment_rule
      ∷ (packed_attribute_line attributes ++ packed_expression_node i.expression)
  packed_after attributes (decrement d) = decrement_rule
      ∷ (packed_attribute_line attributes ++ packed_expression_node d.expression)
  packed_after attributes (if_statement s) =
      if_rule ∷ (packed_attribute_line attributes ++ packed_if s)
  packed_after attributes (switch_statement s) =
      switch_rule ∷ (packed_attribute_line attributes ++ packed_switch s)
  packed_after attributes (loop_statement s) =
      loop_rule ∷ (packed_attribute_line attributes ++ packed_loop s)
  packed_after attributes (for_statement s) =
      for_rule ∷ (packed_attribute_line attributes ++ packed_for s)
  packed_after attributes (while_statement s) =
      while_rule ∷ (packed_attribute_line attributes ++ packed_while s)
  packed_after attributes break_statement = break_rule ∷ packed_attribute_line attributes
  packed_after attributes continue_statement = continue_rule ∷ packed_attribute_line attributes
  packed_after attributes discard_statement = discard_rule ∷ packed_attribute_line attributes
  packed_after attributes (return_statement r) =
      return_rule ∷ (packed_attribute_line attributes
      ++ packed_optional returned_rule packed_expression_node r.expression)
  packed_after attributes (function_call_statement c) =
      call_statement_rule ∷ (packed_attribute_line attributes ++ packed_call c.call)
  packed_after attributes (const_assert c) = const_assert_rule
      ∷ (packed_attribute_line attributes ++ packed_expression_node c.expression)
  packed_after attributes (declaration d) =
      declaration_rule ∷ (packed_attribute_line attributes ++ packed_declaration d)

  -- a statement with the `;` that ends it
  pub packed_statement : Statement → List ℕ
  packed_statement (statement attributes s) = ended s (packed_after attributes s)

  -- what is in a block
  pub packed_in : StatementNodes → List ℕ
  packed_in no_statements = []
  packed_in (statement_before (statement_node s span) ss) = if is_void s
      then void_item_rule ∷ (packed_span span ++ packed_in ss)
      else item_rule ∷ (packed_span span ++ (packed_statement s ++ packed_in ss))

  pub packed_compound : CompoundStatement → List ℕ
  packed_compound (compound_statement attributes ss) = block_rule
      ∷ (packed_attribute_line attributes ++ (packed_in ss ++ end_of block_end_rule empty_end_rule ss))

  -- the body of a `loop` or `continuing`
  pub packed_opened : CompoundStatement → List ℕ
  packed_opened (compound_statement attributes ss) =
      block_rule ∷ (packed_attribute_line attributes
      ++ (packed_in ss ++ end_of opened_end_rule empty_opened_end_rule ss))

  pub packed_if : IfStatement → List ℕ
  packed_if (if_else first others last) =
      packed_if_clause first ++ (packed_else_ifs others ++ packed_else last)

  pub packed_if_clause : IfClause → List ℕ
  packed_if_clause (if_clause e block) =
      if_clause_rule ∷ (packed_expression_node e ++ packed_compound block)

  pub packed_else_ifs : ElseIfClauses → List ℕ
  packed_else_ifs no_else_ifs = nothing_rule ∷ []
  packed_else_ifs (else_if_before c cs) =
      lines_rule ∷ (packed_else_if_clause c ++ packed_else_ifs cs)

  pub packed_else_if_clause : ElseIfClause → List ℕ
  packed_else_if_clause (else_if_clause attributes e block) =
      else_if_rule ∷ (packed_attribute_line attributes
      ++ (packed_expression_node e ++ packed_compound block))

  pub packed_else : MaybeElseClause → List ℕ
  packed_else no_else = nothing_rule ∷ []
  packed_else (one_else c) = line_rule ∷ packed_else_clause c

  pub packed_else_clause : ElseClause → List ℕ
  packed_else_clause (else_clause attributes block) =
      else_rule ∷ (packed_attribute_line attributes ++ packed_compound block)

  pub packed_switch : SwitchStatement → List ℕ
  packed_switch (switch e body_attributes cs) = packed_expression_node e
      ++ (packed_attribute_line body_attributes ++ packed_clauses (end_of_clauses cs) cs)

  -- clauses, and what ends them
  pub packed_clauses : ℕ → SwitchClauses → List ℕ
  packed_clauses end no_clauses = end ∷ []
  packed_clauses end (clause_before c cs) =
      lines_rule ∷ (packed_switch_clause c ++ packed_clauses end cs)

  pub packed_switch_clause : SwitchClause → List ℕ
  packed_switch_clause (switch_clause attributes selectors block) =
      switch_clause_rule ∷ (packed_attribute_line attributes
      ++ (packed_list nothing_rule parts_rule part_rule packed_selector selectors ++ packed_compound block))

  pub packed_loop : LoopStatement → List ℕ
  packed_loop (repeat body last) = packed_opened body ++ packed_maybe_continuing last

  pub packed_maybe_continuing : MaybeContinuing → List ℕ
  packed_maybe_continuing no_continuing = nothing_rule ∷ []
  packed_maybe_continuing (one_continuing c) = indented_line_rule ∷ packed_continuing c

  pub packed_continuing : ContinuingStatement → List ℕ
  packed_continuing (continuing attributes body condition) =
      continuing_rule ∷ (packed_attribute_line attributes ++ (packed_opened body
      ++ packed_optional indented_line_rule packed_break_if condition))

  pub packed_for : ForStatement → List ℕ
  packed_for (repeat_for init condition update block) = packed_part init
      ++ (packed_optional node_rule packed_expression_node condition
      ++ (packed_part update ++ packed_compound block))

  -- a part of a `for` header, if it is there, without the `;` that ends it
  pub packed_part : MaybeStatement → List ℕ
  packed_part no_statement = nothing_rule ∷ []
  packed_part (one_statement (statement_node s span)) =
      node_rule ∷ (packed_span span ++ packed_unended s)

  pub packed_while : WhileStatement → List ℕ
  packed_while (repeat_while e block) = packed_expression_node e ++ packed_compound block
