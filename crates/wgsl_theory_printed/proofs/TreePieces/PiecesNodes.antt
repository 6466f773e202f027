-- Written by tools/tables/tree_pieces.py from wgsl_model: the pieces of printed statements, some
-- levels of
-- indentation deep and before the pieces that follow: they print them and have their tokens.
use Rattle.std.proofs.Common.{cond, suc, ◌++◌, ◌∷◌}
use Rattle.std.specs.List.{flat_map}
use Rattle.std.specs.Prelude.{List, codes, ℕ}
use Rattle.wgsl_model.proofs.Filled.{clause_filled, continuing_filled, left_filled, statement_filled}
use Rattle.wgsl_model.specs.Printed.Indentation.{indented}
use Rattle.wgsl_model.specs.Printed.Joining.{joined}
use Rattle.wgsl_model.specs.Printed.Statements.{clause_texts, continuing_line, is_void, print_compound, print_continuing, print_else, print_else_clause, print_else_if_clause, print_else_ifs, print_for, print_if, print_if_clause, print_loop, print_opened, print_switch, print_switch_clause, print_while, statement_texts, terminator_of, unended, unended_part, unended_unattributed}
use Rattle.wgsl_model.specs.Tokens.ClassTable.{KwBreak, KwCase, KwContinue, KwContinuing, KwDiscard, KwElse, KwFor, KwIf, KwLoop, KwSwitch, KwWhile, SymBraceLeft, SymBraceRight, SymParenLeft, SymParenRight, SymSemicolon}
use Rattle.wgsl_model.specs.Trees.Statements.{CompoundStatement, ContinuingStatement, ElseClause, ElseIfClause, ElseIfClauses, ForStatement, IfClause, IfStatement, LoopStatement, MaybeContinuing, MaybeElseClause, MaybeStatement, Statement, StatementNodes, SwitchClause, SwitchClauses, SwitchStatement, UnattributedStatement, WhileStatement, assignment, break_statement, clause_before, compound, compound_statement, const_assert, continue_statement, continuing, declaration, decrement, discard_statement, else_clause, else_if_before, else_if_clause, for_statement, function_call_statement, if_clause, if_else, if_statement, increment, loop_statement, no_clauses, no_continuing, no_else, no_else_ifs, no_statement, no_statements, one_continuing, one_else, one_statement, repeat, repeat_for, repeat_while, return_statement, statement, statement_before, statement_node, switch, switch_clause, switch_statement, void, while_statement}
use Rattle.wgsl_theory_printed.proofs.Spelling.Pieces.{Piece, space}
use Rattle.wgsl_theory_printed.proofs.TreePieces.PiecesOfAttributes.{attributes_pieces, list_pieces, optional_pieces}
use Rattle.wgsl_theory_printed.proofs.TreePieces.PiecesOfExpressions.{expression_node_pieces, expression_node_prints, sign}
use Rattle.wgsl_theory_printed.proofs.TreePieces.PiecesOfStatements.{assert_pieces, assert_prints, assignment_pieces, assignment_prints, break_if_pieces, break_if_prints, call_statement_pieces, call_statement_prints, condition_prints, declaration_pieces, declaration_prints, decrement_pieces, decrement_prints, increment_pieces, increment_prints, line_of_attributes, one_first, one_further, return_pieces, return_prints, selector_pieces, selectors_prints}
use Rattle.wgsl_theory_printed.proofs.TreePieces.Printing.{Prints, Puts, four, indented_prints, line, line_prints, none_prints, space_prints, word_prints, ◌before◌}
use Rattle.wgsl_theory_reread.specs.CanonicalStatements.{clauses_tokens, compound_tokens, continuing_tokens, else_clause_tokens, else_if_clause_tokens, else_ifs_tokens, else_tokens, end_token, for_tokens, if_clause_tokens, if_tokens, loop_tokens, maybe_continuing_tokens, opened_tokens, part_tokens, statements_tokens, switch_clause_tokens, switch_tokens, unattributed_tokens, unended_tokens, while_tokens}

abbrev pub end_pieces : Statement → Puts
end_pieces (statement attributes (compound b)) rest = rest
end_pieces (statement attributes (if_statement s)) rest = rest
end_pieces (statement attributes (switch_statement s)) rest = rest
end_pieces (statement attributes (loop_statement s)) rest = rest
end_pieces (statement attributes (for_statement s)) rest = rest
end_pieces (statement attributes (while_statement s)) rest = rest
end_pieces s rest = sign (codes ";") SymSemicolon rest

end_prints : {n : ℕ} (s : Statement) → Prints n (terminator_of s) (end_pieces s) (end_token s)
end_prints (statement attributes (compound b)) = none_prints
end_prints (statement attributes (if_statement s)) = none_prints
end_prints (statement attributes (switch_statement s)) = none_prints
end_prints (statement attributes (loop_statement s)) = none_prints
end_prints (statement attributes (for_statement s)) = none_prints
end_prints (statement attributes (while_statement s)) = none_prints
end_prints s = word_prints

abbrev mutual
  pub unended_pieces : ℕ → Statement → List Piece → List Piece
  unended_pieces n (statement attributes s) rest = attributes_pieces (line n) attributes (unattributed_pieces n s rest)

  pub unattributed_pieces : ℕ → UnattributedStatement → List Piece → List Piece
  unattributed_pieces n void rest = rest
  unattributed_pieces n (compound ss) rest = sign (codes "{") SymBraceLeft
      (line n (statements_pieces (suc n) four ss (line n (sign (codes "}") SymBraceRight rest))))
  unattributed_pieces n (assignment a) rest = assignment_pieces a rest
  unattributed_pieces n (increment i) rest = increment_pieces i rest
  unattributed_pieces n (decrement d) rest = decrement_pieces d rest
  unattributed_pieces n (if_statement s) rest = if_pieces n s rest
  unattributed_pieces n (switch_statement s) rest = switch_pieces n s rest
  unattributed_pieces n (loop_statement s) rest = loop_pieces n s rest
  unattributed_pieces n (for_statement s) rest = for_pieces n s rest
  unattributed_pieces n (while_statement s) rest = while_pieces n s rest
  unattributed_pieces n break_statement rest = sign (codes "break") KwBreak rest
  unattributed_pieces n continue_statement rest = sign (codes "continue") KwContinue rest
  unattributed_pieces n discard_statement rest = sign (codes "discard") KwDiscard rest
  unattributed_pieces n (return_statement r) rest = return_pieces r rest
  unattributed_pieces n (function_call_statement c) rest = call_statement_pieces c rest
  unattributed_pieces n (const_assert c) rest = assert_pieces c rest
  unattributed_pieces n (declaration d) rest = declaration_pieces d rest

  pub statements_pieces : ℕ → Puts → StatementNodes → List Piece → List Piece
  statements_pieces n start no_statements rest = rest
  statements_pieces n start (statement_before (statement_node s span) ss) rest = cond (is_void s)
      (statements_pieces n start ss rest)
      (start (unended_pieces n s (end_pieces s (statements_pieces n (line n) ss rest))))

  pub compound_pieces : ℕ → CompoundStatement → List Piece → List Piece
  compound_pieces n (compound_statement attributes statements) rest =
      attributes_pieces (line n) attributes (sign (codes "{") SymBraceLeft (line n
      (statements_pieces (suc n) four statements (line n (sign (codes "}") SymBraceRight rest)))))

  pub if_pieces : ℕ → IfStatement → List Piece → List Piece
  if_pieces n (if_else first others last) rest = if_clause_pieces n first
      (else_ifs_pieces n others (else_pieces n last rest))

  pub if_clause_pieces : ℕ → IfClause → List Piece → List Piece
  if_clause_pieces n (if_clause e block) rest = sign (codes "if") KwIf
      (space ∷ expression_node_pieces e (space ∷ compound_pieces n block rest))

  pub else_if_clause_pieces : ℕ → ElseIfClause → List Piece → List Piece
  else_if_clause_pieces n (else_if_clause attributes e block) rest = attributes_pieces (line n)
      attributes (sign (codes "else") KwElse (space ∷ sign (codes "if") KwIf
      (space ∷ expression_node_pieces e (space ∷ compound_pieces n block rest))))

  pub else_ifs_pieces : ℕ → ElseIfClauses → List Piece → List Piece
  else_ifs_pieces n no_else_ifs rest = rest
  else_ifs_pieces n (else_if_before c cs) rest = line n (else_if_clause_pieces n c (else_ifs_pieces n cs rest))

  pub else_clause_pieces : ℕ → ElseClause → List Piece → List Piece
  else_clause_pieces n (else_clause attributes block) rest = attributes_pieces (line n) attributes
      (sign (codes "else") KwElse (space ∷ compound_pieces n block rest))

  pub else_pieces : ℕ → MaybeElseClause → List Piece → List Piece
  else_pieces n no_else rest = rest
  else_pieces n (one_else c) rest = line n (else_clause_pieces n c rest)

  pub switch_pieces : ℕ → SwitchStatement → List Piece → List Piece
  switch_pieces n (switch e body_attributes cs) rest = sign (codes "switch") KwSwitch
      (space ∷ expression_node_pieces e (space ∷ attributes_pieces (line n) body_attributes (sign (codes "{")
      SymBraceLeft (line n (clauses_pieces (suc n) four cs (line n (sign (codes "}") SymBraceRight rest)))))))

  pub clauses_pieces : ℕ → Puts → SwitchClauses → List Piece → List Piece
  clauses_pieces n start no_clauses rest = rest
  clauses_pieces n start (clause_before c cs) rest =
      start (switch_clause_pieces n c (clauses_pieces n (line n) cs rest))

  pub switch_clause_pieces : ℕ → SwitchClause → List Piece → List Piece
  switch_clause_pieces n (switch_clause attributes selectors block) rest =
      attributes_pieces (line n) attributes (sign (codes "case") KwCase
      (space ∷ list_pieces selector_pieces selectors (space ∷ compound_pieces n block rest)))

  pub opened_pieces : ℕ → CompoundStatement → List Piece → List Piece
  opened_pieces n (compound_statement attributes statements) rest = attributes_pieces (line n) attributes
      (sign (codes "{") SymBraceLeft (line n (statements_pieces (suc n) four statements (line n rest))))

  pub loop_pieces : ℕ → LoopStatement → List Piece → List Piece
  loop_pieces n (repeat body last) rest = sign (codes "loop") KwLoop
      (space ∷ opened_pieces n body (maybe_continuing_pieces n last (sign (codes "}") SymBraceRight rest)))

  pub maybe_continuing_pieces : ℕ → MaybeContinuing → List Piece → List Piece
  maybe_continuing_pieces n no_continuing rest = rest
  maybe_continuing_pieces n (one_continuing c) rest = four (continuing_pieces (suc n) c (line n rest))

  pub continuing_pieces : ℕ → ContinuingStatement → List Piece → List Piece
  continuing_pieces n (continuing attributes body condition) rest = attributes_pieces (line n)
      attributes (sign (codes "continuing") KwContinuing (space ∷ opened_pieces n body
      (optional_pieces (break_if_pieces n) condition (sign (codes "}") SymBraceRight rest))))

  pub for_pieces : ℕ → ForStatement → List Piece → List Piece
  for_pieces n (repeat_for init condition update block) rest = sign (codes "for") KwFor
      (space ∷ sign (codes "(") SymParenLeft (part_pieces n init (sign (codes ";") SymSemicolon
      (space ∷ optional_pieces expression_node_pieces condition (sign (codes ";") SymSemicolon (space
      ∷ part_pieces n update (sign (codes ")") SymParenRight (space ∷ compound_pieces n block rest))))))))

  pub part_pieces : ℕ → MaybeStatement → List Piece → List Piece
  part_pieces n no_statement rest = rest
  part_pieces n (one_statement (statement_node s span)) rest = unended_pieces n s rest

  pub while_pieces : ℕ → WhileStatement → List Piece → List Piece
  while_pieces n (repeat_while e block) rest = sign (codes "while") KwWhile
      (space ∷ expression_node_pieces e (space ∷ compound_pieces n block rest))

mutual
  pub unended_prints : {n : ℕ} (s : Statement) → Prints n (unended s) (unended_pieces n s) (unended_tokens s)
  unended_prints (statement attributes s) = line_of_attributes attributes before unattributed_prints s

  unattributed_prints : {n : ℕ} (s : UnattributedStatement)
      → Prints n (unended_unattributed s) (unattributed_pieces n s) (unattributed_tokens s)
  unattributed_prints void = none_prints
  unattributed_prints {n} (compound ss) = (word_prints before line_prints n) before first_statements
      ss before (line_prints n before word_prints)
  unattributed_prints (assignment a) = assignment_prints a
  unattributed_prints (increment i) = increment_prints i
  unattributed_prints (decrement d) = decrement_prints d
  unattributed_prints (if_statement s) = if_prints s
  unattributed_prints (switch_statement s) = switch_prints s
  unattributed_prints (loop_statement s) = loop_prints s
  unattributed_prints (for_statement s) = for_prints s
  unattributed_prints (while_statement s) = while_prints s
  unattributed_prints break_statement = word_prints
  unattributed_prints continue_statement = word_prints
  unattributed_prints discard_statement = word_prints
  unattributed_prints (return_statement r) = return_prints r
  unattributed_prints (function_call_statement c) = call_statement_prints c
  unattributed_prints (const_assert c) = assert_prints c
  unattributed_prints (declaration d) = declaration_prints d

  first_statements : {n : ℕ} (s : StatementNodes)
      → Prints n (indented (joined (codes "\n") (statement_texts s)))
      (statements_pieces (suc n) four s) (statements_tokens s)
  first_statements no_statements = none_prints
  first_statements (statement_before (statement_node s span) ss) = one_first (is_void s)
      (statement_texts ss) (statement_filled s) (unended_prints s before end_prints s)
      (further_statements ss) (first_statements ss)

  further_statements : {n : ℕ} (s : StatementNodes) → Prints n (flat_map (λ x. codes "\n" ++ x)
      (statement_texts s)) (statements_pieces n (line n) s) (statements_tokens s)
  further_statements no_statements = none_prints
  further_statements (statement_before (statement_node s span) ss) = one_further (is_void s)
      (statement_texts ss) (unended_prints s before end_prints s) (further_statements ss)

  pub compound_prints : {n : ℕ} (s : CompoundStatement)
      → Prints n (print_compound s) (compound_pieces n s) (compound_tokens s)
  compound_prints {n} (compound_statement attributes statements) = line_of_attributes attributes before
      ((word_prints before line_prints n) before first_statements statements before (line_prints n before word_prints))

  if_prints : {n : ℕ} (s : IfStatement) → Prints n (print_if s) (if_pieces n s) (if_tokens s)
  if_prints (if_else first others last) = if_clause_prints first before else_ifs_prints others before else_prints last

  if_clause_prints : {n : ℕ} (s : IfClause) → Prints n (print_if_clause s) (if_clause_pieces n s) (if_clause_tokens s)
  if_clause_prints (if_clause e block) = (word_prints before space_prints) before
      expression_node_prints e before space_prints before compound_prints block

  else_if_clause_prints : {n : ℕ} (s : ElseIfClause)
      → Prints n (print_else_if_clause s) (else_if_clause_pieces n s) (else_if_clause_tokens s)
  else_if_clause_prints (else_if_clause attributes e block) = line_of_attributes attributes before
      (word_prints before space_prints before word_prints before space_prints) before
      expression_node_prints e before space_prints before compound_prints block

  else_ifs_prints : {n : ℕ} (s : ElseIfClauses) → Prints n (print_else_ifs s) (else_ifs_pieces n s) (else_ifs_tokens s)
  else_ifs_prints no_else_ifs = none_prints
  else_ifs_prints {n} (else_if_before c cs) = line_prints n before else_if_clause_prints c before else_ifs_prints cs

  else_clause_prints : {n : ℕ} (s : ElseClause)
      → Prints n (print_else_clause s) (else_clause_pieces n s) (else_clause_tokens s)
  else_clause_prints (else_clause attributes block) = line_of_attributes attributes before
      (word_prints before space_prints) before compound_prints block

  else_prints : {n : ℕ} (s : MaybeElseClause) → Prints n (print_else s) (else_pieces n s) (else_tokens s)
  else_prints no_else = none_prints
  else_prints {n} (one_else c) = line_prints n before else_clause_prints c

  switch_prints : {n : ℕ} (s : SwitchStatement) → Prints n (print_switch s) (switch_pieces n s) (switch_tokens s)
  switch_prints {n} (switch e body_attributes cs) = (word_prints before space_prints) before
      expression_node_prints e before space_prints before line_of_attributes body_attributes before
      ((word_prints before line_prints n) before first_clauses cs before (line_prints n before word_prints))

  first_clauses : {n : ℕ} (s : SwitchClauses)
      → Prints n (indented (joined (codes "\n") (clause_texts s))) (clauses_pieces (suc n) four s) (clauses_tokens s)
  first_clauses no_clauses = none_prints
  first_clauses (clause_before c cs) =
      indented_prints (left_filled (print_switch_clause c) _ (clause_filled c))
      (switch_clause_prints c before further_clauses cs)

  further_clauses : {n : ℕ} (s : SwitchClauses)
      → Prints n (flat_map (λ x. codes "\n" ++ x) (clause_texts s)) (clauses_pieces n (line n) s) (clauses_tokens s)
  further_clauses no_clauses = none_prints
  further_clauses {n} (clause_before c cs) = (line_prints n before switch_clause_prints c) before further_clauses cs

  switch_clause_prints : {n : ℕ} (s : SwitchClause)
      → Prints n (print_switch_clause s) (switch_clause_pieces n s) (switch_clause_tokens s)
  switch_clause_prints (switch_clause attributes selectors block) =
      line_of_attributes attributes before (word_prints before space_prints) before selectors_prints
      selectors before space_prints before compound_prints block

  opened_prints : {n : ℕ} (s : CompoundStatement) → Prints n (print_opened s) (opened_pieces n s) (opened_tokens s)
  opened_prints {n} (compound_statement attributes statements) = line_of_attributes attributes before
      (word_prints before line_prints n) before (first_statements statements before line_prints n)

  loop_prints : {n : ℕ} (s : LoopStatement) → Prints n (print_loop s) (loop_pieces n s) (loop_tokens s)
  loop_prints (repeat body last) = (word_prints before space_prints) before opened_prints body
      before maybe_continuing_prints last before word_prints

  maybe_continuing_prints : {n : ℕ} (s : MaybeContinuing)
      → Prints n (continuing_line s) (maybe_continuing_pieces n s) (maybe_continuing_tokens s)
  maybe_continuing_prints no_continuing = none_prints
  maybe_continuing_prints {n} (one_continuing c) = indented_prints (continuing_filled c)
      (continuing_prints c) before line_prints n

  continuing_prints : {n : ℕ} (s : ContinuingStatement)
      → Prints n (print_continuing s) (continuing_pieces n s) (continuing_tokens s)
  continuing_prints (continuing attributes body condition) = line_of_attributes attributes before
      (word_prints before space_prints) before opened_prints body before break_if_prints condition
      before word_prints

  for_prints : {n : ℕ} (s : ForStatement) → Prints n (print_for s) (for_pieces n s) (for_tokens s)
  for_prints (repeat_for init condition update block) =
      (word_prints before space_prints before word_prints) before part_prints init before
      (word_prints before space_prints) before condition_prints condition before
      (word_prints before space_prints) before part_prints update before
      (word_prints before space_prints) before compound_prints block

  part_prints : {n : ℕ} (s : MaybeStatement) → Prints n (unended_part s) (part_pieces n s) (part_tokens s)
  part_prints no_statement = none_prints
  part_prints (one_statement (statement_node s span)) = unended_prints s

  while_prints : {n : ℕ} (s : WhileStatement) → Prints n (print_while s) (while_pieces n s) (while_tokens s)
  while_prints (repeat_while e block) = (word_prints before space_prints) before
      expression_node_prints e before space_prints before compound_prints block
