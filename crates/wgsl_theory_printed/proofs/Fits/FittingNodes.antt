-- Written by tools/tables/tree_fits.py from wgsl_model: statements whose names and literals are
-- spelled as
-- they are printed: the pieces of these fit.
use Rattle.std.proofs.Common.{refl, suc, ◌∷◌}
use Rattle.std.specs.Prelude.{List, codes, ℕ}
use Rattle.wgsl_model.specs.Printed.Statements.{is_void}
use Rattle.wgsl_model.specs.Tokens.ClassTable.{SymBraceRight, SymParenRight, SymSemicolon}
use Rattle.wgsl_model.specs.Trees.Statements.{CompoundStatement, ContinuingStatement, ElseClause, ElseIfClause, ElseIfClauses, ForStatement, IfClause, IfStatement, LoopStatement, MaybeContinuing, MaybeElseClause, MaybeStatement, Statement, StatementNodes, SwitchClause, SwitchClauses, SwitchStatement, UnattributedStatement, WhileStatement, assignment, break_statement, clause_before, compound, compound_statement, const_assert, continue_statement, continuing, declaration, decrement, discard_statement, else_clause, else_if_before, else_if_clause, for_statement, function_call_statement, if_clause, if_else, if_statement, increment, loop_statement, no_clauses, no_continuing, no_else, no_else_ifs, no_statement, no_statements, one_continuing, one_else, one_statement, repeat, repeat_for, repeat_while, return_statement, statement, statement_before, statement_node, switch, switch_clause, switch_statement, void, while_statement}
use Rattle.wgsl_theory_printed.proofs.Fits.FittingAttributes.{AreSoundAttributes, Every, IfSome, node_fits}
use Rattle.wgsl_theory_printed.proofs.Fits.FittingExpressions.{closed_by_paren}
use Rattle.wgsl_theory_printed.proofs.Fits.FittingSigns.{left_paren_fits, right_paren_fits}
use Rattle.wgsl_theory_printed.proofs.Fits.FittingStatements.{IsSoundBreakIf, IsSoundDeclaration, IsSoundDecrement, IsSoundIncrement, IsSoundSelector, assert_fits, assignment_fits, attribute_lines_fit, break_if_fits, call_statement_fits, closed_by_semicolon, closed_line, condition_fits, declaration_fits, decrement_fits, increment_fits, left_brace_fits, line_fits, one_closed, one_fits, return_fits, right_brace_fits, selectors_fit, semicolon_fits}
use Rattle.wgsl_theory_printed.proofs.Fits.SoundExpressions.{Closed, IsSoundCall, IsSoundNode, closed_name}
use Rattle.wgsl_theory_printed.proofs.Fits.WrittenWords.{keyword_fits}
use Rattle.wgsl_theory_printed.proofs.Spelling.Pieces.{Fits, Piece, render, space}
use Rattle.wgsl_theory_printed.proofs.TreePieces.PiecesNodes.{clauses_pieces, compound_pieces, continuing_pieces, else_clause_pieces, else_if_clause_pieces, else_ifs_pieces, else_pieces, end_pieces, for_pieces, if_clause_pieces, if_pieces, loop_pieces, maybe_continuing_pieces, opened_pieces, part_pieces, statements_pieces, switch_clause_pieces, switch_pieces, unattributed_pieces, unended_pieces, while_pieces}
use Rattle.wgsl_theory_printed.proofs.TreePieces.PiecesOfAttributes.{optional_pieces}
use Rattle.wgsl_theory_printed.proofs.TreePieces.PiecesOfExpressions.{expression_node_pieces, sign}
use Rattle.wgsl_theory_printed.proofs.TreePieces.Printing.{Puts, four, line}

abbrev mutual
  pub IsSoundStatement : Statement → Type 0
  IsSoundStatement (statement attributes s) = AreSoundAttributes attributes × IsSoundUnattributed s

  pub IsSoundUnattributed : UnattributedStatement → Type 0
  IsSoundUnattributed void = Unit {0}
  IsSoundUnattributed (compound ss) = AreSoundStatements ss
  IsSoundUnattributed (assignment a) = IsSoundNode a.lhs × IsSoundNode a.rhs
  IsSoundUnattributed (increment i) = IsSoundIncrement i
  IsSoundUnattributed (decrement d) = IsSoundDecrement d
  IsSoundUnattributed (if_statement s) = IsSoundIf s
  IsSoundUnattributed (switch_statement s) = IsSoundSwitch s
  IsSoundUnattributed (loop_statement s) = IsSoundLoop s
  IsSoundUnattributed (for_statement s) = IsSoundFor s
  IsSoundUnattributed (while_statement s) = IsSoundWhile s
  IsSoundUnattributed break_statement = Unit {0}
  IsSoundUnattributed continue_statement = Unit {0}
  IsSoundUnattributed discard_statement = Unit {0}
  IsSoundUnattributed (return_statement r) = IfSome IsSoundNode r.expression
  IsSoundUnattributed (function_call_statement c) = IsSoundCall c.call
  IsSoundUnattributed (const_assert c) = IsSoundNode c.expression
  IsSoundUnattributed (declaration d) = IsSoundDeclaration d

  pub AreSoundStatements : StatementNodes → Type 0
  AreSoundStatements no_statements = Unit {0}
  AreSoundStatements (statement_before (statement_node s span) ss) = IsSoundStatement s × AreSoundStatements ss

  pub IsSoundCompound : CompoundStatement → Type 0
  IsSoundCompound (compound_statement attributes statements) = AreSoundAttributes attributes
      × AreSoundStatements statements

  pub IsSoundIf : IfStatement → Type 0
  IsSoundIf (if_else first others last) = IsSoundIfClause first × AreSoundElseIfs others × IsSoundElse last

  pub IsSoundIfClause : IfClause → Type 0
  IsSoundIfClause (if_clause e block) = IsSoundNode e × IsSoundCompound block

  pub IsSoundElseIf : ElseIfClause → Type 0
  IsSoundElseIf (else_if_clause attributes e block) = AreSoundAttributes attributes × IsSoundNode e
      × IsSoundCompound block

  pub AreSoundElseIfs : ElseIfClauses → Type 0
  AreSoundElseIfs no_else_ifs = Unit {0}
  AreSoundElseIfs (else_if_before c cs) = IsSoundElseIf c × AreSoundElseIfs cs

  pub IsSoundElseClause : ElseClause → Type 0
  IsSoundElseClause (else_clause attributes block) = AreSoundAttributes attributes × IsSoundCompound block

  pub IsSoundElse : MaybeElseClause → Type 0
  IsSoundElse no_else = Unit {0}
  IsSoundElse (one_else c) = IsSoundElseClause c

  pub IsSoundSwitch : SwitchStatement → Type 0
  IsSoundSwitch (switch e body_attributes cs) = IsSoundNode e × AreSoundAttributes body_attributes × AreSoundClauses cs

  pub AreSoundClauses : SwitchClauses → Type 0
  AreSoundClauses no_clauses = Unit {0}
  AreSoundClauses (clause_before c cs) = IsSoundClause c × AreSoundClauses cs

  pub IsSoundClause : SwitchClause → Type 0
  IsSoundClause (switch_clause attributes selectors block) = AreSoundAttributes attributes
      × Every IsSoundSelector selectors × IsSoundCompound block

  pub IsSoundLoop : LoopStatement → Type 0
  IsSoundLoop (repeat body last) = IsSoundCompound body × IsSoundMaybeContinuing last

  pub IsSoundMaybeContinuing : MaybeContinuing → Type 0
  IsSoundMaybeContinuing no_continuing = Unit {0}
  IsSoundMaybeContinuing (one_continuing c) = IsSoundContinuing c

  pub IsSoundContinuing : ContinuingStatement → Type 0
  IsSoundContinuing (continuing attributes body condition) = AreSoundAttributes attributes
      × IsSoundCompound body × IfSome IsSoundBreakIf condition

  pub IsSoundFor : ForStatement → Type 0
  IsSoundFor (repeat_for init condition update block) = IsSoundPart init
      × IfSome IsSoundNode condition × IsSoundPart update × IsSoundCompound block

  pub IsSoundPart : MaybeStatement → Type 0
  IsSoundPart no_statement = Unit {0}
  IsSoundPart (one_statement (statement_node s span)) = IsSoundStatement s

  pub IsSoundWhile : WhileStatement → Type 0
  IsSoundWhile (repeat_while e block) = IsSoundNode e × IsSoundCompound block

end_fits : (s : Statement) (rest : List Piece) → Closed (render rest) → Fits rest
    → Fits (end_pieces s rest) × Closed (render (end_pieces s rest))
end_fits (statement attributes (compound b)) rest closed fits = (fits, closed)
end_fits (statement attributes (if_statement s)) rest closed fits = (fits, closed)
end_fits (statement attributes (switch_statement s)) rest closed fits = (fits, closed)
end_fits (statement attributes (loop_statement s)) rest closed fits = (fits, closed)
end_fits (statement attributes (for_statement s)) rest closed fits = (fits, closed)
end_fits (statement attributes (while_statement s)) rest closed fits = (fits, closed)
end_fits s rest closed fits = ((semicolon_fits _, fits), closed_by_semicolon rest)

closed_statements : (n : ℕ) (s : StatementNodes) (rest : List Piece) → Closed (render rest)
    → Closed (render (statements_pieces n (line n) s rest))
closed_statements n no_statements rest closed = closed
closed_statements n (statement_before (statement_node s span) ss) rest closed = one_closed n
    (is_void s) (statements_pieces n (line n) ss rest) _ (closed_statements n ss rest closed)

mutual
  pub unended_fits : (n : ℕ) (s : Statement) (rest : List Piece) → IsSoundStatement s
      → Closed (render rest) → Fits rest → Fits (unended_pieces n s rest)
  unended_fits n (statement attributes s) rest sound closed fits =
      attribute_lines_fit n attributes _ sound.0 (unattributed_fits n s _ sound.1 closed fits)

  unattributed_fits : (n : ℕ) (s : UnattributedStatement) (rest : List Piece) → IsSoundUnattributed s
      → Closed (render rest) → Fits rest → Fits (unattributed_pieces n s rest)
  unattributed_fits n void rest sound closed fits = fits
  unattributed_fits n (compound ss) rest sound closed fits = (
    left_brace_fits _,
    line_fits n _ (statements_fits (suc n) four (λ r g. g) ss _ sound (closed_line n
        (sign (codes "}") SymBraceRight rest)) (line_fits n _ (right_brace_fits _, fits))),
  )
  unattributed_fits n (assignment a) rest sound closed fits = assignment_fits a _ sound closed fits
  unattributed_fits n (increment i) rest sound closed fits = increment_fits i _ sound fits
  unattributed_fits n (decrement d) rest sound closed fits = decrement_fits d _ sound fits
  unattributed_fits n (if_statement s) rest sound closed fits = if_fits n s _ sound fits
  unattributed_fits n (switch_statement s) rest sound closed fits = switch_fits n s _ sound fits
  unattributed_fits n (loop_statement s) rest sound closed fits = loop_fits n s _ sound fits
  unattributed_fits n (for_statement s) rest sound closed fits = for_fits n s _ sound fits
  unattributed_fits n (while_statement s) rest sound closed fits = while_fits n s _ sound fits
  unattributed_fits n break_statement rest sound closed fits =
      (keyword_fits _ refl (closed_name (render rest) closed), fits)
  unattributed_fits n continue_statement rest sound closed fits =
      (keyword_fits _ refl (closed_name (render rest) closed), fits)
  unattributed_fits n discard_statement rest sound closed fits =
      (keyword_fits _ refl (closed_name (render rest) closed), fits)
  unattributed_fits n (return_statement r) rest sound closed fits = return_fits r _ sound closed fits
  unattributed_fits n (function_call_statement c) rest sound closed fits = call_statement_fits c _ sound fits
  unattributed_fits n (const_assert c) rest sound closed fits = assert_fits c _ sound closed fits
  unattributed_fits n (declaration d) rest sound closed fits = declaration_fits d _ sound closed fits

  statements_fits : (n : ℕ) (start : Puts) → ((rest : List Piece) → Fits rest → Fits (start rest))
      → (s : StatementNodes) (rest : List Piece) → AreSoundStatements s → Closed (render rest)
      → Fits rest → Fits (statements_pieces n start s rest)
  statements_fits n start starts no_statements rest sound closed fits = fits
  statements_fits n start starts (statement_before (statement_node s span) ss) rest sound closed fits =
      let others = statements_pieces n (line n) ss rest in
      let ended = end_fits s others (closed_statements n ss rest closed)
      (statements_fits n (line n) (line_fits n) ss rest sound.1 closed fits) in
      let one = unended_pieces n s (end_pieces s others) in one_fits (is_void s)
      (statements_pieces n start ss rest) (start one)
      (statements_fits n start starts ss rest sound.1 closed fits)
      (starts one (unended_fits n s _ sound.0 ended.1 ended.0))

  pub compound_fits : (n : ℕ) (s : CompoundStatement) (rest : List Piece) → IsSoundCompound s
      → Fits rest → Fits (compound_pieces n s rest)
  compound_fits n (compound_statement attributes statements) rest sound fits =
      attribute_lines_fit n attributes _ sound.0 (
        left_brace_fits _,
        line_fits n _ (statements_fits (suc n) four (λ r g. g) statements _ sound.1 (closed_line n
            (sign (codes "}") SymBraceRight rest)) (line_fits n _ (right_brace_fits _, fits))),
      )

  if_fits : (n : ℕ) (s : IfStatement) (rest : List Piece) → IsSoundIf s → Fits rest → Fits (if_pieces n s rest)
  if_fits n (if_else first others last) rest sound fits = if_clause_fits n first _ sound.0
      (else_ifs_fits n others _ sound.1 (else_fits n last _ sound.2 fits))

  if_clause_fits : (n : ℕ) (s : IfClause) (rest : List Piece) → IsSoundIfClause s → Fits rest
      → Fits (if_clause_pieces n s rest)
  if_clause_fits n (if_clause e block) rest sound fits =
      (keyword_fits _ refl refl, node_fits e _ sound.0 refl (compound_fits n block _ sound.1 fits))

  else_if_clause_fits : (n : ℕ) (s : ElseIfClause) (rest : List Piece) → IsSoundElseIf s → Fits rest
      → Fits (else_if_clause_pieces n s rest)
  else_if_clause_fits n (else_if_clause attributes e block) rest sound fits =
      attribute_lines_fit n attributes _ sound.0 (
        keyword_fits _ refl refl,
        (keyword_fits _ refl refl, node_fits e _ sound.1 refl (compound_fits n block _ sound.2 fits)),
      )

  else_ifs_fits : (n : ℕ) (s : ElseIfClauses) (rest : List Piece) → AreSoundElseIfs s → Fits rest
      → Fits (else_ifs_pieces n s rest)
  else_ifs_fits n no_else_ifs rest sound fits = fits
  else_ifs_fits n (else_if_before c cs) rest sound fits = line_fits n _
      (else_if_clause_fits n c _ sound.0 (else_ifs_fits n cs _ sound.1 fits))

  else_clause_fits : (n : ℕ) (s : ElseClause) (rest : List Piece) → IsSoundElseClause s → Fits rest
      → Fits (else_clause_pieces n s rest)
  else_clause_fits n (else_clause attributes block) rest sound fits = attribute_lines_fit n
      attributes _ sound.0 (keyword_fits _ refl refl, compound_fits n block _ sound.1 fits)

  else_fits : (n : ℕ) (s : MaybeElseClause) (rest : List Piece) → IsSoundElse s → Fits rest
      → Fits (else_pieces n s rest)
  else_fits n no_else rest sound fits = fits
  else_fits n (one_else c) rest sound fits = line_fits n _ (else_clause_fits n c _ sound fits)

  switch_fits : (n : ℕ) (s : SwitchStatement) (rest : List Piece) → IsSoundSwitch s → Fits rest
      → Fits (switch_pieces n s rest)
  switch_fits n (switch e body_attributes cs) rest sound fits = (
    keyword_fits _ refl refl,
    node_fits e _ sound.0 refl (attribute_lines_fit n body_attributes _ sound.1 (
      left_brace_fits _,
      line_fits n _ (clauses_fits (suc n) four (λ r g. g) cs _ sound.2 (closed_line n
          (sign (codes "}") SymBraceRight rest)) (line_fits n _ (right_brace_fits _, fits))),
    )),
  )

  clauses_fits : (n : ℕ) (start : Puts) → ((rest : List Piece) → Fits rest → Fits (start rest))
      → (s : SwitchClauses) (rest : List Piece) → AreSoundClauses s → Closed (render rest)
      → Fits rest → Fits (clauses_pieces n start s rest)
  clauses_fits n start starts no_clauses rest sound closed fits = fits
  clauses_fits n start starts (clause_before c cs) rest sound closed fits = starts _
      (switch_clause_fits n c _ sound.0 (clauses_fits n (line n) (line_fits n) cs rest sound.1 closed fits))

  switch_clause_fits : (n : ℕ) (s : SwitchClause) (rest : List Piece) → IsSoundClause s → Fits rest
      → Fits (switch_clause_pieces n s rest)
  switch_clause_fits n (switch_clause attributes selectors block) rest sound fits =
      attribute_lines_fit n attributes _ sound.0
      (keyword_fits _ refl refl, selectors_fit selectors _ sound.1 refl (compound_fits n block _ sound.2 fits))

  opened_fits : (n : ℕ) (s : CompoundStatement) (rest : List Piece) → IsSoundCompound s → Fits rest
      → Fits (opened_pieces n s rest)
  opened_fits n (compound_statement attributes statements) rest sound fits =
      attribute_lines_fit n attributes _ sound.0 (
        left_brace_fits _,
        line_fits n _ (statements_fits (suc n) four (λ r g. g) statements _ sound.1
            (closed_line n rest) (line_fits n _ fits)),
      )

  loop_fits : (n : ℕ) (s : LoopStatement) (rest : List Piece) → IsSoundLoop s → Fits rest → Fits (loop_pieces n s rest)
  loop_fits n (repeat body last) rest sound fits = (
    keyword_fits _ refl refl,
    opened_fits n body _ sound.0 (maybe_continuing_fits n last _ sound.1 (right_brace_fits _, fits)),
  )

  maybe_continuing_fits : (n : ℕ) (s : MaybeContinuing) (rest : List Piece)
      → IsSoundMaybeContinuing s → Fits rest → Fits (maybe_continuing_pieces n s rest)
  maybe_continuing_fits n no_continuing rest sound fits = fits
  maybe_continuing_fits n (one_continuing c) rest sound fits = continuing_fits (suc n) c _ sound (line_fits n _ fits)

  continuing_fits : (n : ℕ) (s : ContinuingStatement) (rest : List Piece) → IsSoundContinuing s
      → Fits rest → Fits (continuing_pieces n s rest)
  continuing_fits n (continuing attributes body condition) rest sound fits =
      attribute_lines_fit n attributes _ sound.0 (
        keyword_fits _ refl refl,
        opened_fits n body _ sound.1 (break_if_fits n condition _ sound.2 (right_brace_fits _, fits)),
      )

  for_fits : (n : ℕ) (s : ForStatement) (rest : List Piece) → IsSoundFor s → Fits rest → Fits (for_pieces n s rest)
  for_fits n (repeat_for init condition update block) rest sound fits = (
    keyword_fits _ refl refl,
    (
      left_paren_fits _,
      part_fits n init _ sound.0 (closed_by_semicolon (space ∷ optional_pieces expression_node_pieces
          condition (sign (codes ";") SymSemicolon (space ∷ part_pieces n update
          (sign (codes ")") SymParenRight (space ∷ compound_pieces n block rest)))))) (
            semicolon_fits _,
            condition_fits condition _ sound.1 (closed_by_semicolon (space ∷ part_pieces n update
                (sign (codes ")") SymParenRight (space ∷ compound_pieces n block rest)))) (
                  semicolon_fits _,
                  part_fits n update _ sound.2 (closed_by_paren (space ∷ compound_pieces n block rest))
                      (right_paren_fits _, compound_fits n block _ sound.3 fits),
                ),
          ),
    ),
  )

  part_fits : (n : ℕ) (s : MaybeStatement) (rest : List Piece) → IsSoundPart s
      → Closed (render rest) → Fits rest → Fits (part_pieces n s rest)
  part_fits n no_statement rest sound closed fits = fits
  part_fits n (one_statement (statement_node s span)) rest sound closed fits = unended_fits n s _ sound closed fits

  while_fits : (n : ℕ) (s : WhileStatement) (rest : List Piece) → IsSoundWhile s → Fits rest
      → Fits (while_pieces n s rest)
  while_fits n (repeat_while e block) rest sound fits =
      (keyword_fits _ refl refl, node_fits e _ sound.0 refl (compound_fits n block _ sound.1 fits))
