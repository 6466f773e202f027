-- Written by tools/tables/changed_trees.py from wgsl_model: a statement after a change. Its printed
-- text
-- is the same, and changed twice it is changed once, if that is so of the parts.
use Rattle.std.proofs.Common.{refl, ◌++◌, ◌∷◌, ◌≡◌}
use Rattle.std.specs.Prelude.{codes}
use Rattle.wgsl_model.specs.Printed.Joining.{joined}
use Rattle.wgsl_model.specs.Printed.Statements.{braced, clause_texts, continuing_line, indented_line, print_compound, print_continuing, print_else, print_else_clause, print_else_if_clause, print_else_ifs, print_for, print_if, print_if_clause, print_loop, print_opened, print_statement, print_switch, print_switch_clause, print_while, statement_texts, unended, unended_part, unended_unattributed}
use Rattle.wgsl_model.specs.Trees.StatementNodes.{changed_clauses, changed_compound, changed_continuing, changed_else, changed_else_clause, changed_else_if_clause, changed_else_ifs, changed_for, changed_if, changed_if_clause, changed_loop, changed_maybe_continuing, changed_node, changed_part, changed_statement, changed_statements, changed_switch, changed_switch_clause, changed_unattributed, changed_while}
use Rattle.wgsl_model.specs.Trees.Statements.{Change, CompoundStatement, ContinuingStatement, ElseClause, ElseIfClause, ElseIfClauses, ForStatement, IfClause, IfStatement, LoopStatement, MaybeContinuing, MaybeElseClause, MaybeStatement, Statement, StatementNode, StatementNodes, SwitchClause, SwitchClauses, SwitchStatement, UnattributedStatement, WhileStatement, clause_before, compound, compound_statement, continuing, else_clause, else_if_before, else_if_clause, for_statement, if_clause, if_else, if_statement, loop_statement, no_clauses, no_continuing, no_else, no_else_ifs, no_statement, no_statements, one_continuing, one_else, one_statement, repeat, repeat_for, repeat_while, statement, statement_before, statement_node, switch, switch_clause, switch_statement, while_statement}
use Rattle.wgsl_theory_reread.proofs.Trees.Changed.{KeepsPrint, PartsTwice, ending, one_text, one_twice}

module _ (c : Change) (keeps : KeepsPrint c) where
  pub end_kept : (s : Statement) → ending (changed_statement c s) ≡ ending s
  end_kept (statement attributes (compound x)) = refl
  end_kept (statement attributes (if_statement x)) = refl
  end_kept (statement attributes (switch_statement x)) = refl
  end_kept (statement attributes (loop_statement x)) = refl
  end_kept (statement attributes (for_statement x)) = refl
  end_kept (statement attributes (while_statement x)) = refl
  end_kept (statement attributes s) = keeps.simple_end attributes s

  mutual
    unended_kept : (s : Statement) → unended (changed_statement c s) ≡ unended s
    unended_kept (statement attributes s) = λ i. keeps.attributes attributes i ++ unended_unattributed_kept s i

    unended_unattributed_kept : (s : UnattributedStatement)
        → unended_unattributed (changed_unattributed c s) ≡ unended_unattributed s
    unended_unattributed_kept (compound ss) = λ i. braced (statement_texts_kept ss i)
    unended_unattributed_kept (if_statement s) = if_kept s
    unended_unattributed_kept (switch_statement s) = switch_kept s
    unended_unattributed_kept (loop_statement s) = loop_kept s
    unended_unattributed_kept (for_statement s) = for_kept s
    unended_unattributed_kept (while_statement s) = while_kept s
    unended_unattributed_kept s = keeps.simple s

    statement_texts_kept : (s : StatementNodes) → statement_texts (changed_statements c s) ≡ statement_texts s
    statement_texts_kept no_statements = refl
    statement_texts_kept (statement_before (statement_node s span) ss) = one_text c s (c.span span)
        (changed_statements c ss) (statement_texts ss) (c.leaves_out (statement_node s span))
        (keeps.left_out (statement_node s span)) (end_kept s)
        (λ i. unended_kept s i ++ (end_kept s i).0) (statement_texts_kept ss)

    pub compound_kept : (s : CompoundStatement) → print_compound (changed_compound c s) ≡ print_compound s
    compound_kept (compound_statement attributes statements) =
        λ i. keeps.attributes attributes i ++ braced (statement_texts_kept statements i)

    if_kept : (s : IfStatement) → print_if (changed_if c s) ≡ print_if s
    if_kept (if_else first others last) = λ i. if_clause_kept first i ++ else_ifs_kept others i ++ else_kept last i

    if_clause_kept : (s : IfClause) → print_if_clause (changed_if_clause c s) ≡ print_if_clause s
    if_clause_kept (if_clause e block) = λ i. codes "if " ++ keeps.expression e i ++ codes " " ++ compound_kept block i

    else_if_clause_kept : (s : ElseIfClause)
        → print_else_if_clause (changed_else_if_clause c s) ≡ print_else_if_clause s
    else_if_clause_kept (else_if_clause attributes e block) = λ i. keeps.attributes attributes i
        ++ codes "else if " ++ keeps.expression e i ++ codes " " ++ compound_kept block i

    else_ifs_kept : (s : ElseIfClauses) → print_else_ifs (changed_else_ifs c s) ≡ print_else_ifs s
    else_ifs_kept no_else_ifs = refl
    else_ifs_kept (else_if_before c cs) = λ i. codes "\n" ++ else_if_clause_kept c i ++ else_ifs_kept cs i

    else_clause_kept : (s : ElseClause) → print_else_clause (changed_else_clause c s) ≡ print_else_clause s
    else_clause_kept (else_clause attributes block) =
        λ i. keeps.attributes attributes i ++ codes "else " ++ compound_kept block i

    else_kept : (s : MaybeElseClause) → print_else (changed_else c s) ≡ print_else s
    else_kept no_else = refl
    else_kept (one_else c) = λ i. codes "\n" ++ else_clause_kept c i

    switch_kept : (s : SwitchStatement) → print_switch (changed_switch c s) ≡ print_switch s
    switch_kept (switch e body_attributes cs) = λ i. codes "switch " ++ keeps.expression e i
        ++ codes " " ++ keeps.attributes body_attributes i ++ braced (clause_texts_kept cs i)

    clause_texts_kept : (s : SwitchClauses) → clause_texts (changed_clauses c s) ≡ clause_texts s
    clause_texts_kept no_clauses = refl
    clause_texts_kept (clause_before c cs) = λ i. switch_clause_kept c i ∷ clause_texts_kept cs i

    switch_clause_kept : (s : SwitchClause) → print_switch_clause (changed_switch_clause c s) ≡ print_switch_clause s
    switch_clause_kept (switch_clause attributes selectors block) =
        λ i. keeps.attributes attributes i ++ codes "case "
        ++ joined (codes ", ") (keeps.selectors selectors i) ++ codes " " ++ compound_kept block i

    opened_kept : (s : CompoundStatement) → print_opened (changed_compound c s) ≡ print_opened s
    opened_kept (compound_statement attributes statements) = λ i. keeps.attributes attributes i
        ++ codes "{\n" ++ indented_line (joined (codes "\n") (statement_texts_kept statements i))

    loop_kept : (s : LoopStatement) → print_loop (changed_loop c s) ≡ print_loop s
    loop_kept (repeat body last) = λ i. codes "loop " ++ opened_kept body i ++ continuing_line_kept last i ++ codes "}"

    continuing_line_kept : (s : MaybeContinuing) → continuing_line (changed_maybe_continuing c s) ≡ continuing_line s
    continuing_line_kept no_continuing = refl
    continuing_line_kept (one_continuing c) = λ i. indented_line (continuing_kept c i)

    continuing_kept : (s : ContinuingStatement) → print_continuing (changed_continuing c s) ≡ print_continuing s
    continuing_kept (continuing attributes body condition) = λ i. keeps.attributes attributes i
        ++ codes "continuing " ++ opened_kept body i ++ keeps.break_if condition i ++ codes "}"

    for_kept : (s : ForStatement) → print_for (changed_for c s) ≡ print_for s
    for_kept (repeat_for init condition update block) =
        λ i. codes "for (" ++ unended_part_kept init i ++ codes "; " ++ keeps.condition condition i
        ++ codes "; " ++ unended_part_kept update i ++ codes ") " ++ compound_kept block i

    unended_part_kept : (s : MaybeStatement) → unended_part (changed_part c s) ≡ unended_part s
    unended_part_kept no_statement = refl
    unended_part_kept (one_statement (statement_node s span)) = unended_kept s

    while_kept : (s : WhileStatement) → print_while (changed_while c s) ≡ print_while s
    while_kept (repeat_while e block) =
        λ i. codes "while " ++ keeps.expression e i ++ codes " " ++ compound_kept block i

  pub statement_kept : (s : Statement) → print_statement (changed_statement c s) ≡ print_statement s
  statement_kept s = λ i. unended_kept s i ++ (end_kept s i).0

module _ (c : Change) (twice : PartsTwice c) where
  mutual
    pub statement_twice : (s : Statement) → changed_statement c (changed_statement c s) ≡ changed_statement c s
    statement_twice (statement attributes s) = λ i. statement (twice.attributes attributes i) (unattributed_twice s i)

    node_twice : (s : StatementNode) → changed_node c (changed_node c s) ≡ changed_node c s
    node_twice (statement_node s span) = λ i. statement_node (statement_twice s i) (twice.span span i)

    unattributed_twice : (s : UnattributedStatement)
        → changed_unattributed c (changed_unattributed c s) ≡ changed_unattributed c s
    unattributed_twice (compound x) = λ i. compound (statements_twice x i)
    unattributed_twice (if_statement x) = λ i. if_statement (if_twice x i)
    unattributed_twice (switch_statement x) = λ i. switch_statement (switch_twice x i)
    unattributed_twice (loop_statement x) = λ i. loop_statement (loop_twice x i)
    unattributed_twice (for_statement x) = λ i. for_statement (for_twice x i)
    unattributed_twice (while_statement x) = λ i. while_statement (while_twice x i)
    unattributed_twice s = twice.simple s refl

    pub compound_twice : (s : CompoundStatement) → changed_compound c (changed_compound c s) ≡ changed_compound c s
    compound_twice (compound_statement attributes statements) =
        λ i. compound_statement (twice.attributes attributes i) (statements_twice statements i)

    if_twice : (s : IfStatement) → changed_if c (changed_if c s) ≡ changed_if c s
    if_twice (if_else first_clause else_if_clauses its_else_clause) =
        λ i. if_else (if_clause_twice first_clause i) (else_ifs_twice else_if_clauses i) (else_twice its_else_clause i)

    if_clause_twice : (s : IfClause) → changed_if_clause c (changed_if_clause c s) ≡ changed_if_clause c s
    if_clause_twice (if_clause expression body) = λ i. if_clause (twice.expression expression i) (compound_twice body i)

    else_if_clause_twice : (s : ElseIfClause)
        → changed_else_if_clause c (changed_else_if_clause c s) ≡ changed_else_if_clause c s
    else_if_clause_twice (else_if_clause attributes expression body) =
        λ i. else_if_clause (twice.attributes attributes i) (twice.expression expression i) (compound_twice body i)

    else_clause_twice : (s : ElseClause) → changed_else_clause c (changed_else_clause c s) ≡ changed_else_clause c s
    else_clause_twice (else_clause attributes body) =
        λ i. else_clause (twice.attributes attributes i) (compound_twice body i)

    switch_twice : (s : SwitchStatement) → changed_switch c (changed_switch c s) ≡ changed_switch c s
    switch_twice (switch expression body_attributes clauses) =
        λ i. switch (twice.expression expression i) (twice.attributes body_attributes i) (clauses_twice clauses i)

    switch_clause_twice : (s : SwitchClause)
        → changed_switch_clause c (changed_switch_clause c s) ≡ changed_switch_clause c s
    switch_clause_twice (switch_clause attributes case_selectors body) =
        λ i. switch_clause (twice.attributes attributes i) (twice.selectors case_selectors i) (compound_twice body i)

    loop_twice : (s : LoopStatement) → changed_loop c (changed_loop c s) ≡ changed_loop c s
    loop_twice (repeat body its_continuing) =
        λ i. repeat (compound_twice body i) (maybe_continuing_twice its_continuing i)

    for_twice : (s : ForStatement) → changed_for c (changed_for c s) ≡ changed_for c s
    for_twice (repeat_for initializer condition update body) = λ i. repeat_for (part_twice initializer i)
        (twice.condition condition i) (part_twice update i) (compound_twice body i)

    while_twice : (s : WhileStatement) → changed_while c (changed_while c s) ≡ changed_while c s
    while_twice (repeat_while condition body) = λ i. repeat_while (twice.expression condition i) (compound_twice body i)

    continuing_twice : (s : ContinuingStatement)
        → changed_continuing c (changed_continuing c s) ≡ changed_continuing c s
    continuing_twice (continuing attributes body break_if) =
        λ i. continuing (twice.attributes attributes i) (compound_twice body i) (twice.break_if break_if i)

    statements_twice : (s : StatementNodes) → changed_statements c (changed_statements c s) ≡ changed_statements c s
    statements_twice no_statements = refl
    statements_twice (statement_before s ss) = one_twice c (changed_node c s) (changed_statements c ss)
        (c.leaves_out s) (twice.left_out s) (node_twice s) (statements_twice ss)

    part_twice : (s : MaybeStatement) → changed_part c (changed_part c s) ≡ changed_part c s
    part_twice no_statement = refl
    part_twice (one_statement x) = λ i. one_statement (node_twice x i)

    else_ifs_twice : (s : ElseIfClauses) → changed_else_ifs c (changed_else_ifs c s) ≡ changed_else_ifs c s
    else_ifs_twice no_else_ifs = refl
    else_ifs_twice (else_if_before x xs) = λ i. else_if_before (else_if_clause_twice x i) (else_ifs_twice xs i)

    else_twice : (s : MaybeElseClause) → changed_else c (changed_else c s) ≡ changed_else c s
    else_twice no_else = refl
    else_twice (one_else x) = λ i. one_else (else_clause_twice x i)

    clauses_twice : (s : SwitchClauses) → changed_clauses c (changed_clauses c s) ≡ changed_clauses c s
    clauses_twice no_clauses = refl
    clauses_twice (clause_before x xs) = λ i. clause_before (switch_clause_twice x i) (clauses_twice xs i)

    maybe_continuing_twice : (s : MaybeContinuing)
        → changed_maybe_continuing c (changed_maybe_continuing c s) ≡ changed_maybe_continuing c s
    maybe_continuing_twice no_continuing = refl
    maybe_continuing_twice (one_continuing x) = λ i. one_continuing (continuing_twice x i)
