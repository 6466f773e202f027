-- What the packed forms of statements print.
use Rattle.std.proofs.Common.{ℕ, refl, sym, List, [], ◌∷◌, ◌++◌, map, Option, Some, None, codes, append_assoc, append-nil}
use Rattle.wgsl_model.specs.Trees.Attributed.{Attributed}
use Rattle.wgsl_model.specs.Trees.Attributes.{Attributes}
use Rattle.wgsl_model.specs.Trees.Expressions.{ExpressionNode}
use Rattle.wgsl_model.specs.Trees.Statements.{BreakIfStatement, AssignmentStatement, CaseSelector, Statement, statement, UnattributedStatement, void, compound, assignment, increment, decrement, if_statement, switch_statement, loop_statement, for_statement, while_statement, break_statement, continue_statement, discard_statement, return_statement, function_call_statement, const_assert, declaration, statement_node, StatementNodes, no_statements, statement_before, CompoundStatement, compound_statement, IfStatement, if_else, IfClause, if_clause, ElseIfClause, else_if_clause, ElseClause, else_clause, SwitchStatement, switch, SwitchClause, switch_clause, LoopStatement, repeat, ContinuingStatement, continuing, ForStatement, repeat_for, WhileStatement, repeat_while, ElseIfClauses, no_else_ifs, else_if_before, MaybeElseClause, no_else, one_else, SwitchClauses, no_clauses, clause_before, MaybeContinuing, no_continuing, one_continuing, MaybeStatement, no_statement, one_statement}
use Rattle.wgsl_model.specs.Printed.Operators.{assignment_operator_text}
use Rattle.wgsl_model.specs.Printed.Joining.{joined}
use Rattle.wgsl_model.specs.Printed.Attributes.{print_attribute_line}
use Rattle.wgsl_model.specs.Printed.Declarations.{unended_assignment, print_condition, print_returned, print_selector}
use Rattle.wgsl_model.specs.Printed.Statements.{is_void, print_statement, unended, unended_unattributed, statement_texts, clause_texts, braced, break_if_line, print_compound, print_opened, print_if, print_if_clause, print_else_if_clause, print_else_ifs, print_else_clause, print_else, print_switch, print_switch_clause, print_loop, continuing_line, print_continuing, print_for, unended_part, print_while}
use Rattle.wgsl_model.proofs.Filled.{left_filled, right_filled, clause_filled, continuing_filled}
use Rattle.wgsl_model_packed.specs.Rules.{nothing_rule, parts_rule, part_rule, ended_rule, node_rule, returned_rule, indented_line_rule, block_end_rule, empty_end_rule}
use Rattle.wgsl_model_packed.specs.Expressions.{packed_expression_node, packed_optional, packed_list}
use Rattle.wgsl_model_packed.specs.Statements.{end_of_clauses, ended, packed_assignment, packed_break_if, packed_selector, packed_unended, packed_after, packed_statement, packed_in, packed_compound, packed_opened, packed_if, packed_if_clause, packed_else_ifs, packed_else_if_clause, packed_else, packed_else_clause, packed_switch, packed_clauses, packed_switch_clause, packed_loop, packed_maybe_continuing, packed_continuing, packed_for, packed_part, packed_while}
use Rattle.wgsl_theory_packed.specs.Shown.{Shows}
use Rattle.wgsl_theory_packed.proofs.Shown.{◌▸◌, ◌before◌, last, last_closed, in_turn, shown_as, shown_closed, shown_line, shown_plain, shown_span, shown_text, shown_rule}
use Rattle.wgsl_theory_packed.proofs.Lists.{shown_none, shows_optional, shows_list}
use Rattle.wgsl_theory_packed.proofs.Expressions.{shows_expression_node, shows_call}
use Rattle.wgsl_theory_packed.proofs.Attributes.{shows_attribute_line}
use Rattle.wgsl_theory_packed.proofs.Declarations.{shows_declaration, shows_break_if, shows_selector}
use Rattle.wgsl_theory_packed.proofs.Blocks.{Body, body_more, shown_lines, shown_no_lines, lines_of, shown_block, shown_indented, block_ends, empty_ends, closes_block, closes_opened, one_item}

-- what may be left out
shows_returned : {d : ℕ} (e : Option ExpressionNode)
    → Shows d (codes "$") (packed_optional returned_rule packed_expression_node e) (print_returned e)
shows_returned = shows_optional returned_rule print_returned refl refl
    (λ e. shown_plain (codes " ") refl ▸ shows_expression_node e)

shows_condition : {d : ℕ} (e : Option ExpressionNode)
    → Shows d (codes "$") (packed_optional node_rule packed_expression_node e) (print_condition e)
shows_condition = shows_optional node_rule print_condition refl refl shows_expression_node

shows_break_if_line : {d : ℕ} (b : Option (Attributed BreakIfStatement))
    → Shows d (codes "$") (packed_optional indented_line_rule packed_break_if b) (break_if_line b)
shows_break_if_line None = shown_none
shows_break_if_line (Some b) =
    shown_indented (right_filled (print_attribute_line b.attributes) _ tt) (shows_break_if b)

-- what clauses select
shows_selectors : {d : ℕ} (ss : List CaseSelector)
    → Shows d (codes "$") (packed_list nothing_rule parts_rule part_rule packed_selector ss)
    (joined (codes ", ") (map print_selector ss))
shows_selectors =
    shows_list parts_rule part_rule (codes ", ") refl refl (shown_plain (codes ", ") refl) shows_selector

pub shows_assignment : {d : ℕ} (a : AssignmentStatement)
    → Shows d (codes "%$ # %$") (packed_assignment a) (unended_assignment a)
shows_assignment a = in_turn (shows_expression_node a.lhs before shown_plain (codes " ") refl
    before shown_text (assignment_operator_text a.operator) before shown_plain (codes " ") refl
    before last (shows_expression_node a.rhs))

-- the `;` that ends a statement
unterminated : {d : ℕ} {form text : List ℕ} → Shows d (codes "$") form text → Shows d (codes "$") form (text ++ [])
unterminated {text = text} s = shown_as (sym (append-nil text)) s

terminated : {d : ℕ} {form text : List ℕ} → Shows d (codes "$") form text
    → Shows d (codes "$") (ended_rule ∷ form) (text ++ codes ";")
terminated s = shown_rule refl (shown_closed s (shown_plain (codes ";") refl))

shows_ended : {d : ℕ} (attributes : Attributes) (s : UnattributedStatement) {form : List ℕ}
    → Shows d (codes "$") form (unended (statement attributes s))
    → Shows d (codes "$") (ended s form) (print_statement (statement attributes s))
shows_ended attributes (compound ss) shows = unterminated shows
shows_ended attributes (if_statement s) shows = unterminated shows
shows_ended attributes (switch_statement s) shows = unterminated shows
shows_ended attributes (loop_statement s) shows = unterminated shows
shows_ended attributes (for_statement s) shows = unterminated shows
shows_ended attributes (while_statement s) shows = unterminated shows
shows_ended attributes s shows = terminated shows

-- clauses in braces
shown_clauses : {d : ℕ} (cs : SwitchClauses)
    → ((end : ℕ) (ending : List ℕ) → Body d (end ∷ []) [] ending
    → Body d (packed_clauses end cs) (lines_of (clause_texts cs)) ending)
    → Shows d (codes "{^$") (packed_clauses (end_of_clauses cs) cs) (braced (clause_texts cs))
shown_clauses no_clauses lines = shown_no_lines (lines empty_end_rule (codes "\n\n}") empty_ends)
shown_clauses (clause_before c cs) lines = shown_lines (left_filled (print_switch_clause c) _ (clause_filled c))
    (lines block_end_rule (codes "\n}") block_ends)

mutual
  pub shows_unended : {d : ℕ} (s : Statement) → Shows d (codes "$") (packed_unended s) (unended s)
  shows_unended (statement attributes s) = shows_after attributes s

  shows_after : {d : ℕ} (attributes : Attributes) (s : UnattributedStatement)
      → Shows d (codes "$") (packed_after attributes s) (print_attribute_line attributes ++ unended_unattributed s)
  shows_after attributes void = unterminated (shown_rule refl (shows_attribute_line attributes))
  shows_after {d} attributes (compound ss) = shown_rule refl (shows_attribute_line attributes
      ▸ shown_block (packed_in ss) (closes_block d ss) (λ ending b. shows_in ss b))
  shows_after attributes (assignment a) = shown_rule refl (shows_attribute_line attributes ▸ shows_assignment a)
  shows_after attributes (increment i) = shown_rule refl (shows_attribute_line attributes
      ▸ shown_closed (shows_expression_node i.expression) (shown_plain (codes "++") refl))
  shows_after attributes (decrement i) = shown_rule refl (shows_attribute_line attributes
      ▸ shown_closed (shows_expression_node i.expression) (shown_plain (codes "--") refl))
  shows_after attributes (if_statement s) = shown_rule refl (shows_attribute_line attributes ▸ shows_if s)
  shows_after attributes (switch_statement s) = shown_rule refl (shows_attribute_line attributes ▸ shows_switch s)
  shows_after attributes (loop_statement s) = shown_rule refl (shows_attribute_line attributes ▸ shows_loop s)
  shows_after attributes (for_statement s) = shown_rule refl (shows_attribute_line attributes ▸ shows_for s)
  shows_after attributes (while_statement s) = shown_rule refl (shows_attribute_line attributes ▸ shows_while s)
  shows_after attributes break_statement =
      shown_rule refl (shown_closed (shows_attribute_line attributes) (shown_plain (codes "break") refl))
  shows_after attributes continue_statement =
      shown_rule refl (shown_closed (shows_attribute_line attributes) (shown_plain (codes "continue") refl))
  shows_after attributes discard_statement =
      shown_rule refl (shown_closed (shows_attribute_line attributes) (shown_plain (codes "discard") refl))
  shows_after attributes (return_statement r) = shown_rule refl (shows_attribute_line attributes
      ▸ shown_plain (codes "return") refl ▸ shows_returned r.expression)
  shows_after attributes (function_call_statement c) =
      shown_rule refl (shows_attribute_line attributes ▸ shows_call c.call)
  shows_after attributes (const_assert c) = shown_rule refl (shows_attribute_line attributes
      ▸ shown_plain (codes "const_assert ") refl ▸ shows_expression_node c.expression)
  shows_after attributes (declaration d) =
      shown_rule refl (shows_attribute_line attributes ▸ shows_declaration d)

  pub shows_statement : {d : ℕ} (s : Statement) → Shows d (codes "$") (packed_statement s) (print_statement s)
  shows_statement (statement attributes s) = shows_ended attributes s (shows_after attributes s)

  -- what is in a block, before what ends it
  pub shows_in : {d : ℕ} {end ending : List ℕ} (ss : StatementNodes) → Body d end [] ending
      → Body d (packed_in ss ++ end) (lines_of (statement_texts ss)) ending
  shows_in no_statements b = b
  shows_in {end = end} (statement_before (statement_node s span) ss) b = one_item (packed_in ss) end (is_void s) span
      (statement_texts ss) (shows_statement s) (shows_in ss b)

  pub shows_compound : {d : ℕ} (s : CompoundStatement) → Shows d (codes "$") (packed_compound s) (print_compound s)
  shows_compound {d} (compound_statement attributes ss) = shown_rule refl (shows_attribute_line attributes
      ▸ shown_block (packed_in ss) (closes_block d ss) (λ ending b. shows_in ss b))

  pub shows_opened : {d : ℕ} (s : CompoundStatement) → Shows d (codes "$") (packed_opened s) (print_opened s)
  shows_opened {d} (compound_statement attributes ss) = simp append_assoc (shown_rule refl
      (shows_attribute_line attributes
      ▸ shown_block (packed_in ss) (closes_opened d ss) (λ ending b. shows_in ss b)))

  pub shows_if : {d : ℕ} (s : IfStatement) → Shows d (codes "$$$") (packed_if s) (print_if s)
  shows_if (if_else first others others_else) =
      in_turn (shows_if_clause first before shows_else_ifs others before last (shows_else others_else))

  pub shows_if_clause : {d : ℕ} (s : IfClause) → Shows d (codes "$") (packed_if_clause s) (print_if_clause s)
  shows_if_clause (if_clause e block) = shown_rule refl (in_turn (shown_plain (codes "if ") refl
      before shows_expression_node e before shown_plain (codes " ") refl before last (shows_compound block)))

  pub shows_else_ifs : {d : ℕ} (s : ElseIfClauses) → Shows d (codes "$") (packed_else_ifs s) (print_else_ifs s)
  shows_else_ifs no_else_ifs = shown_none
  shows_else_ifs (else_if_before c cs) = shown_rule refl (shown_line ▸ shows_else_if_clause c ▸ shows_else_ifs cs)

  pub shows_else_if_clause : {d : ℕ} (s : ElseIfClause)
      → Shows d (codes "$") (packed_else_if_clause s) (print_else_if_clause s)
  shows_else_if_clause (else_if_clause attributes e block) = shown_rule refl
      (in_turn (shows_attribute_line attributes before shown_plain (codes "else if ") refl
      before shows_expression_node e before shown_plain (codes " ") refl before last (shows_compound block)))

  pub shows_else : {d : ℕ} (s : MaybeElseClause) → Shows d (codes "$") (packed_else s) (print_else s)
  shows_else no_else = shown_none
  shows_else (one_else c) = shown_rule refl (shown_line ▸ shows_else_clause c)

  pub shows_else_clause : {d : ℕ} (s : ElseClause) → Shows d (codes "$") (packed_else_clause s) (print_else_clause s)
  shows_else_clause (else_clause attributes block) = shown_rule refl
      (in_turn (shows_attribute_line attributes before shown_plain (codes "else ") refl
      before last (shows_compound block)))

  pub shows_switch : {d : ℕ} (s : SwitchStatement)
      → Shows d (codes "switch %$ ${^$") (packed_switch s) (print_switch s)
  shows_switch (switch e body_attributes cs) = in_turn (shown_plain (codes "switch ") refl
      before shows_expression_node e before shown_plain (codes " ") refl
      before shows_attribute_line body_attributes
      before last (shown_clauses cs (λ end ending b. shows_clauses cs b)))

  shows_clauses : {d end : ℕ} {ending : List ℕ} (cs : SwitchClauses) → Body d (end ∷ []) [] ending
      → Body d (packed_clauses end cs) (lines_of (clause_texts cs)) ending
  shows_clauses no_clauses b = b
  shows_clauses (clause_before c cs) b =
      body_more {front = codes "\n$"} refl (shown_line ▸ shows_switch_clause c) (shows_clauses cs b)

  pub shows_switch_clause : {d : ℕ} (s : SwitchClause)
      → Shows d (codes "$") (packed_switch_clause s) (print_switch_clause s)
  shows_switch_clause (switch_clause attributes selectors block) = shown_rule refl
      (in_turn (shows_attribute_line attributes before shown_plain (codes "case ") refl
      before shows_selectors selectors before shown_plain (codes " ") refl before last (shows_compound block)))

  pub shows_loop : {d : ℕ} (s : LoopStatement) → Shows d (codes "loop $$}") (packed_loop s) (print_loop s)
  shows_loop (repeat body more) = in_turn (shown_plain (codes "loop ") refl before shows_opened body
      before last_closed (shows_maybe_continuing more) (shown_plain (codes "}") refl))

  shows_maybe_continuing : {d : ℕ} (s : MaybeContinuing)
      → Shows d (codes "$") (packed_maybe_continuing s) (continuing_line s)
  shows_maybe_continuing no_continuing = shown_none
  shows_maybe_continuing (one_continuing c) = shown_indented (continuing_filled c) (shows_continuing c)

  pub shows_continuing : {d : ℕ} (s : ContinuingStatement)
      → Shows d (codes "$") (packed_continuing s) (print_continuing s)
  shows_continuing (continuing attributes body condition) = shown_rule refl
      (in_turn (shows_attribute_line attributes before shown_plain (codes "continuing ") refl
      before shows_opened body
      before last_closed (shows_break_if_line condition) (shown_plain (codes "}") refl)))

  pub shows_for : {d : ℕ} (s : ForStatement) → Shows d (codes "for ($; $; $) $") (packed_for s) (print_for s)
  shows_for (repeat_for init condition update block) = in_turn (shown_plain (codes "for (") refl
      before shows_part init before shown_plain (codes "; ") refl before shows_condition condition
      before shown_plain (codes "; ") refl before shows_part update before shown_plain (codes ") ") refl
      before last (shows_compound block))

  shows_part : {d : ℕ} (s : MaybeStatement) → Shows d (codes "$") (packed_part s) (unended_part s)
  shows_part no_statement = shown_none
  shows_part (one_statement (statement_node s span)) = shown_rule refl (shown_span span ▸ shows_unended s)

  pub shows_while : {d : ℕ} (s : WhileStatement) → Shows d (codes "while %$ $") (packed_while s) (print_while s)
  shows_while (repeat_while e block) = in_turn (shown_plain (codes "while ") refl
      before shows_expression_node e before shown_plain (codes " ") refl before last (shows_compound block))
