use Rattle.std.proofs.Common.{rules, ◌≡◌, refl, sym, ap, ◌∙◌, Bool, true, false, ℕ, List, ◌+◌, ◌++◌, codes, take, map, Option}
use Rattle.std.proofs.lemmas.List.{take_all, append_assoc}
use Rattle.std.specs.Option.{option_map}
use Rattle.wgsl_model.specs.Printed.Joining.{joined}
use Rattle.wgsl_model.specs.Trees.Statements.{else_of, clauses_of, continuing_of, maybe_statement}
use Rattle.wgsl_model.specs.Printed.Statements.{is_void, unended, unended_part, print_statement, statement_texts, clause_texts, print_switch_clause, print_continuing, print_else, print_compound, print_while, continuing_line}
use Rattle.wgsl_span.specs.Spanned.{spanned_node}
use Rattle.wgsl_span.specs.declared.Spanned.{Spanned}
use Rattle.wgsl_writer.specs.LineEnds.{is_one_line}
use Rattle.wgsl_writer.proofs.Through.{wrote_nothing, wrote_of_eq}
use Rattle.wgsl_writer.proofs.Within.{begun_filled, wrote_within}
use Rattle.wgsl_model.specs.Printed.Declarations.{print_attributed, print_selector}
use Rattle.wgsl_model.specs.Printed.Attributes.{print_attribute_line}
use Rattle.wgsl_model.specs.Printed.Expressions.{print_expression_node}
use Rattle.wgsl_tree_attribute.specs.View.{attributes_view}
use Rattle.wgsl_tree_expression.specs.View.{expression_node_view}
use Rattle.wgsl_model.proofs.Filled.{statement_filled, clause_filled, continuing_filled}
use Rattle.wgsl_tree_simple.specs.declared.case_selector.CaseSelector.{CaseSelector}
use Rattle.wgsl_tree_statement.specs.declared.statement.Statement.{Statement}
use Rattle.wgsl_tree_statement.specs.declared.else_clause.ElseClause.{ElseClause}
use Rattle.wgsl_tree_statement.specs.declared.switch.SwitchClause.{SwitchClause}
use Rattle.wgsl_tree_statement.specs.declared.continuing.ContinuingStatement.{ContinuingStatement}
use Rattle.wgsl_tree_simple.specs.View.{selector_view}
use Rattle.wgsl_tree_statement.specs.View.{statement_view, statement_node_view, statement_nodes_view, compound_statement_view, else_clause_view, switch_clause_view, continuing_statement_view}
use Rattle.wgsl_tree_statement.proofs.Views.{is_empty, is_compound, compound_statement_out, if_statement_out, switch_statement_out, switch_clause_out, loop_statement_out, for_statement_out, while_statement_out, if_clause_out, else_if_clause_out, else_clause_out, continuing_statement_out}
use Rattle.wgsl_tree_statement.proofs.BlockStatements.{block_unended}
use Rattle.wgsl_tree_simple.proofs.Blocks.{is_nil, not_nil, before_line, block_lines, block_more, statements_filled, clauses_filled}
use Rattle.wgsl_tree_simple.proofs.Pieces.{compound_is, continuing_is, else_clause_is, else_if_clause_is, end_one_line, for_is, if_clause_is, if_is, loop_is, opened_is, statement_is, switch_clause_is, switch_is}
use Rattle.wgsl_tree_simple.proofs.Writes.{◌▸◌}
use Rattle.wgsl_tree_statement.proofs.Lines.{statement_lines, empty_more, statement_more, clause_lines, clause_more, else_if_text, else_if_more}
use Rattle.wgsl_tree_statement.specs.declared.statement.Statement.TheViews as layers
use Rattle.wgsl_tree_statement.proofs.+printing.Goals as goal

-- the statements, one by one

pub statement::write_unended-returns-in-Void : goal.statement::write_unended-returns-in-Void
statement::write_unended-returns-in-Void g t c =
    λ ok. wrote_of_eq _ _ _ _ _ (sym (ap (λ (s : Statement). unended (statement_view s)) c.in-Void.is
    ∙ ap unended is_empty)) (wrote_nothing g.W.Write.write_str_gives _)

pub statement::write_unended-returns-in-Compound : goal.statement::write_unended-returns-in-Compound
statement::write_unended-returns-in-Compound g t c =
    let e = ap (λ (s : Statement). unended (statement_view s)) c.in-Compound.is ∙ ap unended
    (is_compound _) ∙ block_unended (compound_statement_view c.in-Compound.inner) in search rules

-- texts one after another

pub statement::write_statement-write_piece-requires : goal.statement::write_statement-write_piece-requires
statement::write_statement-write_piece-requires g t c = ap is_one_line c.end.ensures
    ∙ end_one_line (statement_view c.args.statement.now)

pub statement::write_statement-returns : goal.statement::write_statement-returns
statement::write_statement-returns g t c = λ ok.
    wrote_of_eq _ _ _ _ _ (statement_is (statement_view c.args.statement.now) _ c.end.ensures)
    (c.in_ok-write_unended.ensures refl
    ▸ c.write_piece.ensures ok)

pub compound::write_compound-returns : goal.compound::write_compound-returns
compound::write_compound-returns g t c = λ ok.
    wrote_of_eq _ _ _ _ _ (compound_is (compound_statement_view c.args.block.now))
    (c.in_ok-write_opened.ensures refl
    ▸ c.write_piece.ensures ok)

pub if_statement::write_if_clause-returns : goal.if_statement::write_if_clause-returns
if_statement::write_if_clause-returns g t c = λ ok.
    wrote_of_eq _ _ _ _ _ (if_clause_is _ _ _ (if_clause_out c.args.clause.now))
    (c.in_ok-write_head.ensures refl
    ▸ c.write_compound.ensures ok)

pub else_clause::write_else_if_clause-returns : goal.else_clause::write_else_if_clause-returns
else_clause::write_else_if_clause-returns g t c = λ ok.
    wrote_of_eq _ _ _ _ _ (else_if_clause_is _ _ _ _ (else_if_clause_out c.args.clause.now))
    (c.in_ok-write_attribute_line.ensures refl
    ▸ c.in_ok-write_head.ensures refl
    ▸ c.write_compound.ensures ok)

pub else_clause::write_else_clause-returns : goal.else_clause::write_else_clause-returns
else_clause::write_else_clause-returns g t c = λ ok.
    wrote_of_eq _ _ _ _ _ (else_clause_is _ _ _ (else_clause_out c.args.clause.now))
    (c.in_ok-write_start.ensures refl
    ▸ c.write_compound.ensures ok)

pub switch::write_switch_clause-returns : goal.switch::write_switch_clause-returns
switch::write_switch_clause-returns g t c = λ ok.
    wrote_of_eq _ _ _ _ _ (switch_clause_is _ _ _ _ (switch_clause_out c.args.clause.now))
    (c.in_ok-write_attribute_line.ensures refl
    ▸ wrote_of_eq _ _ _ _ _ (ap (λ (xs : List CaseSelector). codes "case " ++ joined (codes ", ")
    (map print_selector (map selector_view xs)) ++ codes " ") c.deref.ensures.value) (c.in_ok-write_case.ensures refl)
    ▸ c.write_compound.ensures ok)

pub continuing::write_continuing-returns : goal.continuing::write_continuing-returns
continuing::write_continuing-returns g t c = λ ok.
    wrote_of_eq _ _ _ _ _ (continuing_is _ _ _ _ (continuing_statement_out c.args.statement.now))
    (c.in_ok-write_start.ensures refl
    ▸ c.in_ok-write_opened.ensures refl
    ▸ c.in_ok-write_break_if.ensures refl
    ▸ c.write_piece.ensures ok)

pub for_statement::write_for-returns : goal.for_statement::write_for-returns
for_statement::write_for-returns g t c = λ ok.
    wrote_of_eq _ _ _ _ _ (for_is _ _ _ _ _ _ (for_statement_out c.args.statement.now))
    (c.in_ok-write_start.ensures refl
    ▸ c.in_ok-write_part.ensures refl
    ▸ c.in_ok-write_condition.ensures refl
    ▸ c.in_ok-write_part-2.ensures refl
    ▸ c.in_ok-write_piece.ensures refl
    ▸ c.write_compound.ensures ok)

-- an expression and a block after a word
headed_is : (line word e block : List ℕ)
    → line ++ (word ++ e ++ codes " ") ++ block ≡ line ++ (word ++ e ++ codes " " ++ block)
headed_is line word e block = simp append_assoc

pub while_statement::write_while-returns : goal.while_statement::write_while-returns
while_statement::write_while-returns g t c = λ ok.
    let statement = layers.out-WhileStatement c.args.statement.now in
    let line = print_attribute_line (attributes_view statement.attributes.items) in
    let condition = print_expression_node (expression_node_view statement.condition) in
    let block = print_compound (compound_statement_view statement.body) in
    wrote_of_eq _ _ _ _ _ (headed_is line (codes "while ") condition block
    ∙ sym (ap (λ s. print_attributed print_while s) (while_statement_out c.args.statement.now)))
    (c.in_ok-write_attribute_line.ensures refl
    ▸ c.in_ok-write_head.ensures refl
    ▸ c.write_compound.ensures ok)

-- parts that may be left out

abbrev continuing_text : Option ContinuingStatement → List ℕ
continuing_text o = continuing_line (continuing_of (option_map continuing_statement_view o))

pub loop_statement::write_loop-returns-in-None : goal.loop_statement::write_loop-returns-in-None
loop_statement::write_loop-returns-in-None g t c = λ ok.
    wrote_of_eq _ _ _ _ _ (loop_is _ _ _ _ (loop_statement_out c.args.statement.now))
    (c.in_ok-write_start.ensures refl
    ▸ c.in_ok-write_opened.ensures refl
    ▸ wrote_of_eq _ _ _ _ _ (sym (ap continuing_text c.in-None.is)) (wrote_nothing g.W.Write.write_str_gives _)
    ▸ c.write_piece.ensures ok)

pub loop_statement::write_loop-returns-in_ok-write_line_end-in-Some :
    goal.loop_statement::write_loop-returns-in_ok-write_line_end-in-Some
loop_statement::write_loop-returns-in_ok-write_line_end-in-Some g t c = λ ok.
    let last = continuing_statement_view c.in-Some.continuing in
    let lines = print_continuing last in
    wrote_of_eq _ _ _ _ _ (loop_is _ _ _ _ (loop_statement_out c.args.statement.now))
    (c.in_ok-write_start.ensures refl
    ▸ c.in_ok-write_opened.ensures refl
    ▸ wrote_of_eq _ _ _ _ _ (sym (ap continuing_text c.in-Some.is))
    (wrote_within g.W.Write.write_str_gives _ _ _ _ lines (c.in_ok-indent-in-Some.ensures refl)
    (wrote_of_eq _ _ _ _ _ (begun_filled lines (continuing_filled last))
    (c.in_ok-write_piece-in-Some.ensures refl ▸ c.in_ok-write_continuing-in-Some.ensures refl))
    c.unindent.ensures
    ▸ c.in_ok-write_line_end-in-Some.ensures refl)
    ▸ c.write_piece-in-Some-2.ensures ok)

-- loops over statements and clauses

pub if_statement::write_if-clauses-init : goal.if_statement::write_if-clauses-init
if_statement::write_if-clauses-init g t c = wrote_nothing g.W.Write.write_str_gives _

pub if_statement::write_if-clauses-preserved : goal.if_statement::write_if-clauses-preserved
if_statement::write_if-clauses-preserved g t c =
    let items = c.deref-clause-items.result.now in
    wrote_of_eq _ _ _ _ _
    (else_if_more items c.clauses.clause-index c.clause-item.result (search rules) c.clause-item.is)
    (c.clauses.invariant ▸ (c.in_ok-write_line_end.ensures refl ▸ c.in_ok-write_else_if_clause.ensures refl))

pub compound::write_opened-statements-init : goal.compound::write_opened-statements-init
compound::write_opened-statements-init g t c = (refl, wrote_nothing g.W.Write.write_str_gives _)

pub compound::write_opened-statements-preserved-then-is_void :
    goal.compound::write_opened-statements-preserved-then-is_void
compound::write_opened-statements-preserved-then-is_void g t c =
    let items = c.deref-statement-items.result.now in
    let item = c.statement-item.result in
    let empty : is_void (statement_view (spanned_node item)) ≡ true = sym (c.is_void.ensures
    ∙ ap (λ (s : Statement). is_void (statement_view s)) c.node.ensures) ∙ c.if-is_void.true in
    let same = empty_more items c.statements.statement-index item (search rules) c.statement-item.is empty in (
      c.statements.invariant.0 ∙ ap is_nil same,
      wrote_of_eq _ _ _ _ _ (ap (block_lines (codes "\n")) same) c.statements.invariant.1,
    )

pub compound::write_opened-statements-preserved : goal.compound::write_opened-statements-preserved
compound::write_opened-statements-preserved g t c =
    let end = codes "\n" in
    let items = c.deref-statement-items.result.now in
    let item = c.statement-item.result in
    let before = take c.statements.statement-index items in
    let lines = statement_lines before in
    let full : is_void (statement_view (spanned_node item)) ≡ false = sym (c.is_void.ensures
    ∙ ap (λ (s : Statement). is_void (statement_view s)) c.node.ensures) ∙ c.if-is_void.false in
    let same = statement_more items c.statements.statement-index item (search rules) c.statement-item.is full in
    let written : block_lines end lines ++ before_line end c.statements.first
    ++ print_statement (statement_view c.node-in-statements.result.now)
    ≡ block_lines end (statement_lines (take (c.statements.statement-index + 1) items)) =
    ap (λ (b : Bool). block_lines end lines ++ before_line end b
    ++ print_statement (statement_view c.node-in-statements.result.now)) c.statements.invariant.0
    ∙ ap (λ (s : Statement). block_lines end lines ++ before_line end (is_nil lines)
    ++ print_statement (statement_view s)) c.node-in-statements.ensures
    ∙ block_more end lines (print_statement (statement_view (spanned_node item))) (statements_filled
    (statement_nodes_view before)) (statement_filled (statement_view (spanned_node item)) full)
    ∙ ap (block_lines end) same in (
      not_nil lines (print_statement (statement_view (spanned_node item))) ∙ ap is_nil same,
      wrote_of_eq _ _ _ _ _ written
          (c.statements.invariant.1 ▸ c.in_ok-write_gap.ensures refl ▸ c.in_ok-write_statement.ensures refl),
    )

pub switch::write_switch-clauses-init : goal.switch::write_switch-clauses-init
switch::write_switch-clauses-init g t c = (refl, wrote_nothing g.W.Write.write_str_gives _)

pub switch::write_switch-clauses-preserved : goal.switch::write_switch-clauses-preserved
switch::write_switch-clauses-preserved g t c =
    let end = codes "\n" in
    let items = c.deref-clause-items.result.now in
    let item = c.clause-item.result in
    let before = take c.clauses.clause-index items in
    let lines = clause_lines before in
    let text = print_switch_clause (switch_clause_view item) in
    let same = clause_more items c.clauses.clause-index item (search rules) c.clause-item.is in
    let written : block_lines end lines ++ before_line end c.clauses.first ++ text
    ≡ block_lines end (clause_lines (take (c.clauses.clause-index + 1) items)) =
    ap (λ (b : Bool). block_lines end lines ++ before_line end b ++ text) c.clauses.invariant.0
    ∙ block_more end lines text (clauses_filled (clauses_of (map switch_clause_view before)))
    (clause_filled (switch_clause_view item))
    ∙ ap (block_lines end) same in (
      not_nil lines text ∙ ap is_nil same,
      wrote_of_eq _ _ _ _ _ written
          (c.clauses.invariant.1 ▸ c.in_ok-write_gap.ensures refl ▸ c.in_ok-write_switch_clause.ensures refl),
    )

pub compound::write_opened-returns : goal.compound::write_opened-returns
compound::write_opened-returns g t c = λ ok.
    let nodes = statement_nodes_view (layers.out-CompoundStatement c.args.block.now).statements.items in
    let all = take_all _ c.deref-statement-items.result.now c.statements-test.false
    ∙ c.deref-statement-items.ensures.value in
    wrote_of_eq _ _ _ _ _ (opened_is _ _ _ (compound_statement_out c.args.block.now))
    (c.in_ok-write_open.ensures refl
    ▸ wrote_within g.W.Write.write_str_gives _ _ _ _ (joined (codes "\n") (statement_texts nodes))
    (c.in_ok-indent.ensures refl)
    (wrote_of_eq _ _ _ _ _ (ap (λ (xs : List (Spanned Statement)). block_lines (codes "\n")
    (statement_lines xs)) all) c.statements.invariant.1)
    c.unindent.ensures
    ▸ c.write_line_end.ensures ok)

abbrev else_text : Option ElseClause → List ℕ
else_text o = print_else (else_of (option_map else_clause_view o))

pub if_statement::write_if-returns-in-None : goal.if_statement::write_if-returns-in-None
if_statement::write_if-returns-in-None g t c = λ ok.
    let all = take_all _ c.deref-clause-items.result.now c.clauses-test.false ∙ c.deref-clause-items.ensures.value in
    wrote_of_eq _ _ _ _ _ (if_is _ _ _ _ _ (if_statement_out c.args.statement.now))
    (c.in_ok-write_attribute_line.ensures refl
    ▸ c.in_ok-write_if_clause.ensures refl
    ▸ wrote_of_eq _ _ _ _ _ (ap else_if_text all) c.clauses.invariant
    ▸ wrote_of_eq _ _ _ _ _ (sym (ap else_text c.in-None.is)) (wrote_nothing g.W.Write.write_str_gives _))

pub if_statement::write_if-returns-in_ok-write_line_end-in-Some :
    goal.if_statement::write_if-returns-in_ok-write_line_end-in-Some
if_statement::write_if-returns-in_ok-write_line_end-in-Some g t c = λ ok.
    let all = take_all _ c.deref-clause-items.result.now c.clauses-test.false ∙ c.deref-clause-items.ensures.value in
    wrote_of_eq _ _ _ _ _ (if_is _ _ _ _ _ (if_statement_out c.args.statement.now))
    (c.in_ok-write_attribute_line.ensures refl
    ▸ c.in_ok-write_if_clause.ensures refl
    ▸ wrote_of_eq _ _ _ _ _ (ap else_if_text all) c.clauses.invariant
    ▸ wrote_of_eq _ _ _ _ _ (sym (ap else_text c.in-Some.is))
    (c.in_ok-write_line_end-in-Some.ensures refl
    ▸ c.write_else_clause.ensures ok))

pub switch::write_switch-returns : goal.switch::write_switch-returns
switch::write_switch-returns g t c = λ ok.
    let clauses = clauses_of (map switch_clause_view (layers.out-SwitchStatement c.args.statement.now).clauses.items) in
    let all = take_all _ c.deref-clause-items.result.now c.clauses-test.false ∙ c.deref-clause-items.ensures.value in
    wrote_of_eq _ _ _ _ _ (switch_is _ _ _ _ _ (switch_statement_out c.args.statement.now))
    (c.in_ok-write_attribute_line.ensures refl
    ▸ c.in_ok-write_head.ensures refl
    ▸ c.in_ok-write_open.ensures refl
    ▸ wrote_within g.W.Write.write_str_gives _ _ _ _ (joined (codes "\n") (clause_texts clauses))
    (c.in_ok-indent.ensures refl)
    (wrote_of_eq _ _ _ _ _ (ap (λ (xs : List SwitchClause). block_lines (codes "\n")
    (clause_lines xs)) all) c.clauses.invariant.1)
    c.unindent.ensures
    ▸ c.in_ok-write_line_end.ensures refl
    ▸ c.write_piece.ensures ok)

-- a part of a `for` header

abbrev part_text : Option (Spanned Statement) → List ℕ
part_text p = unended_part (maybe_statement (option_map statement_node_view p))

pub for_statement::write_part-returns-in-None : goal.for_statement::write_part-returns-in-None
for_statement::write_part-returns-in-None g t c =
    λ ok. wrote_of_eq _ _ _ _ _ (sym (ap part_text c.in-None.is)) (wrote_nothing g.W.Write.write_str_gives _)

pub for_statement::write_part-returns-in-Some : goal.for_statement::write_part-returns-in-Some
for_statement::write_part-returns-in-Some g t c = λ ok.
    wrote_of_eq _ _ _ _ _ (ap (λ (s : Statement). unended (statement_view s)) c.node.ensures
    ∙ sym (ap part_text c.in-Some.is)) (c.write_unended.ensures ok)
