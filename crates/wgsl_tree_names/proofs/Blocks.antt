-- What is met in a block, a `switch`, a loop and its `continuing`, by their parts.
use Rattle.std.proofs.Common.{◌≡◌, List, ◌∷◌, map, ap, ◌∙◌}
use Rattle.std.specs.Option.{option_map}
use Rattle.wgsl_model.specs.Trees.Attributed.{with_attributes}
use Rattle.wgsl_model.specs.Trees.Statements as plain
use Rattle.wgsl_model_names.specs.Names.{attributes_names, break_if_names, clauses_names, compound_names, continuing_names, loop_names, maybe, maybe_continuing_names, node_names, statements_names, switch_names}
use Rattle.wgsl_model_minify.specs.Occurrences.{Occurrence, scope_start, scope_end}
use Rattle.wgsl_span.specs.declared.Spanned.{Spanned}
use Rattle.wgsl_tree_expression.specs.View.{expression_node_view}
use Rattle.wgsl_tree_attribute.specs.View.{attributes_view}
use Rattle.wgsl_tree_attribute.specs.declared.attribute.Attribute.{Attribute}
use Rattle.wgsl_tree_simple.specs.View.{break_if_view}
use Rattle.wgsl_tree_statement.specs.View.{compound_statement_view, continuing_statement_view, loop_statement_view, statement_nodes_view, switch_clause_view, switch_statement_view}
use Rattle.wgsl_tree_statement.specs.declared.compound.CompoundStatement.{CompoundStatement}
use Rattle.wgsl_tree_statement.specs.declared.continuing.ContinuingStatement.{ContinuingStatement}
use Rattle.wgsl_tree_statement.specs.declared.loop_statement.LoopStatement.{LoopStatement}
use Rattle.wgsl_tree_statement.specs.declared.switch.SwitchStatement.{SwitchStatement}
use Rattle.wgsl_tree_statement.specs.declared.statement.Statement.TheViews as layers
use Rattle.wgsl_tree_statement.proofs.Views.{compound_statement_out, continuing_statement_out, loop_statement_out, switch_statement_out}
use Rattle.wgsl_tree_names.specs.Found.{met_before}
use Rattle.wgsl_tree_names.specs.Attributed.{attributed}

abbrev attributes_before : List (Spanned Attribute) → List Occurrence → List Occurrence
attributes_before items = met_before (attributes_names (attributes_view items))

-- a block up to the end of its scope
abbrev opened_before : CompoundStatement → List Occurrence → List Occurrence
opened_before s after = attributes_before (layers.out-CompoundStatement s).attributes.items
    (scope_start ∷ met_before (statements_names
    (statement_nodes_view (layers.out-CompoundStatement s).statements.items)) after)

pub compound_before : (s : CompoundStatement) (after : List Occurrence) →
    met_before (compound_names (compound_statement_view s)) after ≡ opened_before s (scope_end ∷ after)
compound_before s after = ap (λ b. met_before (compound_names b) after) (compound_statement_out s)

pub switch_before : (s : SwitchStatement) (after : List Occurrence) →
    met_before (attributed switch_names (switch_statement_view s)) after
    ≡ attributes_before (layers.out-SwitchStatement s).attributes.items
    (met_before (node_names (expression_node_view (layers.out-SwitchStatement s).expression))
    (attributes_before (layers.out-SwitchStatement s).body_attributes.items
    (met_before (clauses_names (plain.clauses_of
    (map switch_clause_view (layers.out-SwitchStatement s).clauses.items))) after)))
switch_before s after = ap (λ v. met_before (attributed switch_names v) after) (switch_statement_out s)

pub loop_before : (s : LoopStatement) (after : List Occurrence) →
    met_before (attributed loop_names (loop_statement_view s)) after
    ≡ attributes_before (layers.out-LoopStatement s).attributes.items
    (opened_before (layers.out-LoopStatement s).body (met_before (maybe_continuing_names
    (plain.continuing_of (option_map continuing_statement_view (layers.out-LoopStatement s).continuing)))
    (scope_end ∷ after)))
loop_before s after =
    let n = layers.out-LoopStatement s in
    ap (λ v. met_before (attributed loop_names v) after)
    (loop_statement_out s ∙ ap (λ b. with_attributes (attributes_view n.attributes.items)
    (plain.repeat b (plain.continuing_of (option_map continuing_statement_view n.continuing))))
    (compound_statement_out n.body))

pub continuing_before : (s : ContinuingStatement) (after : List Occurrence) →
    met_before (continuing_names (continuing_statement_view s)) after
    ≡ attributes_before (layers.out-ContinuingStatement s).attributes.items
    (opened_before (layers.out-ContinuingStatement s).body (met_before (maybe break_if_names
    (option_map break_if_view (layers.out-ContinuingStatement s).break_if)) (scope_end ∷ after)))
continuing_before s after =
    let n = layers.out-ContinuingStatement s in
    ap (λ v. met_before (continuing_names v) after)
    (continuing_statement_out s ∙ ap (λ b. plain.continuing (attributes_view n.attributes.items) b
    (option_map break_if_view n.break_if)) (compound_statement_out n.body))
