-- Written by tools/tables/tree_equalities.py from crates/wgsl_model/nodes: `==`, part by part.
use Rattle.std.proofs.Common.{Bool, ◌&&◌, List, [], ◌∷◌, Option, map, ◌≡◌, refl, ◌∙◌, ap}
use Rattle.std.specs.Option.{option_map}
use Rattle.std.specs.declared.vec.Vec.{Vec}
use Rattle.std.specs.declared.alloc.Global.{Global}
use Rattle.wgsl_span.specs.declared.Spanned.{Spanned}
use Rattle.wgsl_model.specs.Trees.Statements.{clauses_of, continuing_of, else_ifs_of, else_of, maybe_statement}
use Rattle.wgsl_tree_code.specs.Code.{Code, attributed_code, code_before, codes_of, list, list_of, optional}
use Rattle.wgsl_tree_code.specs.Same.{same}
use Rattle.wgsl_tree_code.specs.Lists.{all_same}
use Rattle.wgsl_tree_code.specs.ExpressionNodes.{expression_node_code}
use Rattle.wgsl_tree_code.specs.AttributeNodes.{attributes_code}
use Rattle.wgsl_tree_code.specs.StatementNodes.{break_if_code, clauses_code, compound_code, continuing_code, else_clause_code, else_code, else_if_clause_code, else_ifs_code, for_code, if_clause_code, if_code, loop_code, maybe_continuing_code, part_code, selector_code, statement_node_code, statements_code, switch_clause_code, switch_code, while_code}
use Rattle.wgsl_tree_expression.specs.View.{expression_node_view}
use Rattle.wgsl_tree_attribute.specs.View.{attributes_view}
use Rattle.wgsl_tree_simple.specs.View.{break_if_view, selector_view}
use Rattle.wgsl_tree_statement.specs.View.{compound_statement_view, continuing_statement_view, else_clause_view, else_if_clause_view, for_statement_view, if_clause_view, if_statement_view, loop_statement_view, statement_node_view, statement_nodes_view, switch_clause_view, switch_statement_view, while_statement_view}
use Rattle.wgsl_tree_statement.proofs.Views.{compound_statement_out, continuing_statement_out, else_clause_out, else_if_clause_out, for_statement_out, if_clause_out, if_statement_out, loop_statement_out, switch_clause_out, switch_statement_out, while_statement_out}
use Rattle.wgsl_tree_statement.proofs.Equalities.{and_3}
use Rattle.wgsl_tree_attribute.specs.declared.attribute.Attribute.{Attribute}
use Rattle.wgsl_tree_simple.specs.declared.break_if.BreakIfStatement.{BreakIfStatement}
use Rattle.wgsl_tree_simple.specs.declared.case_selector.CaseSelector.{CaseSelector}
use Rattle.wgsl_tree_statement.specs.declared.compound.CompoundStatement.{CompoundStatement}
use Rattle.wgsl_tree_statement.specs.declared.continuing.ContinuingStatement.{ContinuingStatement}
use Rattle.wgsl_tree_statement.specs.declared.else_clause.ElseClause.{ElseClause}
use Rattle.wgsl_tree_statement.specs.declared.else_clause.ElseIfClause.{ElseIfClause}
use Rattle.wgsl_tree_expression.specs.declared.expression.Expression.{Expression}
use Rattle.wgsl_tree_statement.specs.declared.for_statement.ForStatement.{ForStatement}
use Rattle.wgsl_tree_statement.specs.declared.if_statement.IfClause.{IfClause}
use Rattle.wgsl_tree_statement.specs.declared.if_statement.IfStatement.{IfStatement}
use Rattle.wgsl_tree_statement.specs.declared.loop_statement.LoopStatement.{LoopStatement}
use Rattle.wgsl_tree_statement.specs.declared.statement.Statement.{Statement}
use Rattle.wgsl_tree_statement.specs.declared.switch.SwitchClause.{SwitchClause}
use Rattle.wgsl_tree_statement.specs.declared.switch.SwitchStatement.{SwitchStatement}
use Rattle.wgsl_tree_statement.specs.declared.while_statement.WhileStatement.{WhileStatement}
use Rattle.wgsl_tree_statement.specs.declared.statement.Statement.TheViews as layers

-- the parts, compared
abbrev pub attributes_alike : Vec (Spanned Attribute) Global → Vec (Spanned Attribute) Global → Bool
attributes_alike x y = same (attributes_code (attributes_view x.items)) (attributes_code (attributes_view y.items))

abbrev pub statements_alike : List (Spanned Statement) → List (Spanned Statement) → Bool
statements_alike x y = same (list (statements_code (statement_nodes_view x)))
    (list (statements_code (statement_nodes_view y)))

abbrev pub if_clause_alike : IfClause → IfClause → Bool
if_clause_alike x y = same (if_clause_code (if_clause_view x)) (if_clause_code (if_clause_view y))

abbrev pub else_ifs_alike : List ElseIfClause → List ElseIfClause → Bool
else_ifs_alike x y = same (list (else_ifs_code (else_ifs_of (map else_if_clause_view x))))
    (list (else_ifs_code (else_ifs_of (map else_if_clause_view y))))

abbrev pub else_alike : Option ElseClause → Option ElseClause → Bool
else_alike x y = same (else_code (else_of (option_map else_clause_view x)))
    (else_code (else_of (option_map else_clause_view y)))

abbrev pub expression_alike : Spanned Expression → Spanned Expression → Bool
expression_alike x y = same (expression_node_code (expression_node_view x))
    (expression_node_code (expression_node_view y))

abbrev pub compound_alike : CompoundStatement → CompoundStatement → Bool
compound_alike x y = same (compound_code (compound_statement_view x)) (compound_code (compound_statement_view y))

abbrev pub clauses_alike : List SwitchClause → List SwitchClause → Bool
clauses_alike x y = same (list (clauses_code (clauses_of (map switch_clause_view x))))
    (list (clauses_code (clauses_of (map switch_clause_view y))))

abbrev pub selectors_alike : Vec CaseSelector Global → Vec CaseSelector Global → Bool
selectors_alike x y = same (list_of selector_code (map selector_view x.items))
    (list_of selector_code (map selector_view y.items))

abbrev pub maybe_continuing_alike : Option ContinuingStatement → Option ContinuingStatement → Bool
maybe_continuing_alike x y =
    same (maybe_continuing_code (continuing_of (option_map continuing_statement_view x)))
    (maybe_continuing_code (continuing_of (option_map continuing_statement_view y)))

abbrev pub part_alike : Option (Spanned Statement) → Option (Spanned Statement) → Bool
part_alike x y = same (part_code (maybe_statement (option_map statement_node_view x)))
    (part_code (maybe_statement (option_map statement_node_view y)))

abbrev pub maybe_expression_alike : Option (Spanned Expression) → Option (Spanned Expression) → Bool
maybe_expression_alike x y = same (optional expression_node_code (option_map expression_node_view x))
    (optional expression_node_code (option_map expression_node_view y))

abbrev pub maybe_break_if_alike : Option BreakIfStatement → Option BreakIfStatement → Bool
maybe_break_if_alike x y = same (optional (attributed_code break_if_code) (option_map break_if_view x))
    (optional (attributed_code break_if_code) (option_map break_if_view y))

abbrev pub compound_statement_parts : CompoundStatement → CompoundStatement → Bool
compound_statement_parts n m =
    let a = layers.out-CompoundStatement n in
    let b = layers.out-CompoundStatement m in
    let part_1 = attributes_alike a.attributes b.attributes in
    let part_2 = statements_alike a.statements.items b.statements.items in
    part_1 && part_2

pub compound_statement_same : (n m : CompoundStatement)
    → same (compound_code (compound_statement_view n)) (compound_code (compound_statement_view m))
    ≡ compound_statement_parts n m
compound_statement_same n m =
    let a = layers.out-CompoundStatement n in
    let b = layers.out-CompoundStatement m in
    let part_1 = attributes_alike a.attributes b.attributes in
    let part_2 = statements_alike a.statements.items b.statements.items in
    (λ i. same (compound_code (compound_statement_out n i)) (compound_code (compound_statement_out m i)))

abbrev pub if_statement_parts : IfStatement → IfStatement → Bool
if_statement_parts n m =
    let a = layers.out-IfStatement n in
    let b = layers.out-IfStatement m in
    let part_1 = attributes_alike a.attributes b.attributes in
    let part_2 = if_clause_alike a.if_clause b.if_clause in
    let part_3 = else_ifs_alike a.else_if_clauses.items b.else_if_clauses.items in
    let part_4 = else_alike a.else_clause b.else_clause in
    ((part_1 && part_2) && part_3) && part_4

pub if_statement_same : (n m : IfStatement)
    → same (attributed_code if_code (if_statement_view n))
    (attributed_code if_code (if_statement_view m)) ≡ if_statement_parts n m
if_statement_same n m =
    let a = layers.out-IfStatement n in
    let b = layers.out-IfStatement m in
    let part_1 = attributes_alike a.attributes b.attributes in
    let part_2 = if_clause_alike a.if_clause b.if_clause in
    let part_3 = else_ifs_alike a.else_if_clauses.items b.else_if_clauses.items in
    let part_4 = else_alike a.else_clause b.else_clause in
    (λ i. same (attributed_code if_code (if_statement_out n i)) (attributed_code if_code (if_statement_out m i)))
    ∙ and_3 part_1 part_2 (part_3 && part_4) ∙ and_3 (part_1 && part_2) part_3 part_4

abbrev pub if_clause_parts : IfClause → IfClause → Bool
if_clause_parts n m =
    let a = layers.out-IfClause n in
    let b = layers.out-IfClause m in
    let part_1 = expression_alike a.expression b.expression in
    let part_2 = compound_alike a.body b.body in
    part_1 && part_2

pub if_clause_same : (n m : IfClause)
    → same (if_clause_code (if_clause_view n)) (if_clause_code (if_clause_view m)) ≡ if_clause_parts n m
if_clause_same n m =
    let a = layers.out-IfClause n in
    let b = layers.out-IfClause m in
    let part_1 = expression_alike a.expression b.expression in
    let part_2 = compound_alike a.body b.body in
    (λ i. same (if_clause_code (if_clause_out n i)) (if_clause_code (if_clause_out m i)))

abbrev pub else_if_clause_parts : ElseIfClause → ElseIfClause → Bool
else_if_clause_parts n m =
    let a = layers.out-ElseIfClause n in
    let b = layers.out-ElseIfClause m in
    let part_1 = attributes_alike a.attributes b.attributes in
    let part_2 = expression_alike a.expression b.expression in
    let part_3 = compound_alike a.body b.body in
    (part_1 && part_2) && part_3

pub else_if_clause_same : (n m : ElseIfClause)
    → same (else_if_clause_code (else_if_clause_view n)) (else_if_clause_code (else_if_clause_view m))
    ≡ else_if_clause_parts n m
else_if_clause_same n m =
    let a = layers.out-ElseIfClause n in
    let b = layers.out-ElseIfClause m in
    let part_1 = attributes_alike a.attributes b.attributes in
    let part_2 = expression_alike a.expression b.expression in
    let part_3 = compound_alike a.body b.body in
    (λ i. same (else_if_clause_code (else_if_clause_out n i)) (else_if_clause_code (else_if_clause_out m i)))
    ∙ and_3 part_1 part_2 part_3

abbrev pub else_clause_parts : ElseClause → ElseClause → Bool
else_clause_parts n m =
    let a = layers.out-ElseClause n in
    let b = layers.out-ElseClause m in
    let part_1 = attributes_alike a.attributes b.attributes in
    let part_2 = compound_alike a.body b.body in
    part_1 && part_2

pub else_clause_same : (n m : ElseClause)
    → same (else_clause_code (else_clause_view n)) (else_clause_code (else_clause_view m)) ≡ else_clause_parts n m
else_clause_same n m =
    let a = layers.out-ElseClause n in
    let b = layers.out-ElseClause m in
    let part_1 = attributes_alike a.attributes b.attributes in
    let part_2 = compound_alike a.body b.body in
    (λ i. same (else_clause_code (else_clause_out n i)) (else_clause_code (else_clause_out m i)))

abbrev pub switch_statement_parts : SwitchStatement → SwitchStatement → Bool
switch_statement_parts n m =
    let a = layers.out-SwitchStatement n in
    let b = layers.out-SwitchStatement m in
    let part_1 = attributes_alike a.attributes b.attributes in
    let part_2 = expression_alike a.expression b.expression in
    let part_3 = attributes_alike a.body_attributes b.body_attributes in
    let part_4 = clauses_alike a.clauses.items b.clauses.items in
    ((part_1 && part_2) && part_3) && part_4

pub switch_statement_same : (n m : SwitchStatement)
    → same (attributed_code switch_code (switch_statement_view n))
    (attributed_code switch_code (switch_statement_view m)) ≡ switch_statement_parts n m
switch_statement_same n m =
    let a = layers.out-SwitchStatement n in
    let b = layers.out-SwitchStatement m in
    let part_1 = attributes_alike a.attributes b.attributes in
    let part_2 = expression_alike a.expression b.expression in
    let part_3 = attributes_alike a.body_attributes b.body_attributes in
    let part_4 = clauses_alike a.clauses.items b.clauses.items in
    (λ i. same (attributed_code switch_code (switch_statement_out n i))
    (attributed_code switch_code (switch_statement_out m i)))
    ∙ and_3 part_1 part_2 (part_3 && part_4) ∙ and_3 (part_1 && part_2) part_3 part_4

abbrev pub switch_clause_parts : SwitchClause → SwitchClause → Bool
switch_clause_parts n m =
    let a = layers.out-SwitchClause n in
    let b = layers.out-SwitchClause m in
    let part_1 = attributes_alike a.attributes b.attributes in
    let part_2 = selectors_alike a.case_selectors b.case_selectors in
    let part_3 = compound_alike a.body b.body in
    (part_1 && part_2) && part_3

pub switch_clause_same : (n m : SwitchClause)
    → same (switch_clause_code (switch_clause_view n)) (switch_clause_code (switch_clause_view m))
    ≡ switch_clause_parts n m
switch_clause_same n m =
    let a = layers.out-SwitchClause n in
    let b = layers.out-SwitchClause m in
    let part_1 = attributes_alike a.attributes b.attributes in
    let part_2 = selectors_alike a.case_selectors b.case_selectors in
    let part_3 = compound_alike a.body b.body in
    (λ i. same (switch_clause_code (switch_clause_out n i)) (switch_clause_code (switch_clause_out m i)))
    ∙ and_3 part_1 part_2 part_3

abbrev pub loop_statement_parts : LoopStatement → LoopStatement → Bool
loop_statement_parts n m =
    let a = layers.out-LoopStatement n in
    let b = layers.out-LoopStatement m in
    let part_1 = attributes_alike a.attributes b.attributes in
    let part_2 = compound_alike a.body b.body in
    let part_3 = maybe_continuing_alike a.continuing b.continuing in
    (part_1 && part_2) && part_3

pub loop_statement_same : (n m : LoopStatement)
    → same (attributed_code loop_code (loop_statement_view n))
    (attributed_code loop_code (loop_statement_view m)) ≡ loop_statement_parts n m
loop_statement_same n m =
    let a = layers.out-LoopStatement n in
    let b = layers.out-LoopStatement m in
    let part_1 = attributes_alike a.attributes b.attributes in
    let part_2 = compound_alike a.body b.body in
    let part_3 = maybe_continuing_alike a.continuing b.continuing in
    (λ i. same (attributed_code loop_code (loop_statement_out n i))
    (attributed_code loop_code (loop_statement_out m i))) ∙ and_3 part_1 part_2 part_3

abbrev pub for_statement_parts : ForStatement → ForStatement → Bool
for_statement_parts n m =
    let a = layers.out-ForStatement n in
    let b = layers.out-ForStatement m in
    let part_1 = attributes_alike a.attributes b.attributes in
    let part_2 = part_alike a.initializer b.initializer in
    let part_3 = maybe_expression_alike a.condition b.condition in
    let part_4 = part_alike a.update b.update in
    let part_5 = compound_alike a.body b.body in
    (((part_1 && part_2) && part_3) && part_4) && part_5

pub for_statement_same : (n m : ForStatement)
    → same (attributed_code for_code (for_statement_view n))
    (attributed_code for_code (for_statement_view m)) ≡ for_statement_parts n m
for_statement_same n m =
    let a = layers.out-ForStatement n in
    let b = layers.out-ForStatement m in
    let part_1 = attributes_alike a.attributes b.attributes in
    let part_2 = part_alike a.initializer b.initializer in
    let part_3 = maybe_expression_alike a.condition b.condition in
    let part_4 = part_alike a.update b.update in
    let part_5 = compound_alike a.body b.body in
    (λ i. same (attributed_code for_code (for_statement_out n i)) (attributed_code for_code (for_statement_out m i)))
    ∙ and_3 part_1 part_2 (part_3 && (part_4 && part_5))
    ∙ and_3 (part_1 && part_2) part_3 (part_4 && part_5)
    ∙ and_3 ((part_1 && part_2) && part_3) part_4 part_5

abbrev pub while_statement_parts : WhileStatement → WhileStatement → Bool
while_statement_parts n m =
    let a = layers.out-WhileStatement n in
    let b = layers.out-WhileStatement m in
    let part_1 = attributes_alike a.attributes b.attributes in
    let part_2 = expression_alike a.condition b.condition in
    let part_3 = compound_alike a.body b.body in
    (part_1 && part_2) && part_3

pub while_statement_same : (n m : WhileStatement)
    → same (attributed_code while_code (while_statement_view n))
    (attributed_code while_code (while_statement_view m)) ≡ while_statement_parts n m
while_statement_same n m =
    let a = layers.out-WhileStatement n in
    let b = layers.out-WhileStatement m in
    let part_1 = attributes_alike a.attributes b.attributes in
    let part_2 = expression_alike a.condition b.condition in
    let part_3 = compound_alike a.body b.body in
    (λ i. same (attributed_code while_code (while_statement_out n i))
    (attributed_code while_code (while_statement_out m i))) ∙ and_3 part_1 part_2 part_3

abbrev pub continuing_statement_parts : ContinuingStatement → ContinuingStatement → Bool
continuing_statement_parts n m =
    let a = layers.out-ContinuingStatement n in
    let b = layers.out-ContinuingStatement m in
    let part_1 = attributes_alike a.attributes b.attributes in
    let part_2 = compound_alike a.body b.body in
    let part_3 = maybe_break_if_alike a.break_if b.break_if in
    (part_1 && part_2) && part_3

pub continuing_statement_same : (n m : ContinuingStatement)
    → same (continuing_code (continuing_statement_view n))
    (continuing_code (continuing_statement_view m)) ≡ continuing_statement_parts n m
continuing_statement_same n m =
    let a = layers.out-ContinuingStatement n in
    let b = layers.out-ContinuingStatement m in
    let part_1 = attributes_alike a.attributes b.attributes in
    let part_2 = compound_alike a.body b.body in
    let part_3 = maybe_break_if_alike a.break_if b.break_if in
    (λ i. same (continuing_code (continuing_statement_out n i)) (continuing_code (continuing_statement_out m i)))
    ∙ and_3 part_1 part_2 part_3

-- the codes of items of lists
abbrev pub statements_item : Spanned Statement → Code
statements_item x = statement_node_code (statement_node_view x)

statements_listed : (xs : List (Spanned Statement))
    → statements_code (statement_nodes_view xs) ≡ codes_of statements_item xs
statements_listed [] = refl
statements_listed (x ∷ xs) = ap (code_before (statements_item x)) (statements_listed xs)

pub statements_same : (xs ys : List (Spanned Statement))
    → statements_alike xs ys ≡ all_same statements_item xs ys
statements_same xs ys =
    λ i. same (list (statements_listed xs i)) (list (statements_listed ys i))

abbrev pub else_ifs_item : ElseIfClause → Code
else_ifs_item x = else_if_clause_code (else_if_clause_view x)

else_ifs_listed : (xs : List ElseIfClause)
    → else_ifs_code (else_ifs_of (map else_if_clause_view xs)) ≡ codes_of else_ifs_item xs
else_ifs_listed [] = refl
else_ifs_listed (x ∷ xs) = ap (code_before (else_ifs_item x)) (else_ifs_listed xs)

pub else_ifs_same : (xs ys : List ElseIfClause)
    → else_ifs_alike xs ys ≡ all_same else_ifs_item xs ys
else_ifs_same xs ys =
    λ i. same (list (else_ifs_listed xs i)) (list (else_ifs_listed ys i))

abbrev pub clauses_item : SwitchClause → Code
clauses_item x = switch_clause_code (switch_clause_view x)

clauses_listed : (xs : List SwitchClause)
    → clauses_code (clauses_of (map switch_clause_view xs)) ≡ codes_of clauses_item xs
clauses_listed [] = refl
clauses_listed (x ∷ xs) = ap (code_before (clauses_item x)) (clauses_listed xs)

pub clauses_same : (xs ys : List SwitchClause)
    → clauses_alike xs ys ≡ all_same clauses_item xs ys
clauses_same xs ys =
    λ i. same (list (clauses_listed xs i)) (list (clauses_listed ys i))
