-- Written by tools/tables/cycle_views.py from crates/wgsl_model/nodes: what each view is of one
-- layer, and of each variant.
use Rattle.std.proofs.Common.{List, [], ◌∷◌, Option, None, Some, map, ◌≡◌, refl, sym, ◌∙◌, ap}
use Rattle.std.specs.Option.{option_map}
use Rattle.std.specs.declared.vec.Vec.{Vec}
use Rattle.std.specs.declared.alloc.Global.{Global}
use Rattle.wgsl_span.specs.declared.Spanned.{Spanned}
use Rattle.wgsl_model.specs.Trees.Attributed.{Attributed, with_attributes}
use Rattle.wgsl_tree_expression.specs.View.{expression_node_view}
use Rattle.wgsl_tree_attribute.specs.View.{attributes_view}
use Rattle.wgsl_tree_simple.specs.View.{assert_view, assignment_view, break_if_view, break_view, call_statement_view, continue_view, declaration_view, decrement_view, discard_view, increment_view, return_view, selector_view}
use Rattle.wgsl_tree_statement.specs.View.{compound_statement_step, compound_statement_view, continuing_statement_step, continuing_statement_view, else_clause_step, else_clause_view, else_if_clause_step, else_if_clause_view, for_statement_step, for_statement_view, if_clause_step, if_clause_view, if_statement_step, if_statement_view, loop_statement_step, loop_statement_view, nodes_of, statement_node_view, statement_nodes_view, statement_step, statement_view, switch_clause_step, switch_clause_view, switch_statement_step, switch_statement_view, while_statement_step, while_statement_view}
use Rattle.wgsl_tree_simple.specs.declared.assignment.AssignmentStatement.{AssignmentStatement}
use Rattle.wgsl_tree_attribute.specs.declared.attribute.Attribute.{Attribute}
use Rattle.wgsl_tree_simple.specs.declared.single_word.BreakStatement.{BreakStatement}
use Rattle.wgsl_tree_statement.specs.declared.compound.CompoundStatement.{CompoundStatement}
use Rattle.wgsl_tree_simple.specs.declared.const_assert.ConstAssert.{ConstAssert}
use Rattle.wgsl_tree_simple.specs.declared.single_word.ContinueStatement.{ContinueStatement}
use Rattle.wgsl_tree_statement.specs.declared.continuing.ContinuingStatement.{ContinuingStatement}
use Rattle.wgsl_tree_simple.specs.declared.declaration.Declaration.{Declaration}
use Rattle.wgsl_tree_simple.specs.declared.increment.DecrementStatement.{DecrementStatement}
use Rattle.wgsl_tree_simple.specs.declared.single_word.DiscardStatement.{DiscardStatement}
use Rattle.wgsl_tree_statement.specs.declared.else_clause.ElseClause.{ElseClause}
use Rattle.wgsl_tree_statement.specs.declared.else_clause.ElseIfClause.{ElseIfClause}
use Rattle.wgsl_tree_expression.specs.declared.expression.Expression.{Expression}
use Rattle.wgsl_tree_statement.specs.declared.for_statement.ForStatement.{ForStatement}
use Rattle.wgsl_tree_simple.specs.declared.call_statement.FunctionCallStatement.{FunctionCallStatement}
use Rattle.wgsl_tree_statement.specs.declared.if_statement.IfClause.{IfClause}
use Rattle.wgsl_tree_statement.specs.declared.if_statement.IfStatement.{IfStatement}
use Rattle.wgsl_tree_simple.specs.declared.increment.IncrementStatement.{IncrementStatement}
use Rattle.wgsl_tree_statement.specs.declared.loop_statement.LoopStatement.{LoopStatement}
use Rattle.wgsl_tree_simple.specs.declared.return_statement.ReturnStatement.{ReturnStatement}
use Rattle.wgsl_tree_statement.specs.declared.statement.Statement.{Statement}
use Rattle.wgsl_tree_statement.specs.declared.switch.SwitchClause.{SwitchClause}
use Rattle.wgsl_tree_statement.specs.declared.switch.SwitchStatement.{SwitchStatement}
use Rattle.wgsl_tree_statement.specs.declared.while_statement.WhileStatement.{WhileStatement}
use Rattle.wgsl_model.specs.Trees.Statements as plain
use Rattle.wgsl_tree_statement.specs.declared.statement.Statement.TheOpen as layer
use Rattle.wgsl_tree_statement.specs.declared.statement.Statement.TheFolds as folds
use Rattle.wgsl_tree_statement.specs.declared.statement.Statement.TheViews as layers
use Rattle.wgsl_tree_statement.specs.declared.statement.Statement.TheVariants as variant
use Rattle.wgsl_tree_statement.specs.declared.statement.Statement.TheViews.{roll-Statement}
use denote.Hole.Carrier as Carrier

-- a layer of the types themselves
abbrev pub Opened : ((a b c d e f g h i j k l : Type 0) → Type 0) → Type 0
Opened F = F Statement CompoundStatement ContinuingStatement ElseClause ElseIfClause ForStatement
    IfClause IfStatement LoopStatement SwitchClause SwitchStatement WhileStatement

-- a law of all folds, for the folds that the views are
abbrev pub for_views : {R : (a b c d e f g h i j k l : Type 0)
    → (layer.Statement-F a b c d e f g h i j k l → a)
    → (layer.CompoundStatement-F a b c d e f g h i j k l → b)
    → (layer.ContinuingStatement-F a b c d e f g h i j k l → c)
    → (layer.ElseClause-F a b c d e f g h i j k l → d)
    → (layer.ElseIfClause-F a b c d e f g h i j k l → e)
    → (layer.ForStatement-F a b c d e f g h i j k l → f)
    → (layer.IfClause-F a b c d e f g h i j k l → g)
    → (layer.IfStatement-F a b c d e f g h i j k l → h)
    → (layer.LoopStatement-F a b c d e f g h i j k l → i)
    → (layer.SwitchClause-F a b c d e f g h i j k l → j)
    → (layer.SwitchStatement-F a b c d e f g h i j k l → k)
    → (layer.WhileStatement-F a b c d e f g h i j k l → l)
    → Type 0}
    → ((a b c d e f g h i j k l : Type 0)
    (in_a : layer.Statement-F a b c d e f g h i j k l → a)
    (in_b : layer.CompoundStatement-F a b c d e f g h i j k l → b)
    (in_c : layer.ContinuingStatement-F a b c d e f g h i j k l → c)
    (in_d : layer.ElseClause-F a b c d e f g h i j k l → d)
    (in_e : layer.ElseIfClause-F a b c d e f g h i j k l → e)
    (in_f : layer.ForStatement-F a b c d e f g h i j k l → f)
    (in_g : layer.IfClause-F a b c d e f g h i j k l → g)
    (in_h : layer.IfStatement-F a b c d e f g h i j k l → h)
    (in_i : layer.LoopStatement-F a b c d e f g h i j k l → i)
    (in_j : layer.SwitchClause-F a b c d e f g h i j k l → j)
    (in_k : layer.SwitchStatement-F a b c d e f g h i j k l → k)
    (in_l : layer.WhileStatement-F a b c d e f g h i j k l → l)
    → R a b c d e f g h i j k l in_a in_b in_c in_d in_e in_f in_g in_h in_i in_j in_k in_l)
    → R plain.Statement plain.CompoundStatement plain.ContinuingStatement plain.ElseClause
    plain.ElseIfClause (Attributed plain.ForStatement) plain.IfClause (Attributed plain.IfStatement)
    (Attributed plain.LoopStatement) plain.SwitchClause (Attributed plain.SwitchStatement)
    (Attributed plain.WhileStatement) statement_step compound_statement_step continuing_statement_step
    else_clause_step else_if_clause_step for_statement_step if_clause_step if_statement_step
    loop_statement_step switch_clause_step switch_statement_step while_statement_step
for_views law = law plain.Statement plain.CompoundStatement plain.ContinuingStatement plain.ElseClause
    plain.ElseIfClause (Attributed plain.ForStatement) plain.IfClause (Attributed plain.IfStatement)
    (Attributed plain.LoopStatement) plain.SwitchClause (Attributed plain.SwitchStatement)
    (Attributed plain.WhileStatement) statement_step compound_statement_step continuing_statement_step
    else_clause_step else_if_clause_step for_statement_step if_clause_step if_statement_step
    loop_statement_step switch_clause_step switch_statement_step while_statement_step

-- a spanned node, seen through its box
seen : Spanned Statement → Spanned plain.Statement
seen s = record {
  node = record { ptr = s.node.ptr; alloc = s.node.alloc; value = statement_view s.node.value };
  span = s.span;
}

nodes_seen : (xs : List (Spanned Statement)) → nodes_of (map seen xs) ≡ statement_nodes_view xs
unfolding seen
nodes_seen [] = refl
nodes_seen (s ∷ ss) = ap (plain.statement_before (statement_node_view s)) (nodes_seen ss)

-- a node that may be left out
abbrev pub part_view : Option (Spanned Statement) → plain.MaybeStatement
part_view part = plain.maybe_statement (option_map statement_node_view part)

pub compound_statement_roll : (x : Opened layer.CompoundStatement-F)
    → compound_statement_view (layers.roll-CompoundStatement x)
    ≡ plain.compound_statement (attributes_view x.attributes.items) (statement_nodes_view x.statements.items)
unfolding seen
compound_statement_roll x = for_views folds.fold-roll-CompoundStatement x
    ∙ (λ i. plain.compound_statement (attributes_view x.attributes.items) (nodes_seen x.statements.items i))

pub compound_statement_out : (x : CompoundStatement) → compound_statement_view x
    ≡ plain.compound_statement (attributes_view (layers.out-CompoundStatement x).attributes.items)
    (statement_nodes_view (layers.out-CompoundStatement x).statements.items)
compound_statement_out x = ap compound_statement_view (sym (layers.roll-out-CompoundStatement x))
    ∙ compound_statement_roll (layers.out-CompoundStatement x)

pub if_statement_roll : (attributes : Vec (Spanned Attribute) Global) (if_clause : IfClause)
    (else_if_clauses : Vec ElseIfClause Global) (else_clause : Option ElseClause)
    → if_statement_view (layers.roll-IfStatement (record {
      attributes = attributes;
      if_clause = if_clause;
      else_if_clauses = else_if_clauses;
      else_clause = else_clause;
    })) ≡ with_attributes (attributes_view attributes.items) (plain.if_else (if_clause_view if_clause)
    (plain.else_ifs_of (map else_if_clause_view else_if_clauses.items))
    (plain.else_of (option_map else_clause_view else_clause)))
if_statement_roll attributes if_clause else_if_clauses None = for_views folds.fold-roll-IfStatement
    (record { attributes = attributes; if_clause = if_clause; else_if_clauses = else_if_clauses; else_clause = None })
if_statement_roll attributes if_clause else_if_clauses (Some one_else_clause) =
    for_views folds.fold-roll-IfStatement (record {
      attributes = attributes;
      if_clause = if_clause;
      else_if_clauses = else_if_clauses;
      else_clause = Some one_else_clause;
    })

pub if_statement_out : (x : IfStatement)
    → if_statement_view x ≡ with_attributes (attributes_view (layers.out-IfStatement x).attributes.items)
    (plain.if_else (if_clause_view (layers.out-IfStatement x).if_clause)
    (plain.else_ifs_of (map else_if_clause_view (layers.out-IfStatement x).else_if_clauses.items))
    (plain.else_of (option_map else_clause_view (layers.out-IfStatement x).else_clause)))
if_statement_out x = ap if_statement_view (sym (layers.roll-out-IfStatement x))
    ∙ if_statement_roll (layers.out-IfStatement x).attributes (layers.out-IfStatement x).if_clause
    (layers.out-IfStatement x).else_if_clauses (layers.out-IfStatement x).else_clause

pub if_clause_roll : (x : Opened layer.IfClause-F)
    → if_clause_view (layers.roll-IfClause x)
    ≡ plain.if_clause (expression_node_view x.expression) (compound_statement_view x.body)
if_clause_roll x = for_views folds.fold-roll-IfClause x

pub if_clause_out : (x : IfClause)
    → if_clause_view x ≡ plain.if_clause (expression_node_view (layers.out-IfClause x).expression)
    (compound_statement_view (layers.out-IfClause x).body)
if_clause_out x = ap if_clause_view (sym (layers.roll-out-IfClause x)) ∙ if_clause_roll (layers.out-IfClause x)

pub else_if_clause_roll : (x : Opened layer.ElseIfClause-F)
    → else_if_clause_view (layers.roll-ElseIfClause x) ≡ plain.else_if_clause (attributes_view
    x.attributes.items) (expression_node_view x.expression) (compound_statement_view x.body)
else_if_clause_roll x = for_views folds.fold-roll-ElseIfClause x

pub else_if_clause_out : (x : ElseIfClause) → else_if_clause_view x ≡ plain.else_if_clause
    (attributes_view (layers.out-ElseIfClause x).attributes.items) (expression_node_view
    (layers.out-ElseIfClause x).expression) (compound_statement_view (layers.out-ElseIfClause x).body)
else_if_clause_out x = ap else_if_clause_view (sym (layers.roll-out-ElseIfClause x))
    ∙ else_if_clause_roll (layers.out-ElseIfClause x)

pub else_clause_roll : (x : Opened layer.ElseClause-F)
    → else_clause_view (layers.roll-ElseClause x)
    ≡ plain.else_clause (attributes_view x.attributes.items) (compound_statement_view x.body)
else_clause_roll x = for_views folds.fold-roll-ElseClause x

pub else_clause_out : (x : ElseClause)
    → else_clause_view x ≡ plain.else_clause (attributes_view (layers.out-ElseClause x).attributes.items)
    (compound_statement_view (layers.out-ElseClause x).body)
else_clause_out x = ap else_clause_view (sym (layers.roll-out-ElseClause x))
    ∙ else_clause_roll (layers.out-ElseClause x)

pub switch_statement_roll : (x : Opened layer.SwitchStatement-F)
    → switch_statement_view (layers.roll-SwitchStatement x)
    ≡ with_attributes (attributes_view x.attributes.items) (plain.switch (expression_node_view x.expression)
    (attributes_view x.body_attributes.items) (plain.clauses_of (map switch_clause_view x.clauses.items)))
switch_statement_roll x = for_views folds.fold-roll-SwitchStatement x

pub switch_statement_out : (x : SwitchStatement) → switch_statement_view x
    ≡ with_attributes (attributes_view (layers.out-SwitchStatement x).attributes.items)
    (plain.switch (expression_node_view (layers.out-SwitchStatement x).expression)
    (attributes_view (layers.out-SwitchStatement x).body_attributes.items)
    (plain.clauses_of (map switch_clause_view (layers.out-SwitchStatement x).clauses.items)))
switch_statement_out x = ap switch_statement_view (sym (layers.roll-out-SwitchStatement x))
    ∙ switch_statement_roll (layers.out-SwitchStatement x)

pub switch_clause_roll : (x : Opened layer.SwitchClause-F)
    → switch_clause_view (layers.roll-SwitchClause x) ≡ plain.switch_clause (attributes_view
    x.attributes.items) (map selector_view x.case_selectors.items) (compound_statement_view x.body)
switch_clause_roll x = for_views folds.fold-roll-SwitchClause x

pub switch_clause_out : (x : SwitchClause) → switch_clause_view x
    ≡ plain.switch_clause (attributes_view (layers.out-SwitchClause x).attributes.items) (map selector_view
    (layers.out-SwitchClause x).case_selectors.items) (compound_statement_view (layers.out-SwitchClause x).body)
switch_clause_out x = ap switch_clause_view (sym (layers.roll-out-SwitchClause x))
    ∙ switch_clause_roll (layers.out-SwitchClause x)

pub loop_statement_roll : (attributes : Vec (Spanned Attribute) Global) (body : CompoundStatement)
    (continuing : Option ContinuingStatement)
    → loop_statement_view (layers.roll-LoopStatement
    (record { attributes = attributes; body = body; continuing = continuing }))
    ≡ with_attributes (attributes_view attributes.items) (plain.repeat (compound_statement_view body)
    (plain.continuing_of (option_map continuing_statement_view continuing)))
loop_statement_roll attributes body None = for_views folds.fold-roll-LoopStatement
    (record { attributes = attributes; body = body; continuing = None })
loop_statement_roll attributes body (Some one_continuing) = for_views folds.fold-roll-LoopStatement
    (record { attributes = attributes; body = body; continuing = Some one_continuing })

pub loop_statement_out : (x : LoopStatement)
    → loop_statement_view x ≡ with_attributes (attributes_view (layers.out-LoopStatement x).attributes.items)
    (plain.repeat (compound_statement_view (layers.out-LoopStatement x).body)
    (plain.continuing_of (option_map continuing_statement_view (layers.out-LoopStatement x).continuing)))
loop_statement_out x = ap loop_statement_view (sym (layers.roll-out-LoopStatement x))
    ∙ loop_statement_roll (layers.out-LoopStatement x).attributes (layers.out-LoopStatement x).body
    (layers.out-LoopStatement x).continuing

pub for_statement_roll : (attributes : Vec (Spanned Attribute) Global) (initializer : Option (Spanned Statement))
    (condition : Option (Spanned Expression)) (update : Option (Spanned Statement)) (body : CompoundStatement)
    → for_statement_view (layers.roll-ForStatement (record {
      attributes = attributes;
      initializer = initializer;
      condition = condition;
      update = update;
      body = body;
    })) ≡ with_attributes (attributes_view attributes.items) (plain.repeat_for (part_view initializer)
    (option_map expression_node_view condition) (part_view update) (compound_statement_view body))
for_statement_roll attributes None condition None body = for_views folds.fold-roll-ForStatement
    (record { attributes = attributes; initializer = None; condition = condition; update = None; body = body })
for_statement_roll attributes None condition (Some one_update) body =
    for_views folds.fold-roll-ForStatement (record {
      attributes = attributes;
      initializer = None;
      condition = condition;
      update = Some one_update;
      body = body;
    })
for_statement_roll attributes (Some one_initializer) condition None body =
    for_views folds.fold-roll-ForStatement (record {
      attributes = attributes;
      initializer = Some one_initializer;
      condition = condition;
      update = None;
      body = body;
    })
for_statement_roll attributes (Some one_initializer) condition (Some one_update) body =
    for_views folds.fold-roll-ForStatement (record {
      attributes = attributes;
      initializer = Some one_initializer;
      condition = condition;
      update = Some one_update;
      body = body;
    })

pub for_statement_out : (x : ForStatement)
    → for_statement_view x ≡ with_attributes (attributes_view (layers.out-ForStatement x).attributes.items)
    (plain.repeat_for (part_view (layers.out-ForStatement x).initializer) (option_map expression_node_view
    (layers.out-ForStatement x).condition) (part_view (layers.out-ForStatement x).update)
    (compound_statement_view (layers.out-ForStatement x).body))
for_statement_out x = ap for_statement_view (sym (layers.roll-out-ForStatement x))
    ∙ for_statement_roll (layers.out-ForStatement x).attributes (layers.out-ForStatement x).initializer
    (layers.out-ForStatement x).condition (layers.out-ForStatement x).update (layers.out-ForStatement x).body

pub while_statement_roll : (x : Opened layer.WhileStatement-F)
    → while_statement_view (layers.roll-WhileStatement x) ≡ with_attributes (attributes_view x.attributes.items)
    (plain.repeat_while (expression_node_view x.condition) (compound_statement_view x.body))
while_statement_roll x = for_views folds.fold-roll-WhileStatement x

pub while_statement_out : (x : WhileStatement)
    → while_statement_view x ≡ with_attributes (attributes_view (layers.out-WhileStatement x).attributes.items)
    (plain.repeat_while (expression_node_view (layers.out-WhileStatement x).condition)
    (compound_statement_view (layers.out-WhileStatement x).body))
while_statement_out x = ap while_statement_view (sym (layers.roll-out-WhileStatement x))
    ∙ while_statement_roll (layers.out-WhileStatement x)

pub continuing_statement_roll : (x : Opened layer.ContinuingStatement-F)
    → continuing_statement_view (layers.roll-ContinuingStatement x) ≡ plain.continuing (attributes_view
    x.attributes.items) (compound_statement_view x.body) (option_map break_if_view x.break_if)
continuing_statement_roll x = for_views folds.fold-roll-ContinuingStatement x

pub continuing_statement_out : (x : ContinuingStatement) → continuing_statement_view x
    ≡ plain.continuing (attributes_view (layers.out-ContinuingStatement x).attributes.items)
    (compound_statement_view (layers.out-ContinuingStatement x).body)
    (option_map break_if_view (layers.out-ContinuingStatement x).break_if)
continuing_statement_out x = ap continuing_statement_view (sym (layers.roll-out-ContinuingStatement x))
    ∙ continuing_statement_roll (layers.out-ContinuingStatement x)

-- of a variant
pub is_empty : statement_view variant.Void ≡ plain.unattributed plain.void
unfolding roll-Statement Carrier.roll
is_empty = for_views folds.fold-roll-Statement layer.Void

pub is_compound : (x : CompoundStatement)
    → statement_view (variant.Compound x) ≡ plain.block_statement (compound_statement_view x)
unfolding roll-Statement Carrier.roll
is_compound x = for_views folds.fold-roll-Statement (layer.Compound x)

pub is_assignment : (x : AssignmentStatement)
    → statement_view (variant.Assignment x) ≡ plain.as_statement plain.assignment (assignment_view x)
unfolding roll-Statement Carrier.roll
is_assignment x = for_views folds.fold-roll-Statement (layer.Assignment x)

pub is_increment : (x : IncrementStatement)
    → statement_view (variant.Increment x) ≡ plain.as_statement plain.increment (increment_view x)
unfolding roll-Statement Carrier.roll
is_increment x = for_views folds.fold-roll-Statement (layer.Increment x)

pub is_decrement : (x : DecrementStatement)
    → statement_view (variant.Decrement x) ≡ plain.as_statement plain.decrement (decrement_view x)
unfolding roll-Statement Carrier.roll
is_decrement x = for_views folds.fold-roll-Statement (layer.Decrement x)

pub is_if : (x : IfStatement)
    → statement_view (variant.If x) ≡ plain.as_statement plain.if_statement (if_statement_view x)
unfolding roll-Statement Carrier.roll
is_if x = for_views folds.fold-roll-Statement (layer.If x)

pub is_switch : (x : SwitchStatement)
    → statement_view (variant.Switch x) ≡ plain.as_statement plain.switch_statement (switch_statement_view x)
unfolding roll-Statement Carrier.roll
is_switch x = for_views folds.fold-roll-Statement (layer.Switch x)

pub is_loop : (x : LoopStatement)
    → statement_view (variant.Loop x) ≡ plain.as_statement plain.loop_statement (loop_statement_view x)
unfolding roll-Statement Carrier.roll
is_loop x = for_views folds.fold-roll-Statement (layer.Loop x)

pub is_for : (x : ForStatement)
    → statement_view (variant.For x) ≡ plain.as_statement plain.for_statement (for_statement_view x)
unfolding roll-Statement Carrier.roll
is_for x = for_views folds.fold-roll-Statement (layer.For x)

pub is_while : (x : WhileStatement)
    → statement_view (variant.While x) ≡ plain.as_statement plain.while_statement (while_statement_view x)
unfolding roll-Statement Carrier.roll
is_while x = for_views folds.fold-roll-Statement (layer.While x)

pub is_break : (x : BreakStatement) → statement_view (variant.Break x) ≡ break_view x
unfolding roll-Statement Carrier.roll
is_break x = for_views folds.fold-roll-Statement (layer.Break x)

pub is_continue : (x : ContinueStatement) → statement_view (variant.Continue x) ≡ continue_view x
unfolding roll-Statement Carrier.roll
is_continue x = for_views folds.fold-roll-Statement (layer.Continue x)

pub is_return : (x : ReturnStatement)
    → statement_view (variant.Return x) ≡ plain.as_statement plain.return_statement (return_view x)
unfolding roll-Statement Carrier.roll
is_return x = for_views folds.fold-roll-Statement (layer.Return x)

pub is_discard : (x : DiscardStatement) → statement_view (variant.Discard x) ≡ discard_view x
unfolding roll-Statement Carrier.roll
is_discard x = for_views folds.fold-roll-Statement (layer.Discard x)

pub is_function_call : (x : FunctionCallStatement) → statement_view (variant.FunctionCall x)
    ≡ plain.as_statement plain.function_call_statement (call_statement_view x)
unfolding roll-Statement Carrier.roll
is_function_call x = for_views folds.fold-roll-Statement (layer.FunctionCall x)

pub is_const_assert : (x : ConstAssert)
    → statement_view (variant.ConstAssert x) ≡ plain.as_statement plain.const_assert (assert_view x)
unfolding roll-Statement Carrier.roll
is_const_assert x = for_views folds.fold-roll-Statement (layer.ConstAssert x)

pub is_declaration : (x : Declaration)
    → statement_view (variant.Declaration x) ≡ plain.as_statement plain.declaration (declaration_view x)
unfolding roll-Statement Carrier.roll
is_declaration x = for_views folds.fold-roll-Statement (layer.Declaration x)

-- of a variant, for search
pub ruleset variants = (
  is_empty,
  is_compound,
  is_assignment,
  is_increment,
  is_decrement,
  is_if,
  is_switch,
  is_loop,
  is_for,
  is_while,
  is_break,
  is_continue,
  is_return,
  is_discard,
  is_function_call,
  is_const_assert,
  is_declaration,
)

-- of the layers that have attributes: those of variants, and the others
pub ruleset layer_views = (
  compound_statement_out,
  if_statement_out,
  switch_statement_out,
  loop_statement_out,
  for_statement_out,
  while_statement_out,
)

pub ruleset clause_views = (else_if_clause_out, else_clause_out, switch_clause_out, continuing_statement_out)
