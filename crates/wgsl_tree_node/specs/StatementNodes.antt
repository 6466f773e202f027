-- Written by tools/tables/node_lists.py from crates/wgsl_model/nodes: lists of attributes by
-- variants.
use Rattle.std.specs.Prelude.{Option, Some, None}
use Rattle.wgsl_tree_node.specs.Parts.{AttributeList}
use Rattle.wgsl_tree_statement.specs.declared.compound.CompoundStatement.{CompoundStatement}
use Rattle.wgsl_tree_statement.specs.declared.continuing.ContinuingStatement.{ContinuingStatement}
use Rattle.wgsl_tree_statement.specs.declared.else_clause.ElseClause.{ElseClause}
use Rattle.wgsl_tree_statement.specs.declared.else_clause.ElseIfClause.{ElseIfClause}
use Rattle.wgsl_tree_statement.specs.declared.for_statement.ForStatement.{ForStatement}
use Rattle.wgsl_tree_statement.specs.declared.if_statement.IfClause.{IfClause}
use Rattle.wgsl_tree_statement.specs.declared.if_statement.IfStatement.{IfStatement}
use Rattle.wgsl_tree_statement.specs.declared.loop_statement.LoopStatement.{LoopStatement}
use Rattle.wgsl_tree_statement.specs.declared.statement.Statement.{Statement}
use Rattle.wgsl_tree_statement.specs.declared.switch.SwitchClause.{SwitchClause}
use Rattle.wgsl_tree_statement.specs.declared.switch.SwitchStatement.{SwitchStatement}
use Rattle.wgsl_tree_statement.specs.declared.while_statement.WhileStatement.{WhileStatement}
use Rattle.wgsl_tree_statement.specs.declared.statement.Statement.TheOpen as layer
use Rattle.wgsl_tree_statement.specs.declared.statement.Statement.TheViews.{out-CompoundStatement}
use Rattle.wgsl_tree_statement.specs.declared.statement.Statement.TheViews.{out-ForStatement}
use Rattle.wgsl_tree_statement.specs.declared.statement.Statement.TheViews.{out-IfStatement}
use Rattle.wgsl_tree_statement.specs.declared.statement.Statement.TheViews.{out-LoopStatement}
use Rattle.wgsl_tree_statement.specs.declared.statement.Statement.TheViews.{out-Statement}
use Rattle.wgsl_tree_statement.specs.declared.statement.Statement.TheViews.{out-SwitchStatement}
use Rattle.wgsl_tree_statement.specs.declared.statement.Statement.TheViews.{out-WhileStatement}
use Rattle.wgsl_tree_statement.specs.declared.statement.Statement.TheViews.{roll-CompoundStatement}
use Rattle.wgsl_tree_statement.specs.declared.statement.Statement.TheViews.{roll-ForStatement}
use Rattle.wgsl_tree_statement.specs.declared.statement.Statement.TheViews.{roll-IfStatement}
use Rattle.wgsl_tree_statement.specs.declared.statement.Statement.TheViews.{roll-LoopStatement}
use Rattle.wgsl_tree_statement.specs.declared.statement.Statement.TheViews.{roll-Statement}
use Rattle.wgsl_tree_statement.specs.declared.statement.Statement.TheViews.{roll-SwitchStatement}
use Rattle.wgsl_tree_statement.specs.declared.statement.Statement.TheViews.{roll-WhileStatement}

-- a statement of one kind
abbrev pub StatementLayer : Type 0
StatementLayer =
    layer.Statement-F Statement CompoundStatement ContinuingStatement ElseClause ElseIfClause
    ForStatement IfClause IfStatement LoopStatement SwitchClause SwitchStatement WhileStatement

-- the list of a statement, if it has attributes
abbrev pub list_of_kind : StatementLayer → Option AttributeList
list_of_kind layer.Void = None
list_of_kind (layer.Compound node) = Some (out-CompoundStatement node).attributes
list_of_kind (layer.Assignment node) = Some node.attributes
list_of_kind (layer.Increment node) = Some node.attributes
list_of_kind (layer.Decrement node) = Some node.attributes
list_of_kind (layer.If node) = Some (out-IfStatement node).attributes
list_of_kind (layer.Switch node) = Some (out-SwitchStatement node).attributes
list_of_kind (layer.Loop node) = Some (out-LoopStatement node).attributes
list_of_kind (layer.For node) = Some (out-ForStatement node).attributes
list_of_kind (layer.While node) = Some (out-WhileStatement node).attributes
list_of_kind (layer.Break node) = Some node.attributes
list_of_kind (layer.Continue node) = Some node.attributes
list_of_kind (layer.Return node) = Some node.attributes
list_of_kind (layer.Discard node) = Some node.attributes
list_of_kind (layer.FunctionCall node) = Some node.attributes
list_of_kind (layer.ConstAssert node) = Some node.attributes
list_of_kind (layer.Declaration node) = Some node.attributes

-- it with another list in place of its own
abbrev pub kind_with_list : StatementLayer → AttributeList → StatementLayer
kind_with_list layer.Void list = layer.Void
kind_with_list (layer.Compound node) list =
    layer.Compound (roll-CompoundStatement (record (out-CompoundStatement node) {
      attributes = list;
    }))
kind_with_list (layer.Assignment node) list = layer.Assignment (record node { attributes = list })
kind_with_list (layer.Increment node) list = layer.Increment (record node { attributes = list })
kind_with_list (layer.Decrement node) list = layer.Decrement (record node { attributes = list })
kind_with_list (layer.If node) list =
    layer.If (roll-IfStatement (record (out-IfStatement node) { attributes = list }))
kind_with_list (layer.Switch node) list =
    layer.Switch (roll-SwitchStatement (record (out-SwitchStatement node) { attributes = list }))
kind_with_list (layer.Loop node) list =
    layer.Loop (roll-LoopStatement (record (out-LoopStatement node) { attributes = list }))
kind_with_list (layer.For node) list =
    layer.For (roll-ForStatement (record (out-ForStatement node) { attributes = list }))
kind_with_list (layer.While node) list =
    layer.While (roll-WhileStatement (record (out-WhileStatement node) { attributes = list }))
kind_with_list (layer.Break node) list = layer.Break (record node { attributes = list })
kind_with_list (layer.Continue node) list = layer.Continue (record node { attributes = list })
kind_with_list (layer.Return node) list = layer.Return (record node { attributes = list })
kind_with_list (layer.Discard node) list = layer.Discard (record node { attributes = list })
kind_with_list (layer.FunctionCall node) list =
    layer.FunctionCall (record node { attributes = list })
kind_with_list (layer.ConstAssert node) list = layer.ConstAssert (record node { attributes = list })
kind_with_list (layer.Declaration node) list = layer.Declaration (record node { attributes = list })

abbrev pub statement_list : Statement → Option AttributeList
statement_list node = list_of_kind (out-Statement node)

abbrev pub statement_with_list : Statement → AttributeList → Statement
statement_with_list node list = roll-Statement (kind_with_list (out-Statement node) list)
