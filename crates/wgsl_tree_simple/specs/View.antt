-- Declarations of values, and statements that hold no others, as plain data.
use Rattle.std.specs.Prelude.{Option}
use Rattle.std.specs.Option.{option_map}
use Rattle.wgsl_model.specs.Trees.Attributed.{Attributed, with_attributes}
use Rattle.wgsl_model.specs.Trees.Statements as plain
use Rattle.wgsl_model.specs.Trees.NamedValues as plain_value
use Rattle.wgsl_tree_words.specs.declared.words_nodes.AddressSpace.{AddressSpace}
use Rattle.wgsl_tree_words.specs.declared.words_nodes.AccessMode.{AccessMode}
use Rattle.wgsl_tree_words.specs.View.{address_space_view, access_mode_view, assignment_operator_view}
use Rattle.wgsl_tree_expression.specs.View.{ident_name, expression_node_view, type_expression_view, function_call_view}
use Rattle.wgsl_tree_attribute.specs.View.{attributes_view}
use Rattle.wgsl_tree_simple.specs.declared.declaration.DeclarationKind.{DeclarationKind}
use Rattle.wgsl_tree_simple.specs.declared.declaration.Declaration.{Declaration}
use Rattle.wgsl_tree_simple.specs.declared.declaration.DeclarationKind.TheVariants as kind
use Rattle.wgsl_tree_simple.specs.declared.assignment.AssignmentStatement.{AssignmentStatement}
use Rattle.wgsl_tree_simple.specs.declared.increment.IncrementStatement.{IncrementStatement}
use Rattle.wgsl_tree_simple.specs.declared.increment.DecrementStatement.{DecrementStatement}
use Rattle.wgsl_tree_simple.specs.declared.single_word.BreakStatement.{BreakStatement}
use Rattle.wgsl_tree_simple.specs.declared.single_word.ContinueStatement.{ContinueStatement}
use Rattle.wgsl_tree_simple.specs.declared.single_word.DiscardStatement.{DiscardStatement}
use Rattle.wgsl_tree_simple.specs.declared.return_statement.ReturnStatement.{ReturnStatement}
use Rattle.wgsl_tree_simple.specs.declared.call_statement.FunctionCallStatement.{FunctionCallStatement}
use Rattle.wgsl_tree_simple.specs.declared.const_assert.ConstAssert.{ConstAssert}
use Rattle.wgsl_tree_simple.specs.declared.break_if.BreakIfStatement.{BreakIfStatement}
use Rattle.wgsl_tree_simple.specs.declared.case_selector.CaseSelector.{CaseSelector}
use Rattle.wgsl_tree_simple.specs.declared.case_selector.CaseSelector.TheVariants as selector

-- the template of a `var`
abbrev pub var_template_view : AddressSpace × Option AccessMode
    → plain_value.AddressSpace × Option plain_value.AccessMode
var_template_view p = (address_space_view p.0, option_map access_mode_view p.1)

abbrev pub declaration_kind_view : DeclarationKind → plain.DeclarationKind
declaration_kind_view kind.Const = plain.const_kind
declaration_kind_view kind.Override = plain.override_kind
declaration_kind_view kind.Let = plain.let_kind
declaration_kind_view (kind.Var template) = plain.var_kind (option_map var_template_view template)

abbrev pub declaration_view : Declaration → Attributed plain.Declaration
declaration_view d = with_attributes (attributes_view d.attributes.items) (record {
  kind = declaration_kind_view d.kind;
  ident = ident_name d.ident;
  ty = option_map type_expression_view d.ty;
  initializer = option_map expression_node_view d.initializer;
})

abbrev pub assignment_view : AssignmentStatement → Attributed plain.AssignmentStatement
assignment_view a = with_attributes (attributes_view a.attributes.items) (record {
  operator = assignment_operator_view a.operator;
  lhs = expression_node_view a.lhs;
  rhs = expression_node_view a.rhs;
})

abbrev pub increment_view : IncrementStatement → Attributed plain.IncrementStatement
increment_view i = with_attributes (attributes_view i.attributes.items)
    (record { expression = expression_node_view i.expression })

abbrev pub decrement_view : DecrementStatement → Attributed plain.DecrementStatement
decrement_view d = with_attributes (attributes_view d.attributes.items)
    (record { expression = expression_node_view d.expression })

-- a statement that is a word alone
abbrev pub break_view : BreakStatement → plain.Statement
break_view b = plain.statement (attributes_view b.attributes.items) plain.break_statement

abbrev pub continue_view : ContinueStatement → plain.Statement
continue_view c = plain.statement (attributes_view c.attributes.items) plain.continue_statement

abbrev pub discard_view : DiscardStatement → plain.Statement
discard_view d = plain.statement (attributes_view d.attributes.items) plain.discard_statement

abbrev pub return_view : ReturnStatement → Attributed plain.ReturnStatement
return_view r = with_attributes (attributes_view r.attributes.items)
    (record { expression = option_map expression_node_view r.expression })

abbrev pub call_statement_view : FunctionCallStatement → Attributed plain.FunctionCallStatement
call_statement_view c = with_attributes (attributes_view c.attributes.items)
    (record { call = function_call_view c.call })

abbrev pub assert_view : ConstAssert → Attributed plain.ConstAssert
assert_view c = with_attributes (attributes_view c.attributes.items)
    (record { expression = expression_node_view c.expression })

abbrev pub break_if_view : BreakIfStatement → Attributed plain.BreakIfStatement
break_if_view b = with_attributes (attributes_view b.attributes.items)
    (record { expression = expression_node_view b.expression })

abbrev pub selector_view : CaseSelector → plain.CaseSelector
selector_view selector.Default = plain.default_selector
selector_view (selector.Expression e) = plain.expression_selector (expression_node_view e)
