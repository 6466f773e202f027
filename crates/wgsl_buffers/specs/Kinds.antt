-- The kinds of nodes that are printed by themselves: their packed forms, and their printed texts.
use Rattle.std.specs.Prelude.{ℕ, List}
use Rattle.wgsl_model.specs.Printed.Units.{print_unit, print_directive, print_global_declaration, print_member, print_parameter}
use Rattle.wgsl_model.specs.Printed.Statements.{print_statement, print_if_clause, print_else_if_clause, print_else_clause, print_switch_clause, print_continuing}
use Rattle.wgsl_model.specs.Printed.Declarations.{print_attributed, print_kind, print_break_if, print_selector}
use Rattle.wgsl_model.specs.Printed.Expressions.{print_expression}
use Rattle.wgsl_model.specs.Printed.Attributes.{print_attribute, print_type_constraint}
use Rattle.wgsl_model_packed.specs.Expressions.{packed_expression}
use Rattle.wgsl_model_packed.specs.Attributes.{packed_attribute, packed_type_constraint}
use Rattle.wgsl_model_packed.specs.Statements.{packed_statement, packed_kind, packed_selector, packed_if_clause, packed_else_if_clause, packed_else_clause, packed_switch_clause, packed_continuing, packed_break_if}
use Rattle.wgsl_model_packed.specs.Units.{packed_unit, packed_directive, packed_global_declaration, packed_member, packed_parameter}

-- the kinds
pub data Kind : Type 0 where
  a_module : Kind
  a_directive : Kind
  a_declaration : Kind
  a_statement : Kind
  an_expression : Kind
  an_attribute : Kind
  a_member : Kind
  a_parameter : Kind
  a_declaration_kind : Kind
  a_selector : Kind
  an_if_clause : Kind
  an_else_if_clause : Kind
  an_else_clause : Kind
  a_switch_clause : Kind
  a_continuing : Kind
  a_break_if : Kind
  a_type_constraint : Kind

-- the nodes of a kind, the packed form of each, and what is printed of it
pub record Printing : Type 1 where
  pub Node : Type 0
  pub packed : Node → List ℕ
  pub print : Node → List ℕ

abbrev pub printing : {Node : Type 0} → (Node → List ℕ) → (Node → List ℕ) → Printing
printing {Node = Node} packed print = record { Node = Node; packed = packed; print = print }

abbrev pub printing_of : Kind → Printing
printing_of a_module = printing packed_unit print_unit
printing_of a_directive = printing packed_directive print_directive
printing_of a_declaration = printing packed_global_declaration print_global_declaration
printing_of a_statement = printing packed_statement print_statement
printing_of an_expression = printing packed_expression print_expression
printing_of an_attribute = printing packed_attribute print_attribute
printing_of a_member = printing packed_member print_member
printing_of a_parameter = printing packed_parameter print_parameter
printing_of a_declaration_kind = printing packed_kind print_kind
printing_of a_selector = printing packed_selector print_selector
printing_of an_if_clause = printing packed_if_clause print_if_clause
printing_of an_else_if_clause = printing packed_else_if_clause print_else_if_clause
printing_of an_else_clause = printing packed_else_clause print_else_clause
printing_of a_switch_clause = printing packed_switch_clause print_switch_clause
printing_of a_continuing = printing packed_continuing print_continuing
printing_of a_break_if = printing packed_break_if (print_attributed print_break_if)
printing_of a_type_constraint = printing packed_type_constraint print_type_constraint
