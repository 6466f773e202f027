-- The printed texts of the declarations of values, and of the statements that hold no others.
use Rattle.std.specs.Prelude.{ℕ, List, [], ◌++◌, Option, Some, None, codes}
use Rattle.wgsl_model.specs.Trees.NamedValues.{AddressSpace, AccessMode, access_mode_text, address_space_text}
use Rattle.wgsl_model.specs.Printed.Operators.{assignment_operator_text}
use Rattle.wgsl_model.specs.Trees.Expressions.{ExpressionNode, TypeExpression}
use Rattle.wgsl_model.specs.Trees.Attributed.{Attributed}
use Rattle.wgsl_model.specs.Trees.Statements.{DeclarationKind, const_kind, override_kind, let_kind, var_kind, Declaration, AssignmentStatement, IncrementStatement, DecrementStatement, ReturnStatement, FunctionCallStatement, ConstAssert, BreakIfStatement, CaseSelector, default_selector, expression_selector}
use Rattle.wgsl_model.specs.Printed.Expressions.{print_expression_node, print_type, print_call}
use Rattle.wgsl_model.specs.Printed.Attributes.{print_attribute_line}

-- a node after its attributes, which are on a line of their own
abbrev pub print_attributed : {Node : Type 0} → (Node → List ℕ) → Attributed Node → List ℕ
print_attributed print a = print_attribute_line a.attributes ++ print a.node

-- an access mode after an address space, if there is one
abbrev pub print_access_mode : Option AccessMode → List ℕ
print_access_mode None = []
print_access_mode (Some mode) = codes ", " ++ access_mode_text mode

-- the template of a `var`, if there is one
abbrev pub print_var_template : Option (AddressSpace × Option AccessMode) → List ℕ
print_var_template None = []
print_var_template (Some p) = codes "<" ++ address_space_text p.0 ++ print_access_mode p.1 ++ codes ">"

abbrev pub print_kind : DeclarationKind → List ℕ
print_kind const_kind = codes "const"
print_kind override_kind = codes "override"
print_kind let_kind = codes "let"
print_kind (var_kind t) = codes "var" ++ print_var_template t

-- the type after a colon, if there is one
abbrev pub print_typed : Option TypeExpression → List ℕ
print_typed None = []
print_typed (Some t) = codes ": " ++ print_type t

-- the value after an equals sign, if there is one
abbrev pub print_initializer : Option ExpressionNode → List ℕ
print_initializer None = []
print_initializer (Some e) = codes " = " ++ print_expression_node e

-- an expression, if there is one
abbrev pub print_condition : Option ExpressionNode → List ℕ
print_condition None = []
print_condition (Some e) = print_expression_node e

-- a returned value, if there is one
abbrev pub print_returned : Option ExpressionNode → List ℕ
print_returned None = []
print_returned (Some e) = codes " " ++ print_expression_node e

-- each without the `;` that ends it
abbrev pub unended_declaration : Declaration → List ℕ
unended_declaration d = print_kind d.kind ++ codes " " ++ d.ident ++ print_typed d.ty ++ print_initializer d.initializer

abbrev pub unended_assignment : AssignmentStatement → List ℕ
unended_assignment a = print_expression_node a.lhs ++ codes " "
    ++ assignment_operator_text a.operator ++ codes " " ++ print_expression_node a.rhs

abbrev pub unended_increment : IncrementStatement → List ℕ
unended_increment i = print_expression_node i.expression ++ codes "++"

abbrev pub unended_decrement : DecrementStatement → List ℕ
unended_decrement d = print_expression_node d.expression ++ codes "--"

abbrev pub unended_return : ReturnStatement → List ℕ
unended_return r = codes "return" ++ print_returned r.expression

abbrev pub unended_call : FunctionCallStatement → List ℕ
unended_call c = print_call c.call

abbrev pub unended_assert : ConstAssert → List ℕ
unended_assert c = codes "const_assert " ++ print_expression_node c.expression

-- and with it
abbrev pub print_declaration : Declaration → List ℕ
print_declaration d = unended_declaration d ++ codes ";"

abbrev pub print_assignment : AssignmentStatement → List ℕ
print_assignment a = unended_assignment a ++ codes ";"

abbrev pub print_increment : IncrementStatement → List ℕ
print_increment i = unended_increment i ++ codes ";"

abbrev pub print_decrement : DecrementStatement → List ℕ
print_decrement d = unended_decrement d ++ codes ";"

abbrev pub print_return : ReturnStatement → List ℕ
print_return r = unended_return r ++ codes ";"

abbrev pub print_call_statement : FunctionCallStatement → List ℕ
print_call_statement c = unended_call c ++ codes ";"

abbrev pub print_assert : ConstAssert → List ℕ
print_assert c = unended_assert c ++ codes ";"

abbrev pub print_break_if : BreakIfStatement → List ℕ
print_break_if b = codes "break if " ++ print_expression_node b.expression ++ codes ";"

-- what a clause of a `switch` selects
abbrev pub print_selector : CaseSelector → List ℕ
print_selector default_selector = codes "default"
print_selector (expression_selector e) = print_expression_node e
