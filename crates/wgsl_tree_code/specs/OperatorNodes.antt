-- Written by tools/tables/tree_codes.py from crates/wgsl_model/nodes: operators.
use Rattle.wgsl_model.specs.Printed.Operators.{assignment_operator_text, binary_operator_text, unary_operator_text}
use Rattle.wgsl_model.specs.Trees.Operators as plain
use Rattle.wgsl_tree_code.specs.Code.{Code, text}

-- an operator before an operand
abbrev pub unary_operator_code : plain.UnaryOperator → Code
unary_operator_code w = text (unary_operator_text w)

-- an operator between operands
abbrev pub binary_operator_code : plain.BinaryOperator → Code
binary_operator_code w = text (binary_operator_text w)

-- the operator of an assignment
abbrev pub assignment_operator_code : plain.AssignmentOperator → Code
assignment_operator_code w = text (assignment_operator_text w)
