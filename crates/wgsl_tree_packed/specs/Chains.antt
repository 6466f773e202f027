-- What is after the left side of an expression in its packed form.
use Rattle.std.specs.Prelude.{ℕ, List, [], ◌∷◌, ◌++◌}
use Rattle.wgsl_model.specs.Printed.Operators.{binary_operator_text}
use Rattle.wgsl_model.specs.Trees.Expressions.{ExpressionNode, expression_node, Expression, named_component, indexing, binary}
use Rattle.wgsl_model_packed.specs.Printing.{packed_text, packed_span}
use Rattle.wgsl_model_packed.specs.Expressions.{packed_expression_node, component_rule_of}
use Rattle.wgsl_model_packed.specs.Rules.{index_rule, binary_rule}

-- the number of the rule of what follows an expression, and the span of the expression
abbrev pub link_end : (Expression → ℕ) → ExpressionNode → List ℕ
link_end rule (expression_node e span) = rule e ∷ packed_span span

-- what is after the left side, after the span of that
abbrev pub after_left : Expression → List ℕ
after_left (named_component base component) =
    link_end component_rule_of base ++ packed_text component
after_left (indexing base index) =
    link_end (λ e. index_rule) base ++ packed_expression_node index
after_left (binary operator left right) = link_end (λ e. binary_rule) left
    ++ (packed_text (binary_operator_text operator) ++ packed_expression_node right)
after_left e = []
