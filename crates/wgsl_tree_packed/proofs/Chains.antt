-- What is leftmost in an expression, and what follows it.
use Rattle.std.proofs.Common.{ℕ, ◌≡◌, sym, List, ◌++◌, append_assoc}
use Rattle.std.proofs.lemmas.List.{append-nil}
use Rattle.wgsl_model.specs.Trees.Expressions.{Expression, ExpressionNode, expression_node, literal, parenthesized, named_component, indexing, unary, binary, function_call, type_or_identifier}
use Rattle.wgsl_model.specs.Printed.Expressions.{expression_in}
use Rattle.wgsl_model.specs.Printed.Operators.{binary_operator_text}
use Rattle.wgsl_model_packed.specs.Printing.{packed_text}
use Rattle.wgsl_model_packed.specs.Expressions.{leftmost, link, packed_expression_node, component_rule_of}
use Rattle.wgsl_model_packed.specs.Rules.{index_rule, binary_rule}
use Rattle.wgsl_tree_expression.specs.Chains.{left_of}
use Rattle.wgsl_tree_packed.specs.Chains.{after_left, link_end}

link_parts : (rule : Expression → ℕ)
    (node : ExpressionNode) (t : List ℕ)
    → link rule node ++ t ≡ leftmost (expression_in node) ++ (link_end rule node ++ t)
link_parts rule (expression_node e span) t =
    append_assoc (leftmost e) (link_end rule (expression_node e span)) t

-- what is leftmost in an expression is in its left side, and what follows is there or after it
pub leftmost_after : (node : ExpressionNode) → leftmost (expression_in node)
    ≡ leftmost (expression_in (left_of node)) ++ after_left (expression_in node)
leftmost_after (expression_node (named_component base component) s) =
    link_parts component_rule_of base (packed_text component)
leftmost_after (expression_node (indexing base index) s) =
    link_parts (λ e. index_rule) base (packed_expression_node index)
leftmost_after (expression_node (binary operator left right) s) =
    link_parts (λ e. binary_rule) left
    (packed_text (binary_operator_text operator) ++ packed_expression_node right)
leftmost_after (expression_node (literal l) s) = sym (append-nil (leftmost (literal l)))
leftmost_after (expression_node (parenthesized n) s) = sym (append-nil (leftmost (parenthesized n)))
leftmost_after (expression_node (unary operator n) s) = sym (append-nil (leftmost (unary operator n)))
leftmost_after (expression_node (function_call c) s) = sym (append-nil (leftmost (function_call c)))
leftmost_after (expression_node (type_or_identifier t) s) =
    sym (append-nil (leftmost (type_or_identifier t)))
