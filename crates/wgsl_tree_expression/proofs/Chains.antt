-- Steps down the left side of an expression, and what is printed after them.
use Rattle.std.proofs.Common.{ℕ, zero, suc, ◌+◌, ◌-◌, ◌/◌, ◌<◌, ◌≤◌, ◌≡◌, refl, sym, ◌∙◌, ap, arith, List, ◌++◌, codes, if◌then◌else◌}
use Rattle.std.proofs.lemmas.List.{append-nil, append_assoc}
use Rattle.wgsl_model.specs.Printed.Operators.{binary_operator_text}
use Rattle.wgsl_model.specs.Trees.Expressions.{ExpressionNode, expression_node, literal, parenthesized, named_component, indexing, unary, binary, function_call, type_or_identifier}
use Rattle.wgsl_model.specs.Printed.Expressions.{print_expression_node, is_abstract_int, expression_in}
use Rattle.wgsl_tree_expression.specs.Chains.{left_of, below, text_after, text_above, with_left}

-- one step more
pub below_more : (n : ℕ) (node : ExpressionNode) → below (n + 1) node ≡ left_of (below n node)
below_more zero node = refl
below_more (suc n) node =
    let on : suc n + 1 ≡ suc (n + 1) = omega arith in
    ap (λ m. below m node) on ∙ below_more n (left_of node)

-- some steps, and some more
below_both : (m n : ℕ) (node : ExpressionNode) → below (m + n) node ≡ below n (below m node)
below_both zero n node =
    let on : 0 + n ≡ n = omega arith in
    ap (λ k. below k node) on
below_both (suc m) n node =
    let on : suc m + n ≡ suc (m + n) = omega arith in
    ap (λ k. below k node) on ∙ below_both m n (left_of node)

above_both : (m n : ℕ) (node : ExpressionNode)
    → text_above (m + n) node ≡ text_above n (below m node) ++ text_above m node
above_both zero n node =
    let on : 0 + n ≡ n = omega arith in
    ap (λ k. text_above k node) on ∙ sym (append-nil (text_above n node))
above_both (suc m) n node =
    let on : suc m + n ≡ suc (m + n) = omega arith in
    ap (λ k. text_above k node) on
    ∙ ap (λ t. t ++ text_after (expression_in node)) (above_both m n (left_of node))
    ∙ append_assoc (text_above n (below m (left_of node))) (text_above m (left_of node))
    (text_after (expression_in node))

-- half of some steps
pub half_below : (l u : ℕ) → u ≤ l / 2 → u ≤ l
half_below l u h = omega (arith, h)

pub half_some : (l : ℕ) → 1 < l → 1 ≤ l / 2
half_some l h = omega (arith, h)

pub below_all : (u l s : ℕ) → u ≤ l → l ≤ s → u ≤ s
below_all u l s h g = omega (arith, h, g)

-- the steps of an upper and of a lower part
pub below_parts : (l u : ℕ) (node : ExpressionNode) → u ≤ l → below (l - u) (below u node) ≡ below l node
below_parts l u node h =
    let on : u + (l - u) ≡ l = omega (arith, h) in
    sym (below_both u (l - u) node) ∙ ap (λ k. below k node) on

pub above_parts : (s l u : ℕ) (node : ExpressionNode) → u ≤ l → l ≤ s
    → text_above (s - u) (below u node) ≡ text_above (s - l) (below l node) ++ text_above (l - u) (below u node)
above_parts s l u node h g =
    let on : s - u ≡ (l - u) + (s - l) = omega (arith, h, g) in
    ap (λ k. text_above k (below u node)) on
    ∙ above_both (l - u) (s - l) (below u node)
    ∙ ap (λ b. text_above (s - l) b ++ text_above (l - u) (below u node)) (below_parts l u node h)

four : (a b c d : List ℕ) → a ++ b ++ c ++ d ≡ a ++ (b ++ c ++ d)
four a b c d = ap (λ t. t ++ d) (append_assoc a b c) ∙ append_assoc a (b ++ c) d

-- a text is that of what is on the left, and what is after it
printed_after : (node : ExpressionNode)
    → print_expression_node node ≡ print_expression_node (left_of node) ++ text_after (expression_in node)
printed_after (expression_node (named_component base component) s) =
    append_assoc (print_expression_node base)
    (if is_abstract_int (expression_in base) then codes " ." else codes ".") component
printed_after (expression_node (indexing base index) s) = four (print_expression_node base)
    (codes "[") (print_expression_node index) (codes "]")
printed_after (expression_node (binary operator left right) s) =
    ap (λ t. t ++ print_expression_node right)
    (four (print_expression_node left) (codes " ") (binary_operator_text operator) (codes " "))
    ∙ append_assoc (print_expression_node left)
    (codes " " ++ binary_operator_text operator ++ codes " ") (print_expression_node right)
printed_after (expression_node (literal l) s) =
    sym (append-nil (print_expression_node (expression_node (literal l) s)))
printed_after (expression_node (parenthesized n) s) =
    sym (append-nil (print_expression_node (expression_node (parenthesized n) s)))
printed_after (expression_node (unary operator n) s) =
    sym (append-nil (print_expression_node (expression_node (unary operator n) s)))
printed_after (expression_node (function_call c) s) =
    sym (append-nil (print_expression_node (expression_node (function_call c) s)))
printed_after (expression_node (type_or_identifier t) s) =
    sym (append-nil (print_expression_node (expression_node (type_or_identifier t) s)))

pub printed_above : (n : ℕ) (node : ExpressionNode)
    → print_expression_node node ≡ print_expression_node (below n node) ++ text_above n node
printed_above zero node = sym (append-nil (print_expression_node node))
printed_above (suc n) node =
    printed_after node
    ∙ ap (λ t. t ++ text_after (expression_in node)) (printed_above n (left_of node))
    ∙ append_assoc (print_expression_node (below n (left_of node))) (text_above n (left_of node))
    (text_after (expression_in node))

-- nothing changes with its own left side
pub with_own_left : (node : ExpressionNode) → with_left (expression_in node) (left_of node) ≡ expression_in node
with_own_left (expression_node (named_component base component) s) = refl
with_own_left (expression_node e s) = refl

-- what is copied around a copy of a left side
pub ruleset copies = (half_some, below_parts, with_own_left)
