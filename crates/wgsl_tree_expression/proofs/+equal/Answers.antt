use Rattle.std.proofs.Common.{rules, ◌≡◌, true, false, sym, ◌∙◌, ◌&&◌, ◌==◌}
use Rattle.std.specs.Cmp.Lexicographic.{pointwise}
use Rattle.wgsl_tree_expression.specs.declared.expression.Expression.TheViews.{out-FunctionCall, out-TypeExpression}
use Rattle.wgsl_tree_code.specs.Same.{same}
use Rattle.wgsl_tree_code.specs.ExpressionNodes.{type_code}
use Rattle.wgsl_tree_code.specs.Lists.{unlike, next_differs, none_left}
use Rattle.wgsl_tree_expression.specs.View.{ident_name, type_expression_view}
use Rattle.wgsl_tree_expression.proofs.Equalities.{node_code, arg_code, calls_same, templated_same}
use Rattle.wgsl_tree_expression.proofs.+equal.Goals as goal

pub function_call::FunctionCallPartialEq::eq-returns-then-len :
    goal.function_call::FunctionCallPartialEq::eq-returns-then-len
function_call::FunctionCallPartialEq::eq-returns-then-len t c =
    let a = c.args.self.now in
    let b = c.args.other.now in
    let types : same (type_code (type_expression_view (out-FunctionCall a).ty))
    (type_code (type_expression_view (out-FunctionCall b).ty)) ≡ true = search rules in
    sym (calls_same a b ∙ (λ i. types i && unlike node_code (out-FunctionCall a).arguments.items
    (out-FunctionCall b).arguments.items (λ e. search rules) i))

pub function_call::FunctionCallPartialEq::eq-returns-then-not-eq-2 :
    goal.function_call::FunctionCallPartialEq::eq-returns-then-not-eq-2
function_call::FunctionCallPartialEq::eq-returns-then-not-eq-2 t c =
    let a = c.args.self.now in
    let b = c.args.other.now in
    let types : same (type_code (type_expression_view (out-FunctionCall a).ty))
    (type_code (type_expression_view (out-FunctionCall b).ty)) ≡ true = search rules in
    let differ : same (node_code c.index.result.now) (node_code c.index-in-arguments.result.now)
    ≡ false = search rules in
    sym (calls_same a b ∙ (λ i. types i && next_differs node_code (out-FunctionCall a).arguments.items
    (out-FunctionCall b).arguments.items c.arguments.i _ _ (search rules)
    (search rules) c.index.ensures c.index-in-arguments.ensures c.arguments.invariant differ i))

pub function_call::FunctionCallPartialEq::eq-returns : goal.function_call::FunctionCallPartialEq::eq-returns
function_call::FunctionCallPartialEq::eq-returns t c =
    let a = c.args.self.now in
    let b = c.args.other.now in
    let types : same (type_code (type_expression_view (out-FunctionCall a).ty))
    (type_code (type_expression_view (out-FunctionCall b).ty)) ≡ true = search rules in
    sym (calls_same a b ∙ (λ i. types i && none_left node_code (out-FunctionCall a).arguments.items
    (out-FunctionCall b).arguments.items c.arguments.i (search rules) (search rules) c.arguments.invariant i))

pub type_expression::TypeExpressionPartialEq::eq-returns-then-len :
    goal.type_expression::TypeExpressionPartialEq::eq-returns-then-len
type_expression::TypeExpressionPartialEq::eq-returns-then-len t c =
    let a = c.args.self.now in
    let b = c.args.other.now in
    let xs = c.in-Some.a in
    let ys = c.in-Some-template_args.b in
    let names : pointwise ◌==◌ (ident_name (out-TypeExpression a).ident)
    (ident_name (out-TypeExpression b).ident) ≡ true = search rules in
    sym (templated_same a b xs ys c.in-Some.is c.in-Some-template_args.is names
    ∙ unlike arg_code xs.items ys.items (λ e. search rules))

pub type_expression::TypeExpressionPartialEq::eq-returns-then-not-eq :
    goal.type_expression::TypeExpressionPartialEq::eq-returns-then-not-eq
type_expression::TypeExpressionPartialEq::eq-returns-then-not-eq t c =
    let a = c.args.self.now in
    let b = c.args.other.now in
    let xs = c.in-Some.a in
    let ys = c.in-Some-template_args.b in
    let names : pointwise ◌==◌ (ident_name (out-TypeExpression a).ident)
    (ident_name (out-TypeExpression b).ident) ≡ true = search rules in
    let differ : same (arg_code c.index.result.now) (arg_code c.index-in-arguments.result.now) ≡ false = search rules in
    sym (templated_same a b xs ys c.in-Some.is c.in-Some-template_args.is names
    ∙ next_differs arg_code xs.items ys.items c.arguments.i _ _ (search rules)
    (search rules) c.index.ensures c.index-in-arguments.ensures c.arguments.invariant differ)

pub type_expression::TypeExpressionPartialEq::eq-returns-after-arguments :
    goal.type_expression::TypeExpressionPartialEq::eq-returns-after-arguments
type_expression::TypeExpressionPartialEq::eq-returns-after-arguments t c =
    let a = c.args.self.now in
    let b = c.args.other.now in
    let xs = c.in-Some.a in
    let ys = c.in-Some-template_args.b in
    let names : pointwise ◌==◌ (ident_name (out-TypeExpression a).ident)
    (ident_name (out-TypeExpression b).ident) ≡ true = search rules in
    sym (templated_same a b xs ys c.in-Some.is c.in-Some-template_args.is names ∙ none_left arg_code
    xs.items ys.items c.arguments.i (search rules) (search rules) c.arguments.invariant)
