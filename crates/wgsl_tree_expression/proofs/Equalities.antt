-- Equality of calls and of types, part by part.
use Rattle.std.proofs.Common.{◌≡◌, refl, ◌∙◌, ap, Bool, true, false, Some, List, [], ◌∷◌, ◌&&◌, ◌==◌}
use Rattle.std.specs.declared.vec.Vec.{Vec}
use Rattle.std.specs.declared.alloc.Global.{Global}
use Rattle.std.specs.Cmp.Lexicographic.{pointwise}
use Rattle.wgsl_span.specs.declared.Spanned.{Spanned}
use Rattle.wgsl_tree_expression.specs.declared.expression.Expression.{Expression}
use Rattle.wgsl_tree_expression.specs.declared.function_call.FunctionCall.{FunctionCall}
use Rattle.wgsl_tree_expression.specs.declared.type_expression.TemplateArg.{TemplateArg}
use Rattle.wgsl_tree_expression.specs.declared.type_expression.TypeExpression.{TypeExpression}
use Rattle.wgsl_tree_expression.specs.declared.expression.Expression.TheViews.{out-FunctionCall, out-TypeExpression}
use Rattle.wgsl_tree_code.specs.Code.{Code, list, Codes, code_before, codes_of}
use Rattle.wgsl_tree_code.specs.Same.{same}
use Rattle.wgsl_tree_code.specs.Lists.{all_same}
use Rattle.wgsl_tree_code.specs.ExpressionNodes.{template_arg_code, template_expressions_code, expression_node_code, expression_nodes_code, call_code, type_code, template_code}
use Rattle.wgsl_tree_expression.specs.View as V
use Rattle.wgsl_tree_expression.proofs.Views.{call_view_out, type_view_out}

-- the codes of a node and of an argument
abbrev pub node_code : Spanned Expression → Code
node_code n = expression_node_code (V.expression_node_view n)

abbrev pub arg_code : TemplateArg → Code
arg_code a = template_arg_code (V.template_arg_view a)

nodes_code : (xs : List (Spanned Expression))
    → expression_nodes_code (V.expression_nodes_view xs) ≡ codes_of node_code xs
nodes_code [] = refl
nodes_code (x ∷ xs) = ap (code_before (node_code x)) (nodes_code xs)

args_code : (xs : List TemplateArg) → template_expressions_code (V.template_arg_nodes_view xs) ≡ codes_of arg_code xs
args_code [] = refl
args_code (x ∷ xs) = ap (code_before (arg_code x)) (args_code xs)

pub calls_same : (a b : FunctionCall)
    → same (call_code (V.function_call_view a)) (call_code (V.function_call_view b))
    ≡ same (type_code (V.type_expression_view (out-FunctionCall a).ty))
    (type_code (V.type_expression_view (out-FunctionCall b).ty))
    && all_same node_code (out-FunctionCall a).arguments.items (out-FunctionCall b).arguments.items
calls_same a b =
    (λ i. same (call_code (call_view_out a i)) (call_code (call_view_out b i)))
    ∙ (λ i. same (type_code (V.type_expression_view (out-FunctionCall a).ty))
    (type_code (V.type_expression_view (out-FunctionCall b).ty)) && same (list (nodes_code
    (out-FunctionCall a).arguments.items i)) (list (nodes_code (out-FunctionCall b).arguments.items i)))

pub types_same : (a b : TypeExpression)
    → same (type_code (V.type_expression_view a)) (type_code (V.type_expression_view b))
    ≡ pointwise ◌==◌ (V.ident_name (out-TypeExpression a).ident) (V.ident_name (out-TypeExpression b).ident)
    && same (template_code (V.template_args_view (out-TypeExpression a).template_args))
    (template_code (V.template_args_view (out-TypeExpression b).template_args))
types_same a b = λ i. same (type_code (type_view_out a i)) (type_code (type_view_out b i))

pub templates_same : (xs ys : List TemplateArg)
    → same (list (template_expressions_code (V.template_arg_nodes_view xs)))
    (list (template_expressions_code (V.template_arg_nodes_view ys))) ≡ all_same arg_code xs ys
templates_same xs ys = λ i. same (list (args_code xs i)) (list (args_code ys i))

pub templated_same : (a b : TypeExpression) (xs ys : Vec TemplateArg Global)
    → (out-TypeExpression a).template_args ≡ Some xs → (out-TypeExpression b).template_args ≡ Some ys
    → pointwise ◌==◌ (V.ident_name (out-TypeExpression a).ident) (V.ident_name (out-TypeExpression b).ident) ≡ true
    → same (type_code (V.type_expression_view a)) (type_code (V.type_expression_view b))
    ≡ all_same arg_code xs.items ys.items
templated_same a b xs ys first second names =
    types_same a b
    ∙ (λ i. names i && same (template_code (V.template_args_view (first i)))
    (template_code (V.template_args_view (second i))))
    ∙ templates_same xs.items ys.items

-- what is compared with something else that is known
pub left_alone : (x y : Bool) → y ≡ true → x && y ≡ x
left_alone true y e = e
left_alone false y e = refl

pub right_false : (x y : Bool) → y ≡ false → x && y ≡ false
right_false true y e = e
right_false false y e = refl

-- the same of what is after two others
pub after_alone : (o l r : Bool) → o && r ≡ true → o && (r && l) ≡ l
after_alone true l true e = refl
after_alone true l false e = absurd cc
after_alone false l r e = absurd cc

pub after_false : (o l r : Bool) → o && r ≡ false → o && (r && l) ≡ false
after_false true l true e = absurd cc
after_false true l false e = refl
after_false false l r e = refl

-- what is compared on the way down two left sides
pub ruleset chains = (left_alone, right_false, after_alone, after_false)
