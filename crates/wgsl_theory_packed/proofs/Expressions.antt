-- What the packed forms of expressions and types print.
use Rattle.std.proofs.Common.{ℕ, refl, Bool, true, false, if◌then◌else◌, List, [], ◌∷◌, ◌++◌, codes}
use Rattle.std.specs.Fmt.{decimal, signed_decimal}
use Rattle.std.specs.List.{flat_map}
use Rattle.wgsl_model.specs.Printed.Joining.{joined}
use Rattle.wgsl_model.specs.Printed.Operators.{unary_operator_text, binary_operator_text}
use Rattle.wgsl_model.specs.Printed.Expressions.{is_abstract_int, expression_in, fuses, print_literal, print_expression, print_expression_node, expression_texts, print_call, print_type}
use Rattle.wgsl_model.specs.Trees.Expressions.{LiteralExpression, boolean, abstract_int, i32, u32, abstract_float, f32, f16, ExpressionNode, expression_node, Expression, literal, parenthesized, named_component, indexing, unary, binary, function_call, type_or_identifier, FunctionCall, call, TypeExpression, type_expression, no_template, template, ExpressionNodes, no_expressions, expression_before}
use Rattle.wgsl_model_packed.specs.Rules.{parenthesized_rule, unary_rule, unary_apart_rule, index_rule, binary_rule}
use Rattle.wgsl_model_packed.specs.Printing.{packed_text}
use Rattle.wgsl_model_packed.specs.Expressions.{packed_literal, component_rule_of, node_rule_before, packed_expression, link, leftmost, packed_expression_node, packed_expressions, packed_further, packed_call, packed_type}
use Rattle.wgsl_theory_packed.specs.Shown.{Shows, Leads}
use Rattle.wgsl_theory_packed.proofs.Shown.{◌▸◌, ◌before◌, last, last_closed, in_turn, shown_nothing, shown_plain, shown_text, shown_span, shown_rule, shown_closed}
use Rattle.wgsl_theory_packed.proofs.Lists.{shown_none}
use Rattle.wgsl_theory_packed.proofs.Chains.{leads_of_shows, component_leads, index_leads, binary_leads, chain_of_two, chain_of_three}

pub shows_literal : {d : ℕ} (l : LiteralExpression) → Shows d (codes "$") (packed_literal l) (print_literal l)
shows_literal (boolean true) = shown_rule refl (shown_plain (codes "true") refl)
shows_literal (boolean false) = shown_rule refl (shown_plain (codes "false") refl)
shows_literal (abstract_int n) = shown_rule refl (shown_text (signed_decimal n))
shows_literal (i32 n) =
    shown_rule refl (shown_closed (shown_text (signed_decimal n)) (shown_plain (codes "i") refl))
shows_literal (u32 n) = shown_rule refl (shown_closed (shown_text (decimal n)) (shown_plain (codes "u") refl))
shows_literal (abstract_float spelling) = shown_rule refl (shown_text spelling)
shows_literal (f32 spelling) =
    shown_rule refl (shown_closed (shown_text spelling) (shown_plain (codes "f") refl))
shows_literal (f16 spelling) =
    shown_rule refl (shown_closed (shown_text spelling) (shown_plain (codes "h") refl))

shows_parenthesized : {d : ℕ} {form text : List ℕ} → Shows d (codes "%$") form text →
    Shows d (codes "$") (parenthesized_rule ∷ form) (codes "(" ++ text ++ codes ")")
shows_parenthesized e =
    shown_rule refl (in_turn (shown_plain (codes "(") refl before last_closed e (shown_plain (codes ")") refl)))

shows_unary : {d : ℕ} {form text : List ℕ} (apart : Bool) (operator : List ℕ) →
    Shows d (codes "%$") form text →
    Shows d (codes "$") ((if apart then unary_apart_rule else unary_rule) ∷ (packed_text operator ++ form))
    (operator ++ (if apart then codes " " else []) ++ text)
shows_unary true operator e =
    shown_rule refl (in_turn (shown_text operator before shown_plain (codes " ") refl before last e))
shows_unary false operator e =
    shown_rule refl (in_turn (shown_text operator before shown_nothing before last e))

mutual
  pub shows_expression : {d : ℕ} (e : Expression) →
      Shows d (codes "$") (packed_expression e) (print_expression e)
  shows_expression (literal l) = shows_literal l
  shows_expression (parenthesized e) = shows_parenthesized (shows_expression_node e)
  shows_expression (named_component (expression_node e span) component) =
      chain_of_two (link component_rule_of (expression_node e span)) (packed_text component)
      (component_leads (is_abstract_int e) span component (leftmost_leads e))
  shows_expression (indexing (expression_node e span) index) =
      chain_of_two (link (λ e. index_rule) (expression_node e span)) (packed_expression_node index)
      (index_leads span (leftmost_leads e) (shows_expression_node index))
  shows_expression (unary operator operand) = shows_unary (fuses operator (expression_in operand))
      (unary_operator_text operator) (shows_expression_node operand)
  shows_expression (binary operator (expression_node e span) right) =
      chain_of_three (link (λ e. binary_rule) (expression_node e span))
      (packed_text (binary_operator_text operator)) (packed_expression_node right)
      (binary_leads span (binary_operator_text operator) (leftmost_leads e) (shows_expression_node right))
  shows_expression (function_call c) = shows_call c
  shows_expression (type_or_identifier t) = shows_type t

  -- what is leftmost leads to what follows it
  pub leftmost_leads : {d : ℕ} (e : Expression) → Leads d (leftmost e) (print_expression e)
  leftmost_leads (literal l) = leads_of_shows (shows_literal l)
  leftmost_leads (parenthesized e) = leads_of_shows (shows_parenthesized (shows_expression_node e))
  leftmost_leads (named_component (expression_node e span) component) =
      component_leads (is_abstract_int e) span component (leftmost_leads e)
  leftmost_leads (indexing (expression_node e span) index) =
      index_leads span (leftmost_leads e) (shows_expression_node index)
  leftmost_leads (unary operator operand) = leads_of_shows (shows_unary
      (fuses operator (expression_in operand)) (unary_operator_text operator) (shows_expression_node operand))
  leftmost_leads (binary operator (expression_node e span) right) =
      binary_leads span (binary_operator_text operator) (leftmost_leads e) (shows_expression_node right)
  leftmost_leads (function_call c) = leads_of_shows (shows_call c)
  leftmost_leads (type_or_identifier t) = leads_of_shows (shows_type t)

  pub shows_expression_node : {d : ℕ} (e : ExpressionNode) →
      Shows d (codes "%$") (packed_expression_node e) (print_expression_node e)
  shows_expression_node (expression_node e span) = shown_span span ▸ shows_expression e

  pub shows_expressions : {d : ℕ} (es : ExpressionNodes) →
      Shows d (codes "$") (packed_expressions es) (joined (codes ", ") (expression_texts es))
  shows_expressions no_expressions = shown_none
  shows_expressions (expression_before e es) = shows_further (shows_expression_node e) es

  -- an expression, and further ones
  shows_further : {d : ℕ} {form text : List ℕ} → Shows d (codes "%$") form text →
      (es : ExpressionNodes) → Shows d (codes "$") (node_rule_before es ∷ (form ++ packed_further es))
      (text ++ flat_map (λ t. codes ", " ++ t) (expression_texts es))
  shows_further first no_expressions = shown_rule refl (first ▸ shown_nothing)
  shows_further first (expression_before e es) = shown_rule refl
      (first ▸ shown_plain (codes ", ") refl ▸ shows_further (shows_expression_node e) es)

  pub shows_call : {d : ℕ} (c : FunctionCall) → Shows d (codes "$") (packed_call c) (print_call c)
  shows_call (call ty arguments) = shown_rule refl (in_turn (shows_type ty before shown_plain (codes "(") refl
      before last_closed (shows_expressions arguments) (shown_plain (codes ")") refl)))

  pub shows_type : {d : ℕ} (t : TypeExpression) → Shows d (codes "$") (packed_type t) (print_type t)
  shows_type (type_expression name no_template) = shown_rule refl (shown_text name)
  shows_type (type_expression name (template arguments)) =
      shown_rule refl (in_turn (shown_text name before shown_plain (codes "<") refl
      before last_closed (shows_expressions arguments) (shown_plain (codes ">") refl)))
