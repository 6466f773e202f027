-- The printed texts of declarations of values and of statements are the same with the spans set
-- aside.
use Rattle.std.proofs.Common.{◌≡◌, List, [], ◌∷◌, ◌++◌, map, refl, sym, codes, Option, Some, None}
use Rattle.std.proofs.lemmas.Bool.{true≢false}
use Rattle.std.specs.Option.{option_map}
use Rattle.wgsl_model.specs.Trees.Attributes.{Attributes}
use Rattle.wgsl_model.specs.Trees.Attributed.{Attributed}
use Rattle.wgsl_model.specs.Printed.Operators.{assignment_operator_text}
use Rattle.wgsl_model.specs.Trees.Expressions.{ExpressionNode, TypeExpression}
use Rattle.wgsl_model.specs.Trees.Statements as tree
use Rattle.wgsl_model.specs.Printed.Declarations.{print_kind, print_typed, print_initializer, print_condition, print_returned, unended_declaration, print_selector}
use Rattle.wgsl_model.specs.Printed.Statements as printed
use Rattle.wgsl_model.specs.Trees.WithoutSpans.{bare_expression_node, bare_type, bare_attributes}
use Rattle.wgsl_model.specs.Trees.StatementsWithoutSpans as bare
use Rattle.wgsl_theory_reread.proofs.Trees.Spans.{node_bare, call_bare, type_bare, attribute_line_bare}
use Rattle.wgsl_theory_reread.proofs.Trees.Changed.{ending, KeepsPrint}
use Rattle.wgsl_theory_reread.proofs.Trees.ChangedNodes.{statement_kept, compound_kept}

-- ---- parts that may be left out
typed_bare : (t : Option TypeExpression) → print_typed (option_map bare_type t) ≡ print_typed t
typed_bare None = refl
typed_bare (Some t) = λ i. codes ": " ++ type_bare t i

initializer_bare : (e : Option ExpressionNode)
    → print_initializer (option_map bare_expression_node e) ≡ print_initializer e
initializer_bare None = refl
initializer_bare (Some e) = λ i. codes " = " ++ node_bare e i

condition_bare : (e : Option ExpressionNode) → print_condition (option_map bare_expression_node e) ≡ print_condition e
condition_bare None = refl
condition_bare (Some e) = node_bare e

returned_bare : (e : Option ExpressionNode) → print_returned (option_map bare_expression_node e) ≡ print_returned e
returned_bare None = refl
returned_bare (Some e) = λ i. codes " " ++ node_bare e i

break_if_bare : (b : Option (Attributed tree.BreakIfStatement))
    → printed.break_if_line (option_map (bare.bare_attributed bare.bare_break_if) b) ≡ printed.break_if_line b
break_if_bare None = refl
break_if_bare (Some b) = λ i. printed.indented_line (attribute_line_bare b.attributes i
    ++ (codes "break if " ++ node_bare b.node.expression i ++ codes ";"))

selectors_bare : (ss : List tree.CaseSelector) → map print_selector (map bare.bare_selector ss) ≡ map print_selector ss
selectors_bare [] = refl
selectors_bare (tree.default_selector ∷ ss) = λ i. codes "default" ∷ selectors_bare ss i
selectors_bare (tree.expression_selector e ∷ ss) = λ i. node_bare e i ∷ selectors_bare ss i

pub declaration_bare : (d : tree.Declaration) → unended_declaration (bare.bare_declaration d) ≡ unended_declaration d
declaration_bare d =
    λ i. print_kind d.kind ++ codes " " ++ d.ident ++ typed_bare d.ty i ++ initializer_bare d.initializer i

-- ---- statements
simple_bare : (s : tree.UnattributedStatement)
    → printed.unended_unattributed (bare.bare_simple s) ≡ printed.unended_unattributed s
simple_bare (tree.assignment a) = λ i. node_bare a.lhs i ++ codes " "
    ++ assignment_operator_text a.operator ++ codes " " ++ node_bare a.rhs i
simple_bare (tree.increment j) = λ i. node_bare j.expression i ++ codes "++"
simple_bare (tree.decrement d) = λ i. node_bare d.expression i ++ codes "--"
simple_bare (tree.return_statement r) = λ i. codes "return" ++ returned_bare r.expression i
simple_bare (tree.function_call_statement c) = call_bare c.call
simple_bare (tree.const_assert c) = λ i. codes "const_assert " ++ node_bare c.expression i
simple_bare (tree.declaration d) = declaration_bare d
simple_bare s = refl

simple_end_bare : (attributes : Attributes) (s : tree.UnattributedStatement)
    → ending (tree.statement (bare_attributes attributes) (bare.bare_simple s)) ≡ ending (tree.statement attributes s)
simple_end_bare attributes tree.void = refl
simple_end_bare attributes s = refl

print_is_kept : KeepsPrint bare.without_spans
print_is_kept = record {
  attributes = attribute_line_bare;
  expression = node_bare;
  condition = condition_bare;
  selectors = selectors_bare;
  break_if = break_if_bare;
  simple = simple_bare;
  simple_end = simple_end_bare;
  left_out = λ s e. absurd (true≢false (sym e));
}

pub statement_bare : (s : tree.Statement) → printed.print_statement (bare.bare_statement s) ≡ printed.print_statement s
statement_bare = statement_kept bare.without_spans print_is_kept

pub compound_bare : (b : tree.CompoundStatement)
    → printed.print_compound (bare.bare_compound b) ≡ printed.print_compound b
compound_bare = compound_kept bare.without_spans print_is_kept
