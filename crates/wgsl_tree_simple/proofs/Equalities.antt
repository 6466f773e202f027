-- `==` of declarations, and of the statements that hold no others, part by part.
use Rattle.std.proofs.Common.{Bool, true, false, ◌&&◌, ◌==◌, List, Option, ◌≡◌, ◌↔◌, refl, ◌∙◌, string_bytes}
use denote.Enum.Declared.{tag_of}
use Rattle.std.specs.Option.{option_map}
use Rattle.std.specs.Cmp.Lexicographic.{pointwise}
use Rattle.wgsl_model.specs.Trees.Attributed.{Attributed}
use Rattle.wgsl_model.specs.Trees.Attributes.{Attributes}
use Rattle.wgsl_model.specs.Trees.StatementsWithoutSpans.{bare_attributed, bare_statement, bare_declaration, bare_assignment, bare_increment, bare_decrement, bare_return, bare_call_statement, bare_assert, bare_break_if, bare_selector}
use Rattle.wgsl_span.specs.declared.Spanned.{Spanned}
use Rattle.wgsl_span.specs.Spanned.{spanned_node}
use Rattle.wgsl_tree_words.specs.declared.words_nodes.AccessMode.{AccessMode}
use Rattle.wgsl_tree_words.specs.declared.words_nodes.AccessMode.TheVariants as access_mode
use Rattle.wgsl_tree_words.specs.declared.words_nodes.AddressSpace.{AddressSpace}
use Rattle.wgsl_tree_words.specs.declared.words_nodes.AddressSpace.TheVariants as address_space
use Rattle.wgsl_tree_words.specs.declared.words_nodes.AssignmentOperator.{AssignmentOperator}
use Rattle.wgsl_tree_words.specs.declared.words_nodes.AssignmentOperator.TheVariants as operator
use Rattle.wgsl_tree_words.specs.contracts.words_nodes.AccessMode.{the_type as access_mode_type}
use Rattle.wgsl_tree_words.specs.contracts.words_nodes.AddressSpace.{the_type as address_space_type}
use Rattle.wgsl_tree_words.specs.contracts.words_nodes.AssignmentOperator.{the_type as operator_type}
use Rattle.wgsl_tree_words.specs.View.{access_mode_view, address_space_view, assignment_operator_view}
use Rattle.wgsl_tree_expression.specs.View.{expression_node_view, type_expression_view, function_call_view}
use Rattle.wgsl_tree_attribute.specs.declared.attribute.Attribute.{Attribute}
use Rattle.wgsl_tree_attribute.specs.Equality.{equal_attributes}
use Rattle.wgsl_tree_attribute.proofs.Equalities.{options_same, attribute_lists_same, agree}
use Rattle.wgsl_tree_code.specs.Code.{Code, optional, pair_of}
use Rattle.wgsl_model.specs.Trees.NamedValues as plain
use Rattle.wgsl_tree_code.specs.Same.{same}
use Rattle.wgsl_tree_code.specs.WordNodes.{access_mode_code, address_space_code}
use Rattle.wgsl_tree_code.specs.ExpressionNodes.{expression_node_code, type_code, call_code}
use Rattle.wgsl_tree_attribute.specs.View.{attributes_view}
use Rattle.wgsl_tree_code.specs.AttributeNodes.{attributes_code}
use Rattle.wgsl_tree_code.specs.Code.{attributed_code}
use Rattle.wgsl_tree_code.specs.OperatorNodes.{assignment_operator_code}
use Rattle.wgsl_tree_code.proofs.Reading.{expression_node_there, type_expression_there}
use Rattle.wgsl_tree_code.specs.StatementNodes.{declaration_kind_code, declaration_code, assignment_code, increment_code, decrement_code, return_code, call_statement_code, assert_code, break_if_code, selector_code}
use Rattle.wgsl_tree_code.specs.StatementNodes.{statement_code}
use Rattle.wgsl_tree_code.proofs.SpanlessStatementNodes as law
use Rattle.wgsl_tree_simple.specs.declared.declaration.DeclarationKind.{DeclarationKind}
use Rattle.wgsl_tree_simple.specs.declared.declaration.DeclarationKind.TheVariants as kind
use Rattle.wgsl_tree_simple.specs.declared.declaration.Declaration.{Declaration}
use Rattle.wgsl_tree_simple.specs.declared.assignment.AssignmentStatement.{AssignmentStatement}
use Rattle.wgsl_tree_simple.specs.declared.increment.IncrementStatement.{IncrementStatement}
use Rattle.wgsl_tree_simple.specs.declared.increment.DecrementStatement.{DecrementStatement}
use Rattle.wgsl_tree_simple.specs.declared.single_word.BreakStatement.{BreakStatement}
use Rattle.wgsl_tree_simple.specs.declared.single_word.ContinueStatement.{ContinueStatement}
use Rattle.wgsl_tree_simple.specs.declared.single_word.DiscardStatement.{DiscardStatement}
use Rattle.wgsl_tree_simple.specs.declared.return_statement.ReturnStatement.{ReturnStatement}
use Rattle.wgsl_tree_simple.specs.declared.call_statement.FunctionCallStatement.{FunctionCallStatement}
use Rattle.wgsl_tree_simple.specs.declared.const_assert.ConstAssert.{ConstAssert}
use Rattle.wgsl_tree_simple.specs.declared.break_if.BreakIfStatement.{BreakIfStatement}
use Rattle.wgsl_tree_simple.specs.declared.case_selector.CaseSelector.{CaseSelector}
use Rattle.wgsl_tree_simple.specs.declared.case_selector.CaseSelector.TheVariants as selector
use Rattle.wgsl_tree_simple.specs.View.{var_template_view, declaration_kind_view, declaration_view, assignment_view, increment_view, decrement_view, break_view, continue_view, discard_view, return_view, call_statement_view, assert_view, break_if_view, selector_view}
use Rattle.wgsl_tree_simple.specs.Equality.{equal_kinds, equal_declarations, equal_assignments, equal_increments, equal_decrements, equal_breaks, equal_continues, equal_discards, equal_returns, equal_call_statements, equal_asserts, equal_break_ifs, equal_selectors}

-- named values and operators are compared by their words
mode_same : (x y : AccessMode)
    → (tag_of access_mode_type x == tag_of access_mode_type y)
    ≡ same (access_mode_code (access_mode_view x)) (access_mode_code (access_mode_view y))
mode_same access_mode.Read access_mode.Read = refl
mode_same _ access_mode.Read = refl
mode_same _ _ = refl

space_same : (x y : AddressSpace)
    → (tag_of address_space_type x == tag_of address_space_type y)
    ≡ same (address_space_code (address_space_view x)) (address_space_code (address_space_view y))
space_same address_space.Function address_space.Function = refl
space_same _ address_space.Function = refl
space_same _ _ = refl

operator_same : (x y : AssignmentOperator)
    → (tag_of operator_type x == tag_of operator_type y) ≡ same (assignment_operator_code
    (assignment_operator_view x)) (assignment_operator_code (assignment_operator_view y))
operator_same operator.Equal operator.Equal = refl
operator_same _ operator.Equal = refl
operator_same _ _ = refl

-- the template of a `var`
abbrev var_template_code : plain.AddressSpace × Option plain.AccessMode → Code
var_template_code p = pair_of (address_space_code p.0) (optional access_mode_code p.1)

and_one : (b : Bool) → b ≡ b && true
and_one true = refl
and_one false = refl

templates_same : (s t : Option (AddressSpace × Option AccessMode))
    → equal_kinds (kind.Var s) (kind.Var t) ≡ same (optional var_template_code
    (option_map var_template_view s)) (optional var_template_code (option_map var_template_view t))
templates_same = options_same var_template_view var_template_code _ (λ p q.
    let modes = options_same access_mode_view access_mode_code _ mode_same (λ x. refl) p.1 q.1 ∙ and_one _ in
    λ i. space_same p.0 q.0 i && modes i) (λ x. refl)

pub kinds_same : (a b : DeclarationKind) → equal_kinds a b
    ≡ same (declaration_kind_code (declaration_kind_view a)) (declaration_kind_code (declaration_kind_view b))
kinds_same kind.Const kind.Const = refl
kinds_same kind.Const other = refl
kinds_same kind.Override kind.Override = refl
kinds_same kind.Override other = refl
kinds_same kind.Let kind.Let = refl
kinds_same kind.Let other = refl
kinds_same (kind.Var s) (kind.Var t) = templates_same s t
kinds_same (kind.Var s) other = refl

pub declarations_same : (a b : Declaration)
    → equal_declarations a b ≡ same (attributed_code declaration_code (declaration_view a))
    (attributed_code declaration_code (declaration_view b))
declarations_same a b =
    let types = options_same type_expression_view type_code _ (λ x y. refl)
    (λ x. type_expression_there (type_expression_view x)) a.ty b.ty in
    let initializers = options_same expression_node_view expression_node_code _ (λ x y. refl) (λ x. refl)
    a.initializer b.initializer in
    λ i. attribute_lists_same a.attributes.items b.attributes.items i
    && (kinds_same a.kind b.kind i && (pointwise ◌==◌ (string_bytes a.ident.name)
    (string_bytes b.ident.name) && (types i && initializers i)))

pub assignments_same : (a b : AssignmentStatement)
    → equal_assignments a b ≡ same (attributed_code assignment_code (assignment_view a))
    (attributed_code assignment_code (assignment_view b))
assignments_same a b = λ i.
    attribute_lists_same a.attributes.items b.attributes.items i
    && (operator_same a.operator b.operator i
    && (same (expression_node_code (expression_node_view a.lhs)) (expression_node_code (expression_node_view b.lhs))
    && same (expression_node_code (expression_node_view a.rhs)) (expression_node_code (expression_node_view b.rhs))))

pub increments_same : (a b : IncrementStatement) → equal_increments a b
    ≡ same (attributed_code increment_code (increment_view a)) (attributed_code increment_code (increment_view b))
increments_same a b = λ i. attribute_lists_same a.attributes.items b.attributes.items i
    && same (expression_node_code (expression_node_view a.expression))
    (expression_node_code (expression_node_view b.expression))

pub decrements_same : (a b : DecrementStatement) → equal_decrements a b
    ≡ same (attributed_code decrement_code (decrement_view a)) (attributed_code decrement_code (decrement_view b))
decrements_same a b = λ i. attribute_lists_same a.attributes.items b.attributes.items i
    && same (expression_node_code (expression_node_view a.expression))
    (expression_node_code (expression_node_view b.expression))

pub breaks_same : (a b : BreakStatement)
    → equal_breaks a b ≡ same (statement_code (break_view a)) (statement_code (break_view b))
breaks_same a b = attribute_lists_same a.attributes.items b.attributes.items

pub continues_same : (a b : ContinueStatement)
    → equal_continues a b ≡ same (statement_code (continue_view a)) (statement_code (continue_view b))
continues_same a b = attribute_lists_same a.attributes.items b.attributes.items

pub discards_same : (a b : DiscardStatement)
    → equal_discards a b ≡ same (statement_code (discard_view a)) (statement_code (discard_view b))
discards_same a b = attribute_lists_same a.attributes.items b.attributes.items

pub returns_same : (a b : ReturnStatement) → equal_returns a b
    ≡ same (attributed_code return_code (return_view a)) (attributed_code return_code (return_view b))
returns_same a b =
    let values = options_same expression_node_view expression_node_code _ (λ x y. refl) (λ x. refl)
    a.expression b.expression in
    λ i. attribute_lists_same a.attributes.items b.attributes.items i && values i

pub call_statements_same : (a b : FunctionCallStatement)
    → equal_call_statements a b ≡ same (attributed_code call_statement_code (call_statement_view a))
    (attributed_code call_statement_code (call_statement_view b))
call_statements_same a b = λ i. attribute_lists_same a.attributes.items b.attributes.items i
    && same (call_code (function_call_view a.call)) (call_code (function_call_view b.call))

pub asserts_same : (a b : ConstAssert) → equal_asserts a b
    ≡ same (attributed_code assert_code (assert_view a)) (attributed_code assert_code (assert_view b))
asserts_same a b = λ i. attribute_lists_same a.attributes.items b.attributes.items i
    && same (expression_node_code (expression_node_view a.expression))
    (expression_node_code (expression_node_view b.expression))

pub break_ifs_same : (a b : BreakIfStatement) → equal_break_ifs a b
    ≡ same (attributed_code break_if_code (break_if_view a)) (attributed_code break_if_code (break_if_view b))
break_ifs_same a b = λ i. attribute_lists_same a.attributes.items b.attributes.items i
    && same (expression_node_code (expression_node_view a.expression))
    (expression_node_code (expression_node_view b.expression))

pub selectors_same : (a b : CaseSelector)
    → equal_selectors a b ≡ same (selector_code (selector_view a)) (selector_code (selector_view b))
selectors_same selector.Default selector.Default = refl
selectors_same selector.Default other = refl
selectors_same (selector.Expression e) (selector.Expression f) = refl
selectors_same (selector.Expression e) other = refl

-- of nodes after their attributes `==` says that the views are one ignoring spans
pub agree_after : {X Node : Type 0} (equal : X → X → Bool) (view : X → Attributed Node)
    (code : Attributes → Node → Code)
    → ((a b : X) → equal a b ≡ same (attributed_code code (view a)) (attributed_code code (view b)))
    → (bare : Node → Node)
    → ((m n : Attributed Node) → (same (attributed_code code m) (attributed_code code n) ≡ true)
    ↔ (bare_attributed bare m ≡ bare_attributed bare n))
    → (a b : X) → (equal a b ≡ true) ↔ (bare_attributed bare (view a) ≡ bare_attributed bare (view b))
agree_after equal view code alike bare law = agree equal view (attributed_code code) alike (bare_attributed bare) law

pub kinds_agree : (a b : DeclarationKind)
    → (equal_kinds a b ≡ true) ↔ (declaration_kind_view a ≡ declaration_kind_view b)
kinds_agree = agree equal_kinds declaration_kind_view declaration_kind_code kinds_same
    (λ k. k) law.declaration_kind_equal

pub declarations_agree : (a b : Declaration)
    → (equal_declarations a b ≡ true) ↔ (bare_attributed bare_declaration (declaration_view a)
    ≡ bare_attributed bare_declaration (declaration_view b))
declarations_agree = agree_after equal_declarations declaration_view declaration_code
    declarations_same bare_declaration law.declaration_equal

pub assignments_agree : (a b : AssignmentStatement) → (equal_assignments a b ≡ true)
    ↔ (bare_attributed bare_assignment (assignment_view a) ≡ bare_attributed bare_assignment (assignment_view b))
assignments_agree = agree_after equal_assignments assignment_view assignment_code assignments_same
    bare_assignment law.assignment_statement_equal

pub increments_agree : (a b : IncrementStatement) → (equal_increments a b ≡ true)
    ↔ (bare_attributed bare_increment (increment_view a) ≡ bare_attributed bare_increment (increment_view b))
increments_agree = agree_after equal_increments increment_view increment_code increments_same
    bare_increment law.increment_statement_equal

pub decrements_agree : (a b : DecrementStatement) → (equal_decrements a b ≡ true)
    ↔ (bare_attributed bare_decrement (decrement_view a) ≡ bare_attributed bare_decrement (decrement_view b))
decrements_agree = agree_after equal_decrements decrement_view decrement_code decrements_same
    bare_decrement law.decrement_statement_equal

pub breaks_agree : (a b : BreakStatement)
    → (equal_breaks a b ≡ true) ↔ (bare_statement (break_view a) ≡ bare_statement (break_view b))
breaks_agree = agree equal_breaks break_view statement_code breaks_same bare_statement law.statement_equal

pub continues_agree : (a b : ContinueStatement)
    → (equal_continues a b ≡ true) ↔ (bare_statement (continue_view a) ≡ bare_statement (continue_view b))
continues_agree = agree equal_continues continue_view statement_code continues_same bare_statement law.statement_equal

pub discards_agree : (a b : DiscardStatement)
    → (equal_discards a b ≡ true) ↔ (bare_statement (discard_view a) ≡ bare_statement (discard_view b))
discards_agree = agree equal_discards discard_view statement_code discards_same bare_statement law.statement_equal

pub returns_agree : (a b : ReturnStatement) → (equal_returns a b ≡ true)
    ↔ (bare_attributed bare_return (return_view a) ≡ bare_attributed bare_return (return_view b))
returns_agree = agree_after equal_returns return_view return_code returns_same bare_return law.return_statement_equal

pub call_statements_agree : (a b : FunctionCallStatement)
    → (equal_call_statements a b ≡ true) ↔ (bare_attributed bare_call_statement (call_statement_view a)
    ≡ bare_attributed bare_call_statement (call_statement_view b))
call_statements_agree = agree_after equal_call_statements call_statement_view call_statement_code
    call_statements_same bare_call_statement law.function_call_statement_equal

pub asserts_agree : (a b : ConstAssert) → (equal_asserts a b ≡ true)
    ↔ (bare_attributed bare_assert (assert_view a) ≡ bare_attributed bare_assert (assert_view b))
asserts_agree = agree_after equal_asserts assert_view assert_code asserts_same bare_assert law.const_assert_equal

pub break_ifs_agree : (a b : BreakIfStatement) → (equal_break_ifs a b ≡ true)
    ↔ (bare_attributed bare_break_if (break_if_view a) ≡ bare_attributed bare_break_if (break_if_view b))
break_ifs_agree = agree_after equal_break_ifs break_if_view break_if_code break_ifs_same
    bare_break_if law.break_if_statement_equal

pub selectors_agree : (a b : CaseSelector)
    → (equal_selectors a b ≡ true) ↔ (bare_selector (selector_view a) ≡ bare_selector (selector_view b))
selectors_agree = agree equal_selectors selector_view selector_code selectors_same bare_selector law.case_selector_equal

pub ruleset statements_agree = (
  assignments_agree,
  increments_agree,
  decrements_agree,
  breaks_agree,
  continues_agree,
  discards_agree,
  returns_agree,
  call_statements_agree,
  asserts_agree,
  break_ifs_agree,
  selectors_agree,
)
