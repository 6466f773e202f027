-- Trees with each use and each declaration renamed, and all else as it is.
use Rattle.std.specs.Prelude.{ℕ, false, List, map}
use Rattle.std.specs.Option.{option_map}
use Rattle.wgsl_model.specs.Trees.Spanned.{Spanned}
use Rattle.wgsl_model.specs.Trees.Expressions.{ExpressionNode, expression_node, Expression, literal, parenthesized, named_component, indexing, unary, binary, function_call, type_or_identifier, FunctionCall, call, TypeExpression, type_expression, ExpressionNodes, no_expressions, expression_before, TemplateArguments, no_template, template}
use Rattle.wgsl_model.specs.Trees.Attributes.{Attribute, with_argument, if_attribute, elif_attribute, workgroup_size, type_constraint, Attributes}
use Rattle.wgsl_model.specs.Trees.Attributed.{Attributed}
use Rattle.wgsl_model.specs.Trees.Statements as tree
use Rattle.wgsl_model.specs.Trees.Units as unit

-- what is done to a name
abbrev pub Renaming : Type 0
Renaming = List ℕ → List ℕ

-- ---- expressions and types
abbrev mutual
  pub renamed_expression : Renaming → Expression → Expression
  renamed_expression f (literal l) = literal l
  renamed_expression f (parenthesized e) = parenthesized (renamed_node f e)
  renamed_expression f (named_component base component) = named_component (renamed_node f base) component
  renamed_expression f (indexing base index) = indexing (renamed_node f base) (renamed_node f index)
  renamed_expression f (unary operator operand) = unary operator (renamed_node f operand)
  renamed_expression f (binary operator left right) = binary operator (renamed_node f left) (renamed_node f right)
  renamed_expression f (function_call c) = function_call (renamed_call f c)
  renamed_expression f (type_or_identifier t) = type_or_identifier (renamed_type f t)

  pub renamed_node : Renaming → ExpressionNode → ExpressionNode
  renamed_node f (expression_node e span) = expression_node (renamed_expression f e) span

  pub renamed_expressions : Renaming → ExpressionNodes → ExpressionNodes
  renamed_expressions f no_expressions = no_expressions
  renamed_expressions f (expression_before e es) = expression_before (renamed_node f e) (renamed_expressions f es)

  pub renamed_call : Renaming → FunctionCall → FunctionCall
  renamed_call f (call ty arguments) = call (renamed_type f ty) (renamed_expressions f arguments)

  pub renamed_type : Renaming → TypeExpression → TypeExpression
  renamed_type f (type_expression name arguments) = type_expression (f name) (renamed_template f arguments)

  pub renamed_template : Renaming → TemplateArguments → TemplateArguments
  renamed_template f no_template = no_template
  renamed_template f (template arguments) = template (renamed_expressions f arguments)

-- ---- attributes
abbrev pub renamed_attribute : Renaming → Attribute → Attribute
renamed_attribute f (with_argument if_attribute e) = with_argument if_attribute e
renamed_attribute f (with_argument elif_attribute e) = with_argument elif_attribute e
renamed_attribute f (with_argument name e) = with_argument name (renamed_node f e)
renamed_attribute f (workgroup_size w) = workgroup_size (record {
  x = renamed_node f w.x;
  y = option_map (renamed_node f) w.y;
  z = option_map (renamed_node f) w.z;
})
renamed_attribute f (type_constraint t) =
    type_constraint (record { ident = f t.ident; variants = map (renamed_type f) t.variants })
renamed_attribute f a = a

-- a node with its span
abbrev pub renamed_spanned : {Node : Type 0} → (Node → Node) → Spanned Node → Spanned Node
renamed_spanned renamed s = record s { node = renamed s.node }

abbrev pub renamed_attributes : Renaming → Attributes → Attributes
renamed_attributes f = map (renamed_spanned (renamed_attribute f))

-- a node after its attributes
abbrev pub renamed_attributed : {Node : Type 0} → Renaming → (Node → Node) → Attributed Node → Attributed Node
renamed_attributed f renamed a = record { attributes = renamed_attributes f a.attributes; node = renamed a.node }

-- ---- statements
abbrev pub renamed_declaration : Renaming → tree.Declaration → tree.Declaration
renamed_declaration f d = record d {
  ident = f d.ident;
  ty = option_map (renamed_type f) d.ty;
  initializer = option_map (renamed_node f) d.initializer;
}

abbrev pub renamed_assert : Renaming → tree.ConstAssert → tree.ConstAssert
renamed_assert f c = record { expression = renamed_node f c.expression }

abbrev pub renamed_break_if : Renaming → tree.BreakIfStatement → tree.BreakIfStatement
renamed_break_if f b = record { expression = renamed_node f b.expression }

abbrev pub renamed_selector : Renaming → tree.CaseSelector → tree.CaseSelector
renamed_selector f tree.default_selector = tree.default_selector
renamed_selector f (tree.expression_selector e) = tree.expression_selector (renamed_node f e)

-- a statement in which no others are
abbrev pub renamed_simple : Renaming → tree.UnattributedStatement → tree.UnattributedStatement
renamed_simple f (tree.assignment a) =
    tree.assignment (record a { lhs = renamed_node f a.lhs; rhs = renamed_node f a.rhs })
renamed_simple f (tree.increment s) = tree.increment (record { expression = renamed_node f s.expression })
renamed_simple f (tree.decrement s) = tree.decrement (record { expression = renamed_node f s.expression })
renamed_simple f (tree.return_statement s) =
    tree.return_statement (record { expression = option_map (renamed_node f) s.expression })
renamed_simple f (tree.function_call_statement s) =
    tree.function_call_statement (record { call = renamed_call f s.call })
renamed_simple f (tree.const_assert c) = tree.const_assert (renamed_assert f c)
renamed_simple f (tree.declaration d) = tree.declaration (renamed_declaration f d)
renamed_simple f s = s

-- the change that renames
abbrev pub renaming : Renaming → tree.Change
renaming f = record {
  attributes = renamed_attributes f;
  expression = renamed_node f;
  condition = option_map (renamed_node f);
  selectors = map (renamed_selector f);
  break_if = option_map (renamed_attributed f (renamed_break_if f));
  simple = renamed_simple f;
  span = λ span. span;
  leaves_out = λ s. false;
}

abbrev pub renamed_compound : Renaming → tree.CompoundStatement → tree.CompoundStatement
renamed_compound f = tree.changed_compound (renaming f)

-- ---- modules
abbrev pub renamed_member : Renaming → unit.StructMember → unit.StructMember
renamed_member f m =
    record m { attributes = renamed_attributes f m.attributes; ty = renamed_type f m.ty }

abbrev pub renamed_parameter : Renaming → unit.FormalParameter → unit.FormalParameter
renamed_parameter f p = record {
  attributes = renamed_attributes f p.attributes;
  ident = f p.ident;
  ty = renamed_type f p.ty;
}

abbrev pub renamed_function : Renaming → unit.Function → unit.Function
renamed_function f x = record {
  ident = f x.ident;
  parameters = map (renamed_parameter f) x.parameters;
  return_attributes = renamed_attributes f x.return_attributes;
  return_type = option_map (renamed_type f) x.return_type;
  body = renamed_compound f x.body;
}

abbrev pub renamed_unattributed : Renaming → unit.UnattributedDeclaration → unit.UnattributedDeclaration
renamed_unattributed f unit.void = unit.void
renamed_unattributed f (unit.declaration d) = unit.declaration (renamed_declaration f d)
renamed_unattributed f (unit.type_alias a) =
    unit.type_alias (record { ident = f a.ident; ty = renamed_type f a.ty })
renamed_unattributed f (unit.structure s) = unit.structure (record {
  ident = f s.ident;
  members = map (renamed_spanned (renamed_member f)) s.members;
})
renamed_unattributed f (unit.function x) = unit.function (renamed_function f x)
renamed_unattributed f (unit.const_assert c) = unit.const_assert (renamed_assert f c)

abbrev pub renamed_global : Renaming → unit.GlobalDeclaration → unit.GlobalDeclaration
renamed_global f = renamed_attributed f (renamed_unattributed f)

abbrev pub renamed_directive : Renaming → unit.GlobalDirective → unit.GlobalDirective
renamed_directive f = renamed_attributed f (λ d. d)

abbrev pub renamed_unit : Renaming → unit.TranslationUnit → unit.TranslationUnit
renamed_unit f u = record {
  global_directives = map (renamed_directive f) u.global_directives;
  global_declarations = map (renamed_spanned (renamed_global f)) u.global_declarations;
}
