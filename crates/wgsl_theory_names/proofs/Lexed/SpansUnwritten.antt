-- The tokens that are written from a tree are the same without its spans.
use Rattle.std.proofs.Common.{◌≡◌, [], ◌∷◌, map, if◌then◌else◌, Option, Some, None, refl, codes}
use Rattle.std.specs.Option.{option_map}
use Rattle.wgsl_model.specs.Tokens.ClassTable.{SymArrow, SymAttr, SymBraceLeft, SymBraceRight, SymBracketLeft, SymBracketRight, SymColon, SymComma, SymEqual, SymMinusMinus, SymOr, SymParenLeft, SymParenRight, SymPeriod, SymPlusPlus, SymSemicolon, KwAlias, KwBreak, KwCase, KwConstAssert, KwContinuing, KwElse, KwFn, KwFor, KwIf, KwLoop, KwReturn, KwStruct, KwSwitch, KwWhile, TemplateArgsStart, TemplateArgsEnd}
use Rattle.wgsl_model.specs.Tokens.Kind.{plain}
use Rattle.wgsl_model.specs.Tokens.Raw.{kind_of_word}
use Rattle.wgsl_model.specs.Trees.Expressions.{expression_node, literal, parenthesized, named_component, indexing, unary, binary, function_call, type_or_identifier, call, TypeExpression, type_expression, no_expressions, expression_before, no_template, template}
use Rattle.wgsl_model.specs.Trees.Attributes as attribute
use Rattle.wgsl_model.specs.Trees.Attributes.{one_argument_text, Attributes}
use Rattle.wgsl_model.specs.Trees.Statements as tree
use Rattle.wgsl_model.specs.Trees.Units as unit
use Rattle.wgsl_model.specs.Trees.WithoutSpans.{bare_spanned, bare_expression, bare_expression_node, bare_expressions, bare_call, bare_type, bare_template, bare_attribute, bare_attributes}
use Rattle.wgsl_model.specs.Trees.StatementsWithoutSpans as bare
use Rattle.wgsl_model.specs.Printed.Statements.{is_void}
use Rattle.wgsl_model.specs.Printed.Units as printed
use Rattle.wgsl_theory_reread.specs.CanonicalExpressions.{Writer, optional_tokens, all_tokens, further_tokens, list_tokens, unary_operator_class, binary_operator_class, expression_tokens, expression_node_tokens, call_tokens, type_tokens, template_tokens, expressions_tokens, further_expressions_tokens}
use Rattle.wgsl_theory_reread.specs.CanonicalAttributes.{after_comma, further_types_tokens, types_tokens, arguments_tokens, named_attribute_tokens, attribute_tokens, attributes_tokens}
use Rattle.wgsl_theory_reread.specs.CanonicalStatements.{kind_tokens, typed_tokens, initializer_tokens, declaration_tokens, assert_tokens, assignment_operator_class, selector_tokens, break_if_tokens, end_token, unended_tokens, unattributed_tokens, statements_tokens, compound_tokens, opened_tokens, if_tokens, if_clause_tokens, else_ifs_tokens, else_if_clause_tokens, else_tokens, else_clause_tokens, switch_tokens, clauses_tokens, switch_clause_tokens, loop_tokens, maybe_continuing_tokens, continuing_tokens, for_tokens, part_tokens, while_tokens}
use Rattle.wgsl_theory_reread.specs.CanonicalUnits.{directive_tokens, unattributed_directive_tokens, member_tokens, parameter_tokens, result_tokens, function_tokens, unattributed_declaration_tokens, kept_declaration_tokens, canonical}

-- a value without its spans is written as it is
abbrev Unchanged : {A : Type 0} → Writer A → (A → A) → Type 0
Unchanged {A} write bare = (a : A) → write (bare a) ≡ write a

optional_same : {A : Type 0} (write : Writer A) (bare : A → A) → Unchanged write bare
    → Unchanged (optional_tokens write) (option_map bare)
optional_same write bare same None = refl
optional_same write bare same (Some a) = same a

all_same : {A : Type 0} (write : Writer A) (bare : A → A) → Unchanged write bare
    → Unchanged (all_tokens write) (map bare)
all_same write bare same [] = refl
all_same write bare same (a ∷ more) = λ i rest. same a i (all_same write bare same more i rest)

further_same : {A : Type 0} (write : Writer A) (bare : A → A) → Unchanged write bare
    → Unchanged (further_tokens write) (map bare)
further_same write bare same [] = refl
further_same write bare same (a ∷ more) = λ i rest. plain SymComma ∷ same a i (further_same write bare same more i rest)

list_same : {A : Type 0} (write : Writer A) (bare : A → A) → Unchanged write bare
    → Unchanged (list_tokens write) (map bare)
list_same write bare same [] = refl
list_same write bare same (a ∷ more) = λ i rest. same a i (further_same write bare same more i rest)

-- ---- expressions and types
mutual
  expression_same : Unchanged expression_tokens bare_expression
  expression_same (literal l) = refl
  expression_same (parenthesized e) = λ i rest. plain SymParenLeft ∷ node_same e i (plain SymParenRight ∷ rest)
  expression_same (named_component base component) =
      λ i rest. node_same base i (plain SymPeriod ∷ (kind_of_word component ∷ rest))
  expression_same (indexing base index) =
      λ i rest. node_same base i (plain SymBracketLeft ∷ node_same index i (plain SymBracketRight ∷ rest))
  expression_same (unary operator operand) = λ i rest. plain (unary_operator_class operator) ∷ node_same operand i rest
  expression_same (binary operator left right) =
      λ i rest. node_same left i (plain (binary_operator_class operator) ∷ node_same right i rest)
  expression_same (function_call c) = call_same c
  expression_same (type_or_identifier t) = type_same t

  node_same : Unchanged expression_node_tokens bare_expression_node
  node_same (expression_node e span) = expression_same e

  call_same : Unchanged call_tokens bare_call
  call_same (call ty arguments) =
      λ i rest. type_same ty i (plain SymParenLeft ∷ expressions_same arguments i (plain SymParenRight ∷ rest))

  type_same : Unchanged type_tokens bare_type
  type_same (type_expression name arguments) = λ i rest. kind_of_word name ∷ template_same arguments i rest

  template_same : Unchanged template_tokens bare_template
  template_same no_template = refl
  template_same (template arguments) =
      λ i rest. plain TemplateArgsStart ∷ expressions_same arguments i (plain TemplateArgsEnd ∷ rest)

  expressions_same : Unchanged expressions_tokens bare_expressions
  expressions_same no_expressions = refl
  expressions_same (expression_before e es) = λ i rest. node_same e i (further_expressions_same es i rest)

  further_expressions_same : Unchanged further_expressions_tokens bare_expressions
  further_expressions_same no_expressions = refl
  further_expressions_same (expression_before e es) =
      λ i rest. plain SymComma ∷ node_same e i (further_expressions_same es i rest)

maybe_node_same : Unchanged (optional_tokens expression_node_tokens) (option_map bare_expression_node)
maybe_node_same = optional_same expression_node_tokens bare_expression_node node_same

-- ---- attributes
further_argument_same : Unchanged (optional_tokens (after_comma expression_node_tokens))
    (option_map bare_expression_node)
further_argument_same None = refl
further_argument_same (Some e) = λ i rest. plain SymComma ∷ node_same e i rest

further_types_same : Unchanged further_types_tokens (map bare_type)
further_types_same [] = refl
further_types_same (t ∷ ts) = λ i rest. plain SymOr ∷ type_same t i (further_types_same ts i rest)

types_same : Unchanged types_tokens (map bare_type)
types_same [] = refl
types_same (t ∷ ts) = λ i rest. type_same t i (further_types_same ts i rest)

arguments_same : Unchanged (optional_tokens arguments_tokens) (option_map (map bare_expression_node))
arguments_same None = refl
arguments_same (Some es) = λ i rest. plain SymParenLeft
    ∷ list_same expression_node_tokens bare_expression_node node_same es i (plain SymParenRight ∷ rest)

named_attribute_same : Unchanged named_attribute_tokens bare_attribute
named_attribute_same (attribute.with_argument name e) = λ i rest. kind_of_word (one_argument_text name)
    ∷ (plain SymParenLeft ∷ node_same e i (plain SymParenRight ∷ rest))
named_attribute_same (attribute.without_argument name) = refl
named_attribute_same (attribute.builtin value) = refl
named_attribute_same (attribute.diagnostic d) = refl
named_attribute_same (attribute.interpolate j) = refl
named_attribute_same (attribute.workgroup_size w) =
    λ i rest. kind_of_word (codes "workgroup_size") ∷ (plain SymParenLeft ∷ node_same w.x i
    (further_argument_same w.y i (further_argument_same w.z i (plain SymParenRight ∷ rest))))
named_attribute_same (attribute.type_constraint t) =
    λ i rest. kind_of_word (codes "type") ∷ (plain SymParenLeft ∷ (kind_of_word t.ident
    ∷ (plain SymComma ∷ types_same t.variants i (plain SymParenRight ∷ rest))))
named_attribute_same (attribute.custom c) = λ i rest. kind_of_word c.name ∷ arguments_same c.arguments i rest

attributes_same : Unchanged attributes_tokens bare_attributes
attributes_same = all_same attribute_tokens (bare_spanned bare_attribute)
    (λ a i rest. plain SymAttr ∷ named_attribute_same a.node i rest)

-- ---- statements
typed_same : Unchanged (optional_tokens typed_tokens) (option_map bare_type)
typed_same None = refl
typed_same (Some t) = λ i rest. plain SymColon ∷ type_same t i rest

initializer_same : Unchanged (optional_tokens initializer_tokens) (option_map bare_expression_node)
initializer_same None = refl
initializer_same (Some e) = λ i rest. plain SymEqual ∷ node_same e i rest

declaration_same : Unchanged declaration_tokens bare.bare_declaration
declaration_same d = λ i rest. kind_tokens d.kind
    (kind_of_word d.ident ∷ typed_same d.ty i (initializer_same d.initializer i rest))

assert_same : Unchanged assert_tokens bare.bare_assert
assert_same c = λ i rest. plain KwConstAssert ∷ node_same c.expression i rest

selector_same : Unchanged selector_tokens bare.bare_selector
selector_same tree.default_selector = refl
selector_same (tree.expression_selector e) = node_same e

break_if_same : Unchanged (optional_tokens break_if_tokens) (option_map (bare.bare_attributed bare.bare_break_if))
break_if_same None = refl
break_if_same (Some b) = λ i rest. attributes_same b.attributes i
    (plain KwBreak ∷ (plain KwIf ∷ node_same b.node.expression i (plain SymSemicolon ∷ rest)))

-- how a statement ends, and whether it is empty
end_same : Unchanged end_token bare.bare_statement
end_same (tree.statement attributes (tree.compound x)) = refl
end_same (tree.statement attributes (tree.if_statement x)) = refl
end_same (tree.statement attributes (tree.switch_statement x)) = refl
end_same (tree.statement attributes (tree.loop_statement x)) = refl
end_same (tree.statement attributes (tree.for_statement x)) = refl
end_same (tree.statement attributes (tree.while_statement x)) = refl
end_same (tree.statement attributes s) = refl

void_same : (s : tree.Statement) → is_void (bare.bare_statement s) ≡ is_void s
void_same (tree.statement attributes tree.void) = refl
void_same (tree.statement attributes s) = refl

mutual
  unended_same : Unchanged unended_tokens bare.bare_statement
  unended_same (tree.statement attributes s) = λ i rest. attributes_same attributes i (unattributed_same s i rest)

  unattributed_same : Unchanged unattributed_tokens bare.bare_unattributed
  unattributed_same tree.void = refl
  unattributed_same (tree.compound ss) =
      λ i rest. plain SymBraceLeft ∷ statements_same ss i (plain SymBraceRight ∷ rest)
  unattributed_same (tree.assignment a) =
      λ i rest. node_same a.lhs i (plain (assignment_operator_class a.operator) ∷ node_same a.rhs i rest)
  unattributed_same (tree.increment s) = λ i rest. node_same s.expression i (plain SymPlusPlus ∷ rest)
  unattributed_same (tree.decrement s) = λ i rest. node_same s.expression i (plain SymMinusMinus ∷ rest)
  unattributed_same (tree.if_statement s) = if_same s
  unattributed_same (tree.switch_statement s) = switch_same s
  unattributed_same (tree.loop_statement s) = loop_same s
  unattributed_same (tree.for_statement s) = for_same s
  unattributed_same (tree.while_statement s) = while_same s
  unattributed_same tree.break_statement = refl
  unattributed_same tree.continue_statement = refl
  unattributed_same tree.discard_statement = refl
  unattributed_same (tree.return_statement s) = λ i rest. plain KwReturn ∷ maybe_node_same s.expression i rest
  unattributed_same (tree.function_call_statement s) = call_same s.call
  unattributed_same (tree.const_assert c) = assert_same c
  unattributed_same (tree.declaration d) = declaration_same d

  statements_same : Unchanged statements_tokens bare.bare_statements
  statements_same tree.no_statements = refl
  statements_same (tree.statement_before (tree.statement_node s span) ss) =
      λ i rest. if void_same s i then statements_same ss i rest
      else unended_same s i (end_same s i (statements_same ss i rest))

  compound_same : Unchanged compound_tokens bare.bare_compound
  compound_same (tree.compound_statement attributes ss) = λ i rest. attributes_same attributes i
      (plain SymBraceLeft ∷ statements_same ss i (plain SymBraceRight ∷ rest))

  opened_same : Unchanged opened_tokens bare.bare_compound
  opened_same (tree.compound_statement attributes ss) =
      λ i rest. attributes_same attributes i (plain SymBraceLeft ∷ statements_same ss i rest)

  if_same : Unchanged if_tokens (tree.changed_if bare.without_spans)
  if_same (tree.if_else clause others last) =
      λ i rest. if_clause_same clause i (else_ifs_same others i (else_same last i rest))

  if_clause_same : Unchanged if_clause_tokens bare.bare_if_clause
  if_clause_same (tree.if_clause e block) = λ i rest. plain KwIf ∷ node_same e i (compound_same block i rest)

  else_ifs_same : Unchanged else_ifs_tokens bare.bare_else_ifs
  else_ifs_same tree.no_else_ifs = refl
  else_ifs_same (tree.else_if_before c cs) = λ i rest. else_if_clause_same c i (else_ifs_same cs i rest)

  else_if_clause_same : Unchanged else_if_clause_tokens bare.bare_else_if_clause
  else_if_clause_same (tree.else_if_clause attributes e block) = λ i rest. attributes_same attributes i
      (plain KwElse ∷ (plain KwIf ∷ node_same e i (compound_same block i rest)))

  else_same : Unchanged else_tokens bare.bare_else
  else_same tree.no_else = refl
  else_same (tree.one_else c) = else_clause_same c

  else_clause_same : Unchanged else_clause_tokens bare.bare_else_clause
  else_clause_same (tree.else_clause attributes block) =
      λ i rest. attributes_same attributes i (plain KwElse ∷ compound_same block i rest)

  switch_same : Unchanged switch_tokens (tree.changed_switch bare.without_spans)
  switch_same (tree.switch e body_attributes cs) =
      λ i rest. plain KwSwitch ∷ node_same e i (attributes_same body_attributes i
      (plain SymBraceLeft ∷ clauses_same cs i (plain SymBraceRight ∷ rest)))

  clauses_same : Unchanged clauses_tokens bare.bare_clauses
  clauses_same tree.no_clauses = refl
  clauses_same (tree.clause_before c cs) = λ i rest. switch_clause_same c i (clauses_same cs i rest)

  switch_clause_same : Unchanged switch_clause_tokens bare.bare_switch_clause
  switch_clause_same (tree.switch_clause attributes selectors block) =
      λ i rest. attributes_same attributes i (plain KwCase
      ∷ list_same selector_tokens bare.bare_selector selector_same selectors i (compound_same block i rest))

  loop_same : Unchanged loop_tokens (tree.changed_loop bare.without_spans)
  loop_same (tree.repeat body last) =
      λ i rest. plain KwLoop ∷ opened_same body i (maybe_continuing_same last i (plain SymBraceRight ∷ rest))

  maybe_continuing_same : Unchanged maybe_continuing_tokens bare.bare_maybe_continuing
  maybe_continuing_same tree.no_continuing = refl
  maybe_continuing_same (tree.one_continuing c) = continuing_same c

  continuing_same : Unchanged continuing_tokens bare.bare_continuing
  continuing_same (tree.continuing attributes body condition) =
      λ i rest. attributes_same attributes i (plain KwContinuing
      ∷ opened_same body i (break_if_same condition i (plain SymBraceRight ∷ rest)))

  for_same : Unchanged for_tokens (tree.changed_for bare.without_spans)
  for_same (tree.repeat_for init condition update block) =
      λ i rest. plain KwFor ∷ (plain SymParenLeft
      ∷ part_same init i (plain SymSemicolon ∷ maybe_node_same condition i
      (plain SymSemicolon ∷ part_same update i (plain SymParenRight ∷ compound_same block i rest))))

  part_same : Unchanged part_tokens bare.bare_part
  part_same tree.no_statement = refl
  part_same (tree.one_statement (tree.statement_node s span)) = unended_same s

  while_same : Unchanged while_tokens (tree.changed_while bare.without_spans)
  while_same (tree.repeat_while e block) = λ i rest. plain KwWhile ∷ node_same e i (compound_same block i rest)

-- ---- modules
directive_same : Unchanged directive_tokens bare.bare_directive
directive_same d = λ i rest. attributes_same d.attributes i (unattributed_directive_tokens d.node rest)

member_same : Unchanged member_tokens (bare_spanned bare.bare_member)
member_same m = λ i rest. attributes_same m.node.attributes i
    (kind_of_word m.node.ident ∷ (plain SymColon ∷ type_same m.node.ty i rest))

parameter_same : Unchanged parameter_tokens bare.bare_parameter
parameter_same p = λ i rest. attributes_same p.attributes i
    (kind_of_word p.ident ∷ (plain SymColon ∷ type_same p.ty i rest))

result_same : (attributes : Attributes) (t : Option TypeExpression)
    → result_tokens (bare_attributes attributes) (option_map bare_type t) ≡ result_tokens attributes t
result_same attributes None = refl
result_same attributes (Some t) =
    λ i rest. plain SymArrow ∷ attributes_same attributes i (type_same t i rest)

function_same : Unchanged function_tokens bare.bare_function
function_same f = λ i rest. plain KwFn ∷ (kind_of_word f.ident ∷ (plain SymParenLeft
    ∷ list_same parameter_tokens bare.bare_parameter parameter_same f.parameters i (plain SymParenRight
    ∷ result_same f.return_attributes f.return_type i (compound_same f.body i rest))))

content_same : Unchanged unattributed_declaration_tokens bare.bare_unattributed_declaration
content_same unit.void = refl
content_same (unit.declaration d) = λ i rest. declaration_same d i (plain SymSemicolon ∷ rest)
content_same (unit.type_alias a) = λ i rest. plain KwAlias
    ∷ (kind_of_word a.ident ∷ (plain SymEqual ∷ type_same a.ty i (plain SymSemicolon ∷ rest)))
content_same (unit.structure s) =
    λ i rest. plain KwStruct ∷ (kind_of_word s.ident ∷ (plain SymBraceLeft
    ∷ list_same member_tokens (bare_spanned bare.bare_member) member_same s.members i (plain SymBraceRight ∷ rest)))
content_same (unit.function f) = function_same f
content_same (unit.const_assert c) = λ i rest. assert_same c i (plain SymSemicolon ∷ rest)

void_declaration_same : (d : unit.UnattributedDeclaration)
    → printed.is_void_declaration (bare.bare_unattributed_declaration d) ≡ printed.is_void_declaration d
void_declaration_same unit.void = refl
void_declaration_same d = refl

declaration_kept_same : Unchanged kept_declaration_tokens (bare_spanned bare.bare_global_declaration)
declaration_kept_same d = λ i rest. if void_declaration_same d.node.node i then rest
    else attributes_same d.node.attributes i (content_same d.node.node i rest)

-- what is written from a module
pub canonical_bare : (u : unit.TranslationUnit) → canonical (bare.bare_unit u) ≡ canonical u
canonical_bare u = λ i. all_same directive_tokens bare.bare_directive directive_same u.global_directives i
    (all_same kept_declaration_tokens (bare_spanned bare.bare_global_declaration) declaration_kept_same
    u.global_declarations i [])
