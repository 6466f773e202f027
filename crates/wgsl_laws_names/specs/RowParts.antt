-- Short ways to write the trees of rows, whose spans are left out.
use Rattle.std.specs.Prelude.{ℕ, pos, List, [], ◌∷◌, map, Option, Some, None, codes}
use Rattle.wgsl_model.specs.Trees.Operators.{BinaryOperator.addition}
use Rattle.wgsl_model.specs.Trees.Spanned.{Spanned, spanned}
use Rattle.wgsl_model.specs.Trees.WithoutSpans.{no_span}
use Rattle.wgsl_model.specs.Trees.Expressions.{LiteralExpression, ExpressionNode, ExpressionNode.expression_node, Expression, FunctionCall.call, TypeExpression, TypeExpression.type_expression, TemplateArguments.no_template, TemplateArguments.template, expressions_of}
use Rattle.wgsl_model.specs.Trees.Attributes.{OneArgument, NoArgument, Attribute, Attributes}
use Rattle.wgsl_model.specs.Trees.Attributed.{with_attributes}
use Rattle.wgsl_model.specs.Trees.Statements.{DeclarationKind, StatementNode, StatementNode.statement_node, Statement.statement, UnattributedStatement, unattributed, CompoundStatement, compound_of, local_of, call_statement_of}
use Rattle.wgsl_model.specs.Trees.Units as unit
use Rattle.wgsl_model.specs.Grammar.ExpressionParts.{variable}
use Rattle.wgsl_model.specs.Grammar.UnitParts.{value_of}
use Rattle.wgsl_model_names.specs.Scopes.{Referent}

-- uses of which each refers to one thing
abbrev pub each_alone : List Referent → List (List Referent)
each_alone = map (λ referent. referent ∷ [])

-- names
abbrev pub a : List ℕ
a = codes "a"

abbrev pub b : List ℕ
b = codes "b"

abbrev pub c : List ℕ
c = codes "c"

abbrev pub d : List ℕ
d = codes "d"

abbrev pub f : List ℕ
f = codes "f"

abbrev pub g : List ℕ
g = codes "g"

abbrev pub n : List ℕ
n = codes "n"

abbrev pub s : List ℕ
s = codes "s"

abbrev pub t : List ℕ
t = codes "t"

abbrev pub x : List ℕ
x = codes "x"

abbrev pub y : List ℕ
y = codes "y"

abbrev pub z : List ℕ
z = codes "z"

-- ---- expressions and types
abbrev pub at : Expression → ExpressionNode
at e = expression_node e no_span

-- a name
abbrev pub name : List ℕ → ExpressionNode
name word = at (variable word)

abbrev pub number : ℕ → ExpressionNode
number value = at (Expression.literal (LiteralExpression.abstract_int (pos value)))

-- `left + right`
abbrev pub sum : ExpressionNode → ExpressionNode → ExpressionNode
sum left right = at (Expression.binary addition left right)

-- `word(arguments)`
abbrev pub call_of : List ℕ → List ExpressionNode → ExpressionNode
call_of word arguments =
    at (Expression.function_call (call (type_expression word no_template) (expressions_of arguments)))

-- a type without a template, and with one
abbrev pub type_named : List ℕ → TypeExpression
type_named word = type_expression word no_template

abbrev pub templated : List ℕ → List ExpressionNode → TypeExpression
templated word arguments = type_expression word (template (expressions_of arguments))

-- ---- attributes and statements
abbrev pub attributes_of : List Attribute → Attributes
attributes_of [] = []
attributes_of (attribute ∷ more) = spanned attribute no_span ∷ attributes_of more

-- `@if(word)`, `@elif(word)` and `@else`
abbrev pub if_set : List ℕ → Attribute
if_set word = Attribute.with_argument OneArgument.if_attribute (name word)

abbrev pub elif_set : List ℕ → Attribute
elif_set word = Attribute.with_argument OneArgument.elif_attribute (name word)

abbrev pub else_set : Attribute
else_set = Attribute.without_argument NoArgument.else_attribute

abbrev pub statement_of : UnattributedStatement → StatementNode
statement_of content = statement_node (unattributed content) no_span

-- `word();`
abbrev pub call_alone : List ℕ → StatementNode
call_alone word = statement_of (call_statement_of (call (type_expression word no_template) (expressions_of [])))

-- `attributes let word = value;`
abbrev pub let_under : List Attribute → List ℕ → ExpressionNode → StatementNode
let_under attributes word value = statement_node (statement (attributes_of attributes)
    (local_of DeclarationKind.let_kind (word, None) (Some value))) no_span

-- `let word = value;`
abbrev pub let_is : List ℕ → ExpressionNode → StatementNode
let_is = let_under []

abbrev pub block : List StatementNode → CompoundStatement
block = compound_of []

-- ---- modules
abbrev pub declaration_of : Attributes → unit.UnattributedDeclaration → Spanned unit.GlobalDeclaration
declaration_of attributes node = spanned (with_attributes attributes node) no_span

-- `attributes const word = value;`
abbrev pub const_under : List Attribute → List ℕ → ExpressionNode → Spanned unit.GlobalDeclaration
const_under attributes word value =
    declaration_of (attributes_of attributes) (value_of DeclarationKind.const_kind (word, None) (Some value))

-- `const word = value;`
abbrev pub const_is : List ℕ → ExpressionNode → Spanned unit.GlobalDeclaration
const_is = const_under []

-- `word: ty`, a parameter
abbrev pub parameter : List ℕ → List ℕ → unit.FormalParameter
parameter word ty = record { attributes = []; ident = word; ty = type_named ty }

-- `fn word(parameters) -> attributes result { statements }`
abbrev pub function_with_result : List ℕ → List unit.FormalParameter → Attributes → Option TypeExpression
    → List StatementNode → unit.UnattributedDeclaration
function_with_result word parameters attributes result statements = unit.UnattributedDeclaration.function (record {
  ident = word;
  parameters = parameters;
  return_attributes = attributes;
  return_type = result;
  body = block statements;
})

-- the same without attributes
abbrev pub function_returning : List ℕ → List unit.FormalParameter → Option TypeExpression
    → List StatementNode → unit.UnattributedDeclaration
function_returning word parameters = function_with_result word parameters []

-- `attributes fn word() {}`
abbrev pub empty_function : List Attribute → List ℕ → Spanned unit.GlobalDeclaration
empty_function attributes word = declaration_of (attributes_of attributes) (function_returning word [] None [])

-- `fn word(parameters) { statements }`
abbrev pub function_of : List ℕ → List unit.FormalParameter → List StatementNode → Spanned unit.GlobalDeclaration
function_of word parameters statements = declaration_of [] (function_returning word parameters None statements)

abbrev pub module_of : List (Spanned unit.GlobalDeclaration) → unit.TranslationUnit
module_of declarations = record { global_directives = []; global_declarations = declarations }
