-- Short ways to write the tokens and the trees of rows.
use Rattle.std.specs.Prelude.{ℕ, pos, List, [], Option, None}
use Rattle.grammar.specs.Tokens.{Payload.nothing, Payload.name, Payload.number, Token, Span, Fault}
use Rattle.wgsl_model.specs.Tokens.ClassTable.{Ident, ReservedWord, AbstractInt}
use Rattle.wgsl_model.specs.Faults.Kinds.{out_of_memory_kind}
use Rattle.wgsl_model.specs.Trees.Spanned.{Spanned, spanned}
use Rattle.wgsl_model.specs.Trees.Expressions.{LiteralExpression, ExpressionNode, ExpressionNode.expression_node, Expression, FunctionCall, FunctionCall.call, TypeExpression.type_expression, expressions_of, template_of}
use Rattle.wgsl_model.specs.Trees.Attributes.{OneArgument, Attribute}
use Rattle.wgsl_model.specs.Grammar.ExpressionParts.{variable}

-- from a place up to another
abbrev pub span : ℕ → ℕ → Span
span start end = record { start = start; end = end }

-- a symbol or keyword, an identifier, a reserved word, a whole number and a float
abbrev pub sign : ℕ → ℕ → ℕ → Token
sign class start end = record { class = class; payload = nothing; start = start; end = end }

-- an identifier
abbrev pub word : List ℕ → ℕ → ℕ → Token
word text start end = record { class = Ident; payload = name text; start = start; end = end }

-- a reserved word
abbrev pub reserved : List ℕ → ℕ → ℕ → Token
reserved text start end = record { class = ReservedWord; payload = name text; start = start; end = end }

-- a whole number
abbrev pub number_token : ℕ → ℕ → ℕ → Token
number_token n start end = record { class = AbstractInt; payload = number (pos n); start = start; end = end }

-- an expression, a name and a number
abbrev pub at : Expression → ℕ → ℕ → ExpressionNode
at e start end = expression_node e (span start end)

-- a name
abbrev pub name_at : List ℕ → ℕ → ℕ → ExpressionNode
name_at text start end = at (variable text) start end

-- a whole number as an expression
abbrev pub number_at : ℕ → ℕ → ℕ → ExpressionNode
number_at n start end = at (Expression.literal (LiteralExpression.abstract_int (pos n))) start end

-- a call of a name, with a template if there is one
abbrev pub call_at : List ℕ → Option (List ExpressionNode) → List ExpressionNode → FunctionCall
call_at text template arguments = call (type_expression text (template_of template)) (expressions_of arguments)

-- an allocation failed
abbrev pub want_of_memory : Fault
want_of_memory = record { kind = out_of_memory_kind; texts = []; span = span 0 0 }

-- an attribute of a name that the language does not know, without arguments
abbrev pub custom_at : List ℕ → ℕ → ℕ → Spanned Attribute
custom_at text start end = spanned (Attribute.custom (record { name = text; arguments = None })) (span start end)

-- `@if` with a name
abbrev pub if_at : ExpressionNode → ℕ → ℕ → Spanned Attribute
if_at condition start end = spanned (Attribute.with_argument OneArgument.if_attribute condition) (span start end)
