-- Text forms of worked trees, computed.
use Rattle.std.proofs.Common.{◌≡◌, refl, ℕ, List, [], ◌∷◌, ◌++◌, codes, true, arith}
use Rattle.std.proofs.lemmas.Grind.{common_steps}
use Rattle.std.specs.Fmt.{decimal}
use Rattle.grammar.specs.Tokens.{Span}
use Rattle.wgsl_model.specs.Trees.Spanned.{spanned}
use Rattle.wgsl_model.specs.Trees.NamedValues.{DiagnosticSeverity.off}
use Rattle.wgsl_model.specs.Trees.Expressions.{LiteralExpression.boolean, expression_node, Expression, literal, named_component, type_or_identifier, type_expression, no_template}
use Rattle.wgsl_model.specs.Trees.Attributes.{Attribute.diagnostic, Attribute.without_argument, NoArgument.must_use}
use Rattle.wgsl_model.specs.Trees.Statements.{statement, UnattributedStatement.void, UnattributedStatement.break_statement}
use Rattle.wgsl_tree_code.specs.Code.{text}
use Rattle.wgsl_tree_code.specs.Form.{form}
use Rattle.wgsl_tree_code.specs.ExpressionNodes.{expression_code}
use Rattle.wgsl_tree_code.specs.AttributeNodes.{attributes_code}
use Rattle.wgsl_tree_code.specs.StatementNodes.{statement_code}
use Rattle.wgsl_tree_code.specs.UnitNodes.{unit_code}

abbrev from : ℕ → ℕ → Span
from start end = record { start = start; end = end }

abbrev name : List ℕ → Expression
name word = type_or_identifier (type_expression word no_template)

-- a node from a place to another
abbrev node : ℕ → ℕ → List ℕ → List ℕ
node start end inside = codes "{\"span\":" ++ (codes "[" ++ decimal start ++ codes "," ++ decimal end ++ codes "]")
    ++ codes ",\"node\":" ++ inside ++ codes "}"

-- `a.b`
pub component :
    form (expression_code (named_component (expression_node (name (codes "a")) (from 0 1)) (codes "b")))
    ≡ codes "{\"NamedComponent\":" ++ (codes "{\"component\":\"b\",\"base\":"
    ++ node 0 1 (codes "{\"TypeOrIdentifier\":{\"ident\":\"a\",\"template_args\":null}}")
    ++ codes "}") ++ codes "}"
component = grind (arith, common_steps)

-- `true`
pub truth : form (expression_code (literal (boolean true))) ≡ codes "{\"Literal\":{\"Bool\":true}}"
truth = refl

-- what is escaped in a text
pub escapes : form (text (codes "a\"\\\n\t")) ≡ codes "\"a\\\"\\\\\\u000a\\u0009\""
escapes = refl

-- `@must_use @diagnostic(off, a.b)`
pub attributes :
    form (attributes_code (
    spanned (without_argument must_use) (from 0 9)
    ∷ spanned (diagnostic (record { severity = off; rule = codes "a.b" })) (from 10 31)
    ∷ []))
    ≡ codes "[" ++ node 0 9 (codes "\"MustUse\"") ++ codes ","
    ++ node 10 31 (codes "{\"Diagnostic\":{\"severity\":\"off\",\"rule\":\"a.b\"}}") ++ codes "]"
attributes = grind (arith, common_steps)

-- `;` and `break;`
pub void_statement : form (statement_code (statement [] void)) ≡ codes "\"Void\""
void_statement = refl

pub break_alone : form (statement_code (statement [] break_statement)) ≡ codes "{\"Break\":{\"attributes\":[]}}"
break_alone = refl

-- a module without directives and declarations
pub empty_unit :
    form (unit_code (record { global_directives = []; global_declarations = [] }))
    ≡ codes "{\"global_directives\":[],\"global_declarations\":[]}"
empty_unit = refl
