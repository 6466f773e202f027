-- Trees, and the tokens that their printed texts have.
use Rattle.std.specs.Prelude.{ℕ, pos, true, List, [], ◌∷◌, Some, None, codes}
use Rattle.grammar.specs.Tokens.{Payload.number}
use Rattle.wgsl_model.specs.Tokens.ClassTable.{SymAttr, SymBraceLeft, SymBraceRight, SymColon, SymComma, SymMinus, SymOr, SymParenLeft, SymParenRight, SymPeriod, SymPlusPlus, SymSemicolon, KwBreak, KwCase, KwConst, KwContinuing, KwDefault, KwDiagnostic, KwElse, KwFn, KwFor, KwIf, KwLoop, KwStruct, KwSwitch, KwTrue, Ident, ReservedWord, AbstractInt, TemplateArgsStart, TemplateArgsEnd}
use Rattle.wgsl_model.specs.Tokens.Kind.{Kind, plain, named}
use Rattle.wgsl_model.specs.Trees.Operators.{UnaryOperator.negation, BinaryOperator.subtraction}
use Rattle.wgsl_model.specs.Trees.NamedValues.{DiagnosticSeverity.off}
use Rattle.wgsl_model.specs.Trees.Spanned.{spanned}
use Rattle.wgsl_model.specs.Trees.Expressions.{LiteralExpression.boolean, LiteralExpression.abstract_int, ExpressionNode, expression_node, Expression, FunctionCall.call, TypeExpression, TypeExpression.type_expression, TemplateArguments.no_template, template_of, expressions_of}
use Rattle.wgsl_model.specs.Trees.Attributes.{Attributes, OneArgument.size, NoArgument.const_attribute, Attribute.with_argument, Attribute.without_argument, Attribute.type_constraint}
use Rattle.wgsl_model.specs.Trees.Attributed.{with_attributes, without_attributes}
use Rattle.wgsl_model.specs.Trees.Statements as tree
use Rattle.wgsl_model.specs.Trees.Units as units
use Rattle.wgsl_model.specs.Trees.WithoutSpans.{no_span}
use Rattle.wgsl_model.specs.Grammar.ExpressionParts.{variable}

-- ---- short ways to write trees and tokens
-- an expression without its span, a name, a number, and a type without a template
abbrev at : Expression → ExpressionNode
at e = expression_node e no_span

abbrev name_at : List ℕ → ExpressionNode
name_at name = at (variable name)

abbrev number_at : ℕ → ExpressionNode
number_at n = at (Expression.literal (abstract_int (pos n)))

abbrev type_of_name : List ℕ → TypeExpression
type_of_name name = type_expression name no_template

-- a statement without its span and without attributes, and a block without attributes
abbrev unplaced_statement : tree.UnattributedStatement → tree.StatementNode
unplaced_statement s = tree.statement_node (tree.unattributed s) no_span

abbrev block_of : List tree.StatementNode → tree.CompoundStatement
block_of ss = tree.compound_statement [] (tree.statements_of ss)

-- `@const`
abbrev const_attributes : Attributes
const_attributes = spanned (without_argument const_attribute) no_span ∷ []

-- the token of an identifier, and of a whole number
abbrev word : List ℕ → Kind
word = named Ident

abbrev integer : ℕ → Kind
integer n = record { class = AbstractInt; payload = number (pos n) }

-- ---- expressions
-- f(x < y, z > (w),), where `x` has a template
abbrev pub template_call_tree : Expression
template_call_tree =
    Expression.function_call (call (type_of_name (codes "f"))
    (expressions_of (at (Expression.function_call (call (type_expression (codes "x") (template_of (Some
    (name_at (codes "y") ∷ name_at (codes "z") ∷ [])))) (expressions_of (name_at (codes "w") ∷ [])))) ∷ [])))

-- f(x<y, z>(w))
abbrev pub template_call_tokens : List Kind
template_call_tokens =
    word (codes "f") ∷ plain SymParenLeft ∷ word (codes "x") ∷ plain TemplateArgsStart
    ∷ word (codes "y") ∷ plain SymComma ∷ word (codes "z") ∷ plain TemplateArgsEnd
    ∷ plain SymParenLeft ∷ word (codes "w") ∷ plain SymParenRight ∷ plain SymParenRight ∷ []

-- a---b, which is a - - -b
abbrev pub three_minuses_tree : Expression
three_minuses_tree = Expression.binary subtraction (name_at (codes "a"))
    (at (Expression.unary negation (at (Expression.unary negation (name_at (codes "b"))))))

abbrev pub three_minuses_tokens : List Kind
three_minuses_tokens = word (codes "a") ∷ plain SymMinus ∷ plain SymMinus ∷ plain SymMinus ∷ word (codes "b") ∷ []

-- ---- statements
-- switch a { case 1, default: {} default {;} }
abbrev pub switch_tree : tree.StatementNode
switch_tree = unplaced_statement (tree.switch_statement (tree.switch (name_at (codes "a")) [] (tree.clauses_of (
    tree.switch_clause [] (tree.expression_selector (number_at 1) ∷ tree.default_selector ∷ []) (block_of [])
    ∷ tree.switch_clause [] (tree.default_selector ∷ []) (block_of (unplaced_statement tree.void ∷ [])) ∷ []
    ))))

-- switch a { case 1, default { } case default { } }
abbrev pub switch_tokens : List Kind
switch_tokens =
    plain KwSwitch ∷ word (codes "a") ∷ plain SymBraceLeft ∷ plain KwCase ∷ integer 1
    ∷ plain SymComma ∷ plain KwDefault ∷ plain SymBraceLeft ∷ plain SymBraceRight
    ∷ plain KwCase ∷ plain KwDefault ∷ plain SymBraceLeft ∷ plain SymBraceRight ∷ plain SymBraceRight ∷ []

-- loop { ; @const continuing { ; @const break if true; } }
abbrev pub loop_tree : tree.StatementNode
loop_tree = unplaced_statement (tree.loop_statement (tree.repeat (block_of (unplaced_statement tree.void ∷ []))
    (tree.one_continuing (tree.continuing const_attributes (block_of (unplaced_statement tree.void ∷ []))
    (Some (with_attributes const_attributes (record { expression = at (Expression.literal (boolean true)) })))))))

-- loop { @const continuing { @const break if true; } }
abbrev pub loop_tokens : List Kind
loop_tokens =
    plain KwLoop ∷ plain SymBraceLeft ∷ plain SymAttr ∷ plain KwConst ∷ plain KwContinuing
    ∷ plain SymBraceLeft
    ∷ plain SymAttr ∷ plain KwConst ∷ plain KwBreak ∷ plain KwIf ∷ plain KwTrue ∷ plain SymSemicolon
    ∷ plain SymBraceRight ∷ plain SymBraceRight ∷ []

-- for (; ; i++) { }
abbrev pub for_tree : tree.StatementNode
for_tree = unplaced_statement (tree.for_statement (tree.repeat_for tree.no_statement None (tree.one_statement
    (unplaced_statement (tree.increment (record { expression = name_at (codes "i") })))) (block_of [])))

abbrev pub for_tokens : List Kind
for_tokens = plain KwFor ∷ plain SymParenLeft ∷ plain SymSemicolon ∷ plain SymSemicolon ∷ word (codes "i")
    ∷ plain SymPlusPlus ∷ plain SymParenRight ∷ plain SymBraceLeft ∷ plain SymBraceRight ∷ []

-- if a {} else if b {} else {}
abbrev pub if_tree : tree.StatementNode
if_tree = unplaced_statement (tree.if_statement (tree.if_else (tree.if_clause (name_at (codes "a"))
    (block_of [])) (tree.else_ifs_of (tree.else_if_clause [] (name_at (codes "b")) (block_of []) ∷ []))
    (tree.one_else (tree.else_clause [] (block_of [])))))

abbrev pub if_tokens : List Kind
if_tokens =
    plain KwIf ∷ word (codes "a") ∷ plain SymBraceLeft ∷ plain SymBraceRight ∷ plain KwElse
    ∷ plain KwIf ∷ word (codes "b") ∷ plain SymBraceLeft ∷ plain SymBraceRight
    ∷ plain KwElse ∷ plain SymBraceLeft ∷ plain SymBraceRight ∷ []

-- ---- modules
-- diagnostic(off, a.b,); ; struct S { @size(16) x: f32, } ; @const @type(T, A | B) fn f() {}
abbrev pub unit_tree : units.TranslationUnit
unit_tree = record {
  global_directives =
      without_attributes (units.diagnostic (record { severity = off; rule_name = codes "a.b" })) ∷ [];
  global_declarations = spanned (without_attributes units.void) no_span
      ∷ spanned (without_attributes (units.structure (record {
        ident = codes "S";
        members = spanned (record {
          attributes = spanned (with_argument size (number_at 16)) no_span ∷ [];
          ident = codes "x";
          ty = type_of_name (codes "f32");
        }) no_span ∷ [];
      }))) no_span
      ∷ spanned (without_attributes units.void) no_span
      ∷ spanned (with_attributes (spanned (without_argument const_attribute) no_span
      ∷ spanned (type_constraint (record {
        ident = codes "T";
        variants = type_of_name (codes "A") ∷ type_of_name (codes "B") ∷ [];
      })) no_span ∷ []) (units.function (record {
        ident = codes "f";
        parameters = [];
        return_attributes = [];
        return_type = None;
        body = block_of [];
      }))) no_span ∷ [];
}

-- diagnostic(off, a.b); struct S { @size(16) x: f32 } @const @type(T, A | B) fn f() { }
abbrev pub worked_unit_tokens : List Kind
worked_unit_tokens =
    plain KwDiagnostic ∷ plain SymParenLeft ∷ word (codes "off") ∷ plain SymComma ∷ word (codes "a")
    ∷ plain SymPeriod ∷ word (codes "b") ∷ plain SymParenRight ∷ plain SymSemicolon
    ∷ plain KwStruct ∷ word (codes "S") ∷ plain SymBraceLeft ∷ plain SymAttr ∷ word (codes "size")
    ∷ plain SymParenLeft ∷ integer 16 ∷ plain SymParenRight ∷ word (codes "x") ∷ plain SymColon
    ∷ word (codes "f32") ∷ plain SymBraceRight
    ∷ plain SymAttr ∷ plain KwConst ∷ plain SymAttr ∷ named ReservedWord (codes "type")
    ∷ plain SymParenLeft ∷ word (codes "T") ∷ plain SymComma ∷ word (codes "A") ∷ plain SymOr
    ∷ word (codes "B") ∷ plain SymParenRight
    ∷ plain KwFn ∷ word (codes "f") ∷ plain SymParenLeft ∷ plain SymParenRight ∷ plain SymBraceLeft
    ∷ plain SymBraceRight ∷ []
