-- What the parts of left sides read, each as a word of its own, which no computation opens.
use Rattle.std.specs.Prelude.{ℕ}
use Rattle.grammar.specs.Grammar.{Grammar.symbol}
use Rattle.grammar.specs.Notation.{◌then◌, ◌makes◌, ◌▹◌, ◌◃◌, ◌means◌}
use Rattle.grammar.specs.States.{State, Read, go}
use Rattle.wgsl_model.specs.Tokens.ClassTable.{SymParenLeft, SymParenRight}
use Rattle.wgsl_model.specs.Trees.Operators.{UnaryOperator}
use Rattle.wgsl_model.specs.Trees.Expressions.{ExpressionNode}
use Rattle.wgsl_model.specs.Grammar.ExpressionParts.{unary_of}
use Rattle.wgsl_model.specs.Grammar.StatementParts.{variable_at, parenthesized_at}
use Rattle.wgsl_model.specs.Grammar.Symbols.{Symbol.ident, Symbol.lhs_expression}
use Rattle.wgsl_theory_grammar.specs.Factored.{FactoredSymbol.of}
use Rattle.wgsl_theory_grammar.specs.Tables.{tables}
use Rattle.wgsl_theory_grammar.specs.Reader.{reader}

-- a name
unfoldable pub left_name_at : State → Read ExpressionNode
left_name_at s = go tables reader (symbol (of ident) makes variable_at) s

-- a left side in parentheses
unfoldable pub parenthesized_left_side_at : State → Read ExpressionNode
parenthesized_left_side_at s = go tables reader
    (SymParenLeft ▹ symbol (of lhs_expression) ◃ SymParenRight makes parenthesized_at) s

-- an operator, by the class of its token, before a left side
unfoldable pub unary_left_side_at : ℕ → UnaryOperator → State → Read ExpressionNode
unary_left_side_at class operator s = go tables reader
    (class means operator then symbol (of lhs_expression) makes unary_of) s
