-- What the parts of declarations of values and of `return` read, each as a word of its own, which
-- no computation opens.
use Rattle.std.specs.Prelude.{ℕ, Option}
use Rattle.grammar.specs.Grammar.{Grammar.symbol}
use Rattle.grammar.specs.Notation.{◌or◌, ◌means◌, optional}
use Rattle.grammar.specs.States.{State, Read, go}
use Rattle.wgsl_model.specs.Tokens.ClassTable.{KwConst, KwLet}
use Rattle.wgsl_model.specs.Trees.Expressions.{ExpressionNode}
use Rattle.wgsl_model.specs.Trees.Statements.{DeclarationKind, DeclarationKind.let_kind, DeclarationKind.const_kind, UnattributedStatement}
use Rattle.wgsl_model.specs.Grammar.Symbols.{Symbol.expression}
use Rattle.wgsl_theory_grammar.specs.Factored.{FactoredSymbol.of}
use Rattle.wgsl_theory_grammar.specs.Tables.{tables}
use Rattle.wgsl_theory_grammar.specs.Reader.{reader}

-- an expression, or nothing
unfoldable pub maybe_expression_at : State → Read (Option ExpressionNode)
maybe_expression_at s = go tables reader (optional (symbol (of expression))) s

-- `let` or `const`
unfoldable pub value_kind_at : State → Read DeclarationKind
value_kind_at s = go tables reader (KwLet means let_kind or KwConst means const_kind) s

-- a statement that is a word alone, by the class of the word
unfoldable pub word_at : ℕ → UnattributedStatement → State → Read UnattributedStatement
word_at class word s = go tables reader (class means word) s
