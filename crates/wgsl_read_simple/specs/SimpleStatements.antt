-- What the parts of calls, assignments, increments and decrements read, each as a word of its own,
-- which no computation opens.
use Rattle.std.specs.Prelude.{ℕ, List, [], ◌∷◌, Option}
use Rattle.grammar.specs.Grammar.{Grammar.symbol}
use Rattle.grammar.specs.Notation.{one_token, ◌then◌, ◌gives◌, ◌makes◌, optional}
use Rattle.grammar.specs.States.{State, Read, Read.done, ◌>>=◌, go}
use Rattle.wgsl_model.specs.Tokens.ClassTable.{SymEqual, SymUnderscore, SymPlusEqual, SymMinusEqual, SymTimesEqual, SymDivisionEqual, SymModuloEqual, SymAndEqual, SymOrEqual, SymXorEqual, SymShiftRightAssign, SymShiftLeftAssign}
use Rattle.wgsl_model.specs.Trees.Operators.{AssignmentOperator}
use Rattle.wgsl_model.specs.Trees.Expressions.{ExpressionNode, type_expression, template_of}
use Rattle.wgsl_model.specs.Grammar.ExpressionParts.{call_of}
use Rattle.wgsl_model.specs.Trees.Statements.{UnattributedStatement, call_statement_of}
use Rattle.wgsl_model.specs.Grammar.StatementParts.{assignment_operator, underscore_at}
use Rattle.wgsl_model.specs.Grammar.Symbols.{Symbol.ident, Symbol.template_list, Symbol.arguments}
use Rattle.wgsl_theory_grammar.specs.Factored.{FactoredSymbol.of, FactoredSymbol.further, Further.name_rest_statement, lifted}
use Rattle.wgsl_theory_grammar.specs.Tables.{tables}
use Rattle.wgsl_theory_grammar.specs.Reader.{reader}

-- a name, and what follows it
unfoldable pub named_statement_at : State → Read UnattributedStatement
named_statement_at s = go tables reader
    (symbol (of ident) then symbol (further name_rest_statement) gives λ p. p.1 p.0) s

-- a template list, or nothing
unfoldable pub maybe_template_list_at : State → Read (Option (List ExpressionNode))
maybe_template_list_at s = go tables reader (optional (symbol (of template_list))) s

-- a call of a name
abbrev pub call_of_name : List ℕ → Option (List ExpressionNode) → List ExpressionNode → UnattributedStatement
call_of_name name template es = call_statement_of (call_of (type_expression name (template_of template), es))

-- the rest of it after the name
unfoldable pub call_rest_at : List ℕ → State → Read UnattributedStatement
call_rest_at name s = maybe_template_list_at s
    >>= λ template s'. reader (of arguments) s' >>= λ es s''. done (call_of_name name template es) s''

-- the classes of `=` and the compound operators
abbrev pub assignment_classes : List ℕ
assignment_classes = SymEqual ∷ SymPlusEqual ∷ SymMinusEqual ∷ SymTimesEqual ∷ SymDivisionEqual
    ∷ SymModuloEqual ∷ SymAndEqual ∷ SymOrEqual ∷ SymXorEqual ∷ SymShiftRightAssign
    ∷ SymShiftLeftAssign ∷ []

-- `=` or a compound operator
unfoldable pub assignment_operator_at : State → Read AssignmentOperator
assignment_operator_at s = go tables reader (lifted assignment_operator) s

-- `_` as a left side
unfoldable pub underscore_left_side_at : State → Read ExpressionNode
underscore_left_side_at s = go tables reader (one_token SymUnderscore makes underscore_at) s
