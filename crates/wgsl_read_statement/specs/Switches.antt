-- What the clauses of `switch` read, as a word of its own, which no computation opens.
use Rattle.std.specs.Prelude.{List, ◌∷◌}
use Rattle.grammar.specs.States.{State, Read, Read.done, ◌>>=◌}
use Rattle.wgsl_model.specs.Trees.Statements.{SwitchClause}
use Rattle.wgsl_model.specs.Grammar.Symbols.{Symbol.switch_clause}
use Rattle.wgsl_theory_grammar.specs.Factored.{FactoredSymbol.of, FactoredSymbol.further, Further.clause_rest}
use Rattle.wgsl_theory_grammar.specs.Reader.{reader}

-- the clauses, one at least, and the `}` after them
unfoldable pub clauses_at : State → Read (List SwitchClause)
clauses_at s = reader (of switch_clause) s
    >>= λ clause s'. reader (further clause_rest) s' >>= λ clauses s''. done (clause ∷ clauses) s''
