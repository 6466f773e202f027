-- What each symbol of the factored grammar reads of the tokens that are left.
use Rattle.grammar.specs.States.{State, Read, reads}
use Rattle.wgsl_theory_grammar.specs.Factored.{FactoredSymbol, FactoredValue, body}
use Rattle.wgsl_theory_grammar.specs.Tables.{rank_limit, tables}

-- what a symbol reads
unfoldable pub reader : (n : FactoredSymbol) → State → Read (FactoredValue n)
reader n s = reads tables body rank_limit n s
