-- What is read by the parts of rules that are no symbols of the grammar.
use Rattle.std.specs.Prelude.{ℕ, List, Option}
use Rattle.grammar.specs.Tokens.{Token}
use Rattle.grammar.specs.Grammar.{Grammar.symbol}
use Rattle.grammar.specs.Notation.{◌▹◌, optional}
use Rattle.grammar.specs.States.{State, Read, Read.done, ◌>>=◌, go}
use Rattle.wgsl_model.specs.Tokens.ClassTable.{SymPeriod}
use Rattle.wgsl_model.specs.Grammar.UnitParts.{texts_of}
use Rattle.wgsl_model.specs.Grammar.Symbols.{Symbol.ident}
use Rattle.wgsl_theory_grammar.specs.Factored.{FactoredSymbol.of, FactoredSymbol.further, Further.name_items}
use Rattle.wgsl_theory_grammar.specs.Tables.{tables}
use Rattle.wgsl_theory_grammar.specs.Reader.{reader}

-- list(Name) ";", as texts
unfoldable pub names_at : State → Read (List (List ℕ))
names_at s = reader (further name_items) s >>= λ names s'. done (texts_of names) s'

-- "." Ident, or nothing
unfoldable pub second_name_at : State → Read (Option Token)
second_name_at s = go tables reader (optional (SymPeriod ▹ symbol (of ident))) s
