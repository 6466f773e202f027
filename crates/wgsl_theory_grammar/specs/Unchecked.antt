-- The rules in which one token decides, without their checks.
use Rattle.grammar.specs.Grammar.{Grammar, Grammar.empty, Grammar.token, Grammar.sequence, Grammar.choice, Grammar.mapped, Grammar.node, Grammar.checked, Grammar.symbol, Grammar.left_chain}
use Rattle.wgsl_model.specs.Grammar.Symbols.{Dialect, Dialect.parsed, Dialect.recognized}
use Rattle.wgsl_theory_grammar.specs.Factored.{FactoredSymbol, FactoredValue, FactoredRule, body, small_body}

-- a right side without its checks
abbrev pub without_checks : {N : Type 0} {Value : N → Type 0} {A : Type 0} → Grammar N Value A → Grammar N Value A
without_checks (empty a) = empty a
without_checks (token s) = token s
without_checks (sequence g h) = sequence (without_checks g) (without_checks h)
without_checks (choice g h) = choice (without_checks g) (without_checks h)
without_checks (mapped f g) = mapped f (without_checks g)
without_checks (node f g) = node f (without_checks g)
without_checks (checked f g) = without_checks g
without_checks (symbol n) = symbol n
without_checks (left_chain f g h) = left_chain f (without_checks g) (without_checks h)

-- the rules of the whole language without their checks
abbrev pub syntax_body : (n : FactoredSymbol) → FactoredRule (FactoredValue n)
syntax_body n = without_checks (body n)

-- the rules of a dialect without checks; the smaller language has none
abbrev pub unchecked_body : Dialect → (n : FactoredSymbol) → FactoredRule (FactoredValue n)
unchecked_body parsed = syntax_body
unchecked_body recognized = small_body
