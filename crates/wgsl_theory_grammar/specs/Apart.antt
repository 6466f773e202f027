-- Where a checked symbol is no fault, and how the other faults are told.
use Rattle.std.specs.Prelude.{ℕ, List, [], ◌∷◌}
use Rattle.wgsl_model.specs.Tokens.ClassTable.{SymAttr}
use Rattle.wgsl_model.specs.Grammar.Symbols.{Symbol.ident, Symbol.var_template, Symbol.diagnostic_severity}
use Rattle.wgsl_theory_grammar.specs.Factored.{FactoredSymbol, FactoredSymbol.of}

-- no reserved word, `diagnostic` or `var` counts directly after `@`
abbrev pub apart : FactoredSymbol → List ℕ
apart (of ident) = SymAttr ∷ []
apart (of diagnostic_severity) = SymAttr ∷ []
apart (of var_template) = SymAttr ∷ []
apart n = []

-- where nothing is checked
abbrev pub nowhere : FactoredSymbol → List ℕ
nowhere n = []
