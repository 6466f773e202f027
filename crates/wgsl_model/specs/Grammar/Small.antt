-- The grammar of the dialect: its rules.
use Rattle.wgsl_model.specs.Grammar.Symbols.{Dialect.recognized, Symbol, Value, Rule}
use Rattle.wgsl_model.specs.Grammar.Written.{rules}

-- the rules of the dialect
abbrev pub small : (n : Symbol) → Rule (Value n)
small = rules recognized
