-- What a source is where a symbol of the grammar is wanted: the tree that its tokens derive, or the
-- fault that is named.
use Rattle.std.specs.Prelude.{ℕ, List}
use Rattle.grammar.specs.Tokens.{Token, Fault}
use Rattle.grammar.specs.Grammar.{Mode.checking, Derives}
use Rattle.grammar.specs.Endings.{Ending, Ending.finished}
use Rattle.wgsl_model.specs.Tokens.TokenList.{IsTokenList}
use Rattle.wgsl_model.specs.Grammar.Symbols.{Symbol, Value}
use Rattle.wgsl_model.specs.Grammar.Written.{written}
use Rattle.wgsl_model.specs.Faults.NamedFault.{IsNamed}

-- the source derives the tree
abbrev pub IsTreeOf : (n : Symbol) → List ℕ → Value n → Type 0
IsTreeOf n source v = (ts : List Token) × IsTokenList source ts finished × Derives checking written n v ts

-- the source derives no tree, and this is the fault that is named
abbrev pub IsFaultIn : Symbol → List ℕ → Fault → Type 0
IsFaultIn n source x = (ts : List Token) × (ending : Ending) × IsTokenList source ts ending × IsNamed n ts ending x
