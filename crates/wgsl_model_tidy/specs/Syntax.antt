-- What a source is to the formatter, which reads tokens and checks no names: a module by its
-- syntax, or the fault that is named of its tokens.
use Rattle.std.specs.Prelude.{◌≡◌, ℕ, ◌+◌, List}
use Rattle.grammar.specs.Tokens.{Token, Fault}
use Rattle.grammar.specs.Grammar.{IsSentence}
use Rattle.grammar.specs.Endings.{Ending, Ending.finished}
use Rattle.wgsl_model.specs.Faults.NamedFault.{IsSyntaxFault}
use Rattle.wgsl_model.specs.Tokens.TokenList.{IsTokenList, width}
use Rattle.wgsl_model.specs.Grammar.Symbols.{Symbol.unit}
use Rattle.wgsl_model.specs.Grammar.Written.{written}
use Rattle.wgsl_model_tidy.specs.Formatted.{mark_of, unmarked}

-- the tokens of the source derive a module, whatever the checks say: a reserved word is a name, and
-- attributes, `var` templates and severities are right whatever is in them
abbrev pub IsModuleInSyntax : List ℕ → Type 0
IsModuleInSyntax source = (ts : List Token) × IsTokenList source ts finished × IsSentence written unit ts

-- the source is not a module by its syntax, and this is the fault that is named
abbrev pub IsSyntaxFaultOf : List ℕ → Fault → Type 0
IsSyntaxFaultOf source x = (ts : List Token) × (ending : Ending) × IsTokenList source ts ending
    × IsSyntaxFault ts ending x

-- a fault in a text, with its place in a source that has a number of bytes before the text
abbrev pub fault_after : ℕ → Fault → Fault
fault_after n x =
    record { kind = x.kind; texts = x.texts; span = record { start = n + x.span.start; end = n + x.span.end } }

-- after its byte order mark the source is not a module by its syntax, and this is the fault that
-- is named, with its place in the source
abbrev pub IsFaultAfterMark : List ℕ → Fault → Type 0
IsFaultAfterMark source x = (y : Fault) × IsSyntaxFaultOf (unmarked source) y
    × (x ≡ fault_after (width (mark_of source)) y)
