-- Tokens and errors where they are, as the definitions see them.
use Rattle.std.specs.Prelude.{◌≡◌, ℕ, List, map, Option, Some, None, IsSomeAnd}
use Rattle.grammar.specs.Tokens as plain
use Rattle.grammar.specs.Endings.{Ending, Ending.finished, Ending.carried}
use Rattle.wgsl_lex_token.specs.Placed.{placed_view}
use Rattle.wgsl_error.specs.declared.ParseError.{ParseError}
use Rattle.wgsl_error.specs.declared.ParseError.TheVariants as parse
use Rattle.wgsl_error.specs.View.{parse_error_fault}
use Rattle.wgsl_lexer.specs.declared.collect.Collected.{Collected}

-- an error, from its start to its end
abbrev pub PlacedError : Type 0
PlacedError = ℕ × ParseError × ℕ

-- the fault that it is
abbrev pub placed_fault : PlacedError → plain.Fault
placed_fault x = parse_error_fault x.1 (record { start = x.0; end = x.2 })

-- the tokens that were collected
abbrev pub tokens_view : Collected → List plain.Token
tokens_view found = map placed_view found.tokens.items

-- how tokens end after which this error came, or none
abbrev pub ending_view : Option PlacedError → Ending
ending_view None = finished
ending_view (Some x) = carried (placed_fault x)

-- an allocation failed
abbrev pub IsOutOfMemory : Option PlacedError → Type 0
IsOutOfMemory error = IsSomeAnd error (λ x. x.1 ≡ parse.OutOfMemory)
