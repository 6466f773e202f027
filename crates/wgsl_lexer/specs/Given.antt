-- What an iterator of tokens gave.
use Rattle.std.specs.Prelude.{ℕ, map, Option, Some, None, Result, Ok, Err}
use Rattle.std.specs.Iterator.{YieldsThen}
use Rattle.wgsl_lex_token.specs.declared.token_table.Token.{Token}
use Rattle.wgsl_lex_token.specs.declared.placed.PlacedToken.{PlacedToken}
use Rattle.wgsl_lexer.specs.declared.collect.Collected.{Collected}
use Rattle.wgsl_lexer.specs.Placed.{PlacedError}

-- a token or an error, each from its start to its end
abbrev pub TokenItem : Type 0
TokenItem = Result (ℕ × Token × ℕ) PlacedError

-- the item that gave a token
abbrev pub item_of : PlacedToken → TokenItem
item_of p = Ok (p.span.start, p.token, p.span.end)

-- what came after the tokens: nothing more, or an error
abbrev pub last_of : Option PlacedError → Option TokenItem
last_of None = None
last_of (Some x) = Some (Err x)

-- calls from an iterator gave these tokens, and then nothing more or this error
abbrev pub Gave : {S : Type 0} → (S → Option TokenItem → S → Type 0) → S → Collected → Type 0
Gave {S} steps it found = (last : S) × YieldsThen steps it (map item_of found.tokens.items) (last_of found.error) last
