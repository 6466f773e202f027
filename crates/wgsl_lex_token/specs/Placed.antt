-- Tokens where they are, as the definitions see them.
use Rattle.grammar.specs.Tokens as plain
use Rattle.wgsl_lex_token.specs.View.{token_view}
use Rattle.wgsl_lex_token.specs.declared.placed.PlacedToken.{PlacedToken}

-- a token where it is
abbrev pub placed_view : PlacedToken → plain.Token
placed_view p = token_view p.span.start p.token p.span.end
