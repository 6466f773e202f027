-- The tokens that are left, those of a text or those that were given.
use Rattle.std.specs.Prelude.{ℕ, List, [], ◌∷◌, map, Option, Some, None}
use Rattle.grammar.specs.Tokens.{Token}
use Rattle.wgsl_lex_token.specs.Placed.{placed_view}
use Rattle.wgsl_lexer.specs.TextTokens.{tokens_left}
use Rattle.wgsl_read_cursor.specs.declared.tokens.Tokens.{Tokens}
use Rattle.wgsl_read_cursor.specs.declared.tokens.Tokens.TheVariants as tokens

-- the tokens that are left
unfoldable pub rest_of : Tokens → List Token
rest_of (tokens.Text text) = tokens_left text
rest_of (tokens.Given given) = map placed_view given.items

-- the class of the first of some tokens, if there is one
abbrev pub first_class : List Token → Option ℕ
first_class [] = None
first_class (t ∷ ts) = Some t.class

-- the class of the token that is next, if there is one
unfoldable pub next_class : Tokens → Option ℕ
next_class tokens = first_class (rest_of tokens)
