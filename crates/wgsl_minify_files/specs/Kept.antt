-- The names that a text has.
use Rattle.std.specs.Prelude.{◌≡◌, ◌==◌, ◌&&◌, ℕ, Bool, false, List, [], ◌∷◌}
use Rattle.std.specs.List.{list_any}
use Rattle.std.specs.Str.{bytes_eq}
use Rattle.grammar.specs.Tokens.{Token, Payload, Payload.name}
use Rattle.grammar.specs.Endings.{Ending}
use Rattle.wgsl_model.specs.Tokens.ClassTable.{Ident}
use Rattle.wgsl_model.specs.Tokens.TokenList.{IsTokenList}

-- this is the text that a token holds
abbrev pub has_text : List ℕ → Payload → Bool
has_text text (name held) = bytes_eq held text
has_text text payload = false

-- a token is this name
abbrev pub is_name : List ℕ → Token → Bool
is_name text token = token.class == Ident && has_text text token.payload

-- whether one of the tokens of a source is this name
abbrev pub HasName : Bool → List ℕ → List ℕ → Type 0
HasName has source text = (tokens : List Token) × (end : Ending) × IsTokenList source tokens end
    × (has ≡ list_any (is_name text) tokens)

-- the first of some tokens, if there is one, was taken, and it is this name, or is not
abbrev pub IsTakenAs : List ℕ → List Token → Bool → List Token → Type 0
IsTakenAs text [] is left = (is ≡ false) × (left ≡ [])
IsTakenAs text (token ∷ tokens) is left = (is ≡ is_name text token) × (left ≡ tokens)
