-- Tokens as the definitions see them: a class and what the token holds, memory aside.
use Rattle.std.specs.Prelude.{ℕ, ◌&&◌, nat_le, if◌then◌else◌, List, [], map, pos}
use denote.Enum.Declared.{tag_of}
use Rattle.grammar.specs.Tokens as grammar
use Rattle.grammar.specs.Tokens.{Payload, Payload.nothing, Payload.name, Payload.number}
use Rattle.wgsl_model.specs.Tokens.ClassTable.{Ident, AbstractInt, U32, F16}
use Rattle.wgsl_model.specs.Tokens.Kind.{Kind, placed}
use Rattle.wgsl_lex_token.specs.declared.kind_table.TokenKind.{TokenKind}
use Rattle.wgsl_lex_token.specs.contracts.kind_table.TokenKind.{the_type}
use Rattle.wgsl_lex_token.specs.declared.token_table.Token.{Token}
pub use Rattle.wgsl_lex_token.specs.TokenTable.{kind_of, payload_of}

-- the class of a kind is its number: the kinds are in the order of the classes
abbrev pub class_of_kind : TokenKind → ℕ
class_of_kind k = tag_of the_type k

-- the classes of kinds
abbrev pub classes : List TokenKind → List ℕ
classes kinds = map class_of_kind kinds

-- a token, wherever it is
abbrev pub kind_view : Token → Kind
kind_view t = record { class = class_of_kind (kind_of t); payload = payload_of t }

-- a token from a place up to another
abbrev pub token_view : ℕ → Token → ℕ → grammar.Token
token_view start t end = placed (kind_view t) start end

-- what a token holds where only its class is known: the number 0, an empty text or nothing
abbrev pub empty_payload : ℕ → Payload
empty_payload class =
    if nat_le AbstractInt class && nat_le class U32 then number (pos 0)
    else if nat_le Ident class && nat_le class F16 then name []
    else nothing

-- the token of a class that holds nothing, an empty text or the number 0
abbrev pub view_of_class : ℕ → Kind
view_of_class class = record { class = class; payload = empty_payload class }
