-- How tokens are named in messages.
use Rattle.std.specs.Prelude.{ℕ, ◌==◌, if◌then◌else◌, List, [], ◌∷◌, ◌++◌, codes}
use Rattle.std.specs.Fmt.{signed_decimal}
use Rattle.grammar.specs.Tokens.{Token, Payload, Payload.nothing, Payload.name, Payload.number}
use Rattle.wgsl_model.specs.Tokens.ClassTable.{Ident, ReservedWord, AbstractInt, I32, U32, AbstractFloat, F32, F16, symbols, keywords}
pub use Rattle.wgsl_model.specs.Tokens.ClassTable.{special_texts}

-- the word of a class in a table
abbrev pub word_in : List (List ℕ × ℕ) → ℕ → List ℕ
word_in [] class = []
word_in (entry ∷ entries) class = if entry.1 == class then entry.0 else word_in entries class

-- the text that a token holds, or none
abbrev pub text_held : Payload → List ℕ
text_held nothing = []
text_held (name text) = text
text_held (number n) = signed_decimal n

-- a symbol or a keyword by its spelling, the others by what they are and hold
abbrev pub kind_text : ℕ → Payload → List ℕ
kind_text class payload =
    if class == Ident then codes "identifier `" ++ text_held payload ++ codes "`"
    else if class == ReservedWord then codes "reserved word `" ++ text_held payload ++ codes "`"
    else if class == AbstractInt then text_held payload
    else if class == I32 then text_held payload ++ codes "i"
    else if class == U32 then text_held payload ++ codes "u"
    else if class == AbstractFloat then text_held payload
    else if class == F32 then text_held payload ++ codes "f"
    else if class == F16 then text_held payload ++ codes "h"
    else word_in (symbols ++ (keywords ++ special_texts)) class

-- the name of a token in a message
abbrev pub token_text : Token → List ℕ
token_text t = kind_text t.class t.payload
