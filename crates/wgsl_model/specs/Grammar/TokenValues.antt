-- What a token says: a name, a number or a literal.
use Rattle.std.specs.Prelude.{ℕ, ℤ, pos, negsuc, true, false, ◌==◌, if◌then◌else◌, List, []}
use Rattle.grammar.specs.Tokens.{Token, Payload, Payload.nothing, Payload.name, Payload.number}
use Rattle.wgsl_model.specs.Tokens.ClassTable.{KwTrue, KwFalse, AbstractInt, I32, U32, AbstractFloat, F32, keywords}
use Rattle.wgsl_model.specs.Tokens.Texts.{word_in}
use Rattle.wgsl_model.specs.Trees.Expressions.{LiteralExpression, boolean, abstract_int, i32, u32, abstract_float, f32, f16}

-- the word that a token is: what it holds, or else the keyword
abbrev pub word_of : ℕ → Payload → List ℕ
word_of class nothing = word_in keywords class
word_of class (name text) = text
word_of class (number n) = []

-- the word of a token
abbrev pub text_of : Token → List ℕ
text_of t = word_of t.class t.payload

-- a whole number
abbrev pub number_in : Payload → ℤ
number_in nothing = pos 0
number_in (name text) = pos 0
number_in (number n) = n

-- a number that is not negative, or 0
abbrev pub magnitude : ℤ → ℕ
magnitude (pos n) = n
magnitude (negsuc n) = 0

-- the literal that a token is
abbrev pub literal_of : Token → LiteralExpression
literal_of t =
    if t.class == KwTrue then boolean true
    else if t.class == KwFalse then boolean false
    else if t.class == AbstractInt then abstract_int (number_in t.payload)
    else if t.class == I32 then i32 (number_in t.payload)
    else if t.class == U32 then u32 (magnitude (number_in t.payload))
    else if t.class == AbstractFloat then abstract_float (text_of t)
    else if t.class == F32 then f32 (text_of t)
    else f16 (text_of t)
