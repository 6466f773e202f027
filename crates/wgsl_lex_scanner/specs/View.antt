-- What the scanner gives, as the definitions see it.
use Rattle.std.specs.Prelude.{ℕ, ◌<◌, ◌≤◌, ⊤, chars, length, pos}
use Rattle.grammar.specs.Tokens.{Payload.number}
use Rattle.wgsl_model.specs.Tokens.ClassTable as class
use Rattle.wgsl_model.specs.Tokens.Kind.{Kind, named}
use Rattle.wgsl_model.specs.Tokens.Raw.{Raw, none_left, invalid, token}
use Rattle.wgsl_lex_token.specs.View.{class_of_kind, view_of_class}
use Rattle.wgsl_lex_scanner.specs.declared.lexeme.Lexeme.{Lexeme}
use Rattle.wgsl_lex_scanner.specs.declared.lexeme.Lexeme.TheVariants.{Plain, Ident, ReservedWord, AbstractInt, I32, U32, AbstractFloat, F32, F16}
use Rattle.wgsl_lex_scanner.specs.declared.scan.Scanned.{Scanned}
use Rattle.wgsl_lex_scanner.specs.declared.scan.Scanned.TheVariants.{NoneLeft, Invalid, Found}

-- a token, its name or spelling by its bytes
abbrev pub lexeme_view : Lexeme → Kind
lexeme_view (Plain kind) = view_of_class (class_of_kind kind)
lexeme_view (Ident text) = named class.Ident text.now
lexeme_view (ReservedWord text) = named class.ReservedWord text.now
lexeme_view (AbstractInt n) = record { class = class.AbstractInt; payload = number n }
lexeme_view (I32 n) = record { class = class.I32; payload = number n }
lexeme_view (U32 n) = record { class = class.U32; payload = number (pos n) }
lexeme_view (AbstractFloat text) = named class.AbstractFloat text.now
lexeme_view (F32 text) = named class.F32 text.now
lexeme_view (F16 text) = named class.F16 text.now

-- what was scanned, its texts by their characters
abbrev pub scanned_view : Scanned → Raw
scanned_view NoneLeft = none_left
scanned_view (Invalid from after) = invalid (chars from.now) (chars after.now)
scanned_view (Found lexeme from after) = token (lexeme_view lexeme) (chars from.now) (chars after.now)

-- of a text of a number of bytes fewer are left after the token, and no more from its start
abbrev pub IsShorter : ℕ → Scanned → Type 0
IsShorter n NoneLeft = ⊤
IsShorter n (Invalid from after) = (length from.now ≤ n) × (length after.now < n)
IsShorter n (Found lexeme from after) = (length from.now ≤ n) × (length after.now < n)
