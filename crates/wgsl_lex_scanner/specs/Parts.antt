-- What the scanner's own functions give and take, as their contracts see it.
use Rattle.std.specs.Prelude.{ℕ, ℤ, pos, List, chars, Option, Some, None, option_map}
use denote.Bor.{Bor}
use Rattle.grammar.specs.Tokens.{Payload.number}
use Rattle.wgsl_model.specs.Tokens.ClassTable as class
use Rattle.wgsl_model.specs.Tokens.Kind.{Kind}
use Rattle.wgsl_lex_token.specs.declared.kind_table.TokenKind.{TokenKind}
use Rattle.wgsl_lex_token.specs.View.{class_of_kind}
use Rattle.wgsl_lex_scanner.specs.declared.float.FloatType.{FloatType}
use Rattle.wgsl_lex_scanner.specs.declared.float.FloatType.TheVariants as float_type
use Rattle.wgsl_lex_scanner.specs.declared.number.NumericLiteral.{NumericLiteral}
use Rattle.wgsl_lex_scanner.specs.declared.number.NumericLiteral.TheVariants as read
use Rattle.wgsl_lex_scanner.specs.ScannedNumbers as scanned

-- a whole number of a class
abbrev pub whole_kind : ℕ → ℤ → Kind
whole_kind class n = record { class = class; payload = number n }

-- the class of a float
abbrev pub float_class : FloatType → ℕ
float_class (float_type.AbstractFloat) = class.AbstractFloat
float_class (float_type.F32) = class.F32
float_class (float_type.F16) = class.F16

-- a number that was read
abbrev pub number_view : NumericLiteral → scanned.NumericLiteral
number_view (read.AbstractInt value) = scanned.integer class.AbstractInt
    (option_map (whole_kind class.AbstractInt) value)
number_view (read.I32 value) = scanned.integer class.I32 (option_map (whole_kind class.I32) value)
number_view (read.U32 value) = scanned.integer class.U32 (option_map (λ n. whole_kind class.U32 (pos n)) value)
number_view (read.Float float_type) = scanned.float (float_class float_type)

-- a float's class and what follows it
abbrev pub float_view : FloatType × Bor (List ℕ) → ℕ × List ℕ
float_view found = (float_class found.0, chars found.1.now)

abbrev pub optional_float_view : Option (FloatType × Bor (List ℕ)) → Option (ℕ × List ℕ)
optional_float_view None = None
optional_float_view (Some found) = Some (float_view found)

-- a number and what follows it
abbrev pub number_and_rest : NumericLiteral × Bor (List ℕ) → scanned.NumericLiteral × List ℕ
number_and_rest found = (number_view found.0, chars found.1.now)

abbrev pub optional_number_view : Option (NumericLiteral × Bor (List ℕ)) → Option (scanned.NumericLiteral × List ℕ)
optional_number_view None = None
optional_number_view (Some found) = Some (number_and_rest found)

-- a symbol's class and what follows it
abbrev pub kind_and_rest : TokenKind × Bor (List ℕ) → ℕ × List ℕ
kind_and_rest found = (class_of_kind found.0, chars found.1.now)

abbrev pub scanned_symbol_view : Option (TokenKind × Bor (List ℕ)) → Option (ℕ × List ℕ)
scanned_symbol_view None = None
scanned_symbol_view (Some found) = Some (kind_and_rest found)
