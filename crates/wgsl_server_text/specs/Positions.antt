-- Positions in a text, as the Language Server Protocol counts them: a line, and a character in it in
-- units of the encoding. A text is its bytes in UTF-8.
use Rattle.std.specs.Prelude.{◌≡◌, ℕ, zero, suc, ◌+◌, ◌-◌, ◌<◌, ◌==◌, nat_lt, nat_le, Bool, ◌&&◌, ◌||◌, List, [], ◌∷◌, Option, Some, None, slice_index, if◌then◌else◌}
use Rattle.std.specs.Option.{option_map}
use Rattle.std.specs.Str.{IsCharBoundary}
use Rattle.wgsl_server_text.specs.Lines.{is_break, ends_line}
use Rattle.wgsl_server_text.specs.declared.encoding.PositionEncoding.{PositionEncoding}
use Rattle.wgsl_server_text.specs.declared.encoding.PositionEncoding.TheVariants as encoding
use Rattle.wgsl_server_text.specs.declared.position.Position.{Position}

-- a byte with which a character begins
abbrev pub is_first : ℕ → Bool
is_first b = nat_lt b 128 || nat_le 192 b

-- how many units there are for a byte: in UTF-16 those of a character are counted at its first byte
abbrev pub units : PositionEncoding → ℕ → ℕ
units encoding.Utf8 b = 1
units encoding.Utf16 b = if is_first b then (if nat_lt b 240 then 1 else 2) else 0

-- how many units these bytes have
abbrev pub width : PositionEncoding → List ℕ → ℕ
width e [] = 0
width e (b ∷ bs) = units e b + width e bs

-- the position after a byte that these follow
abbrev pub after : PositionEncoding → Position → ℕ → List ℕ → Position
after e p b rest =
    if ends_line b rest then record { line = suc p.line; character = 0 }
    else record { line = p.line; character = p.character + units e b }

-- the position after some bytes of what is left of a text
abbrev pub position_from : PositionEncoding → Position → List ℕ → ℕ → Position
position_from e p [] n = p
position_from e p (b ∷ bs) zero = p
position_from e p (b ∷ bs) (suc n) = position_from e (after e p b bs) bs n

-- the position of an offset
abbrev pub position_at : PositionEncoding → List ℕ → ℕ → Position
position_at e text offset = position_from e (record { line = 0; character = 0 }) text offset

-- how many bytes of a line there are before a character, which none is inside of another one. A
-- character after the end of the line is the end
abbrev pub bytes_before : PositionEncoding → ℕ → List ℕ → Option ℕ
bytes_before e character [] = Some 0
bytes_before e character (b ∷ bs) =
    if is_break b || (character == 0 && is_first b) then Some 0
    else if nat_lt character (units e b) then None
    else option_map suc (bytes_before e (character - units e b) bs)

-- the offset of a character in a line, counted from the one in which the text begins
abbrev pub offset_from : PositionEncoding → ℕ → ℕ → List ℕ → Option ℕ
offset_from e zero character text = bytes_before e character text
offset_from e (suc line) character [] = None
offset_from e (suc line) character (b ∷ bs) =
    option_map suc (offset_from e (if ends_line b bs then line else suc line) character bs)

-- the offset of a position, if the text has it
abbrev pub offset_at : PositionEncoding → List ℕ → Position → Option ℕ
offset_at e text p = offset_from e p.line p.character text

-- an offset is between a CR and its LF
pub record IsInBreak (text : List ℕ) (offset : ℕ) : Type 0 where
  pub within : 0 < offset
  pub return : slice_index text (offset - 1) ≡ 13
  pub feed : slice_index text offset ≡ 10

-- a character begins at an offset or the text ends there, and it is not in a line break
pub record IsBorder (text : List ℕ) (offset : ℕ) : Type 0 where
  pub boundary : IsCharBoundary text offset
  pub whole : ¬ (IsInBreak text offset)
