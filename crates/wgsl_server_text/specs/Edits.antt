-- Edits of a text by ranges of the protocol.
use Rattle.std.specs.Prelude.{ℕ, nat_le, List, ◌++◌, take, drop, Option, Some, None, if◌then◌else◌}
use Rattle.wgsl_server_text.specs.Positions.{position_at, offset_at}
use Rattle.wgsl_server_text.specs.declared.encoding.PositionEncoding.{PositionEncoding}
use Rattle.wgsl_server_text.specs.declared.position.Range.{Range}

-- the offsets of a range, if the text has both and they are in order
abbrev pub in_order : Option ℕ → Option ℕ → Option (ℕ × ℕ)
in_order None end = None
in_order (Some start) None = None
in_order (Some start) (Some end) = if nat_le start end then Some (start, end) else None

-- the range between two offsets
abbrev pub range_at : PositionEncoding → List ℕ → ℕ → ℕ → Range
range_at e text start end = record { start = position_at e text start; end = position_at e text end }

abbrev pub offsets_of : PositionEncoding → List ℕ → Range → Option (ℕ × ℕ)
offsets_of e text range = in_order (offset_at e text range.start) (offset_at e text range.end)

-- a text with other bytes in place of those between two offsets
abbrev pub replaced : List ℕ → ℕ × ℕ → List ℕ → List ℕ
replaced text offsets new = take offsets.0 text ++ new ++ drop offsets.1 text

-- the text after new text takes the place of a range, or of all where there is none
abbrev pub replaced_at : List ℕ → List ℕ → Option (ℕ × ℕ) → Option (List ℕ)
replaced_at text new None = None
replaced_at text new (Some offsets) = Some (replaced text offsets new)

abbrev pub edited : PositionEncoding → List ℕ → Option Range → List ℕ → Option (List ℕ)
edited e text None new = Some new
edited e text (Some range) new = replaced_at text new (offsets_of e text range)
