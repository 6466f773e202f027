-- Places in a source, in bytes.
use Rattle.std.specs.Prelude.{ℕ, ◌-◌, List, length}
use Rattle.std.specs.Str.{encode_utf8_all}

-- how many bytes a text has
abbrev pub width : List ℕ → ℕ
width text = length (encode_utf8_all text)

-- the place of a text that ends a source of a number of bytes
abbrev pub place : ℕ → List ℕ → ℕ
place total text = total - width text
