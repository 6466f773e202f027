-- What a user chooses of the layout.
use Rattle.std.specs.Prelude.{ℕ, Bool, false, ◌+◌, ◌==◌, if◌then◌else◌, List, [], ◌∷◌, codes, replicate}

-- with what lines end: CR LF if the first line break of the source is CR LF, else LF; always LF;
-- always CR LF
pub data Newlines : Type 0 where
  auto lf crlf : Newlines

-- how long a line may be, in columns, or 0 where none is too long; what a level is: a tab, or
-- spaces, and how many columns; and with what lines end
pub record Layout : Type 0 where
  pub width : ℕ
  pub tabs : Bool
  pub indent : ℕ
  pub newlines : Newlines

-- lines of up to 100 columns, four spaces a level, and the line breaks of the source
abbrev pub standard : Layout
standard = record { width = 100; tabs = false; indent = 4; newlines = auto }

-- one level
abbrev pub level : Layout → List ℕ
level layout = if layout.tabs then codes "\t" else replicate layout.indent 32

-- how many columns a character takes: a tab is as wide as a level
abbrev pub columns : Layout → ℕ → ℕ
columns layout c = if c == 9 then layout.indent else 1

-- the column after a text that begins at a column; a line begins at 0
abbrev pub column_after : Layout → ℕ → List ℕ → ℕ
column_after layout n [] = n
column_after layout n (c ∷ cs) = column_after layout (if c == 10 then 0 else n + columns layout c) cs
