-- Blank space and line breaks (WGSL, "Blankspace and Line Breaks"). Blank space is wider here than
-- in the draft, which has Unicode's pattern white space.
use Rattle.std.specs.Prelude.{ℕ, Bool, ◌||◌, ◌==◌}
use Rattle.std.specs.Char.{is_whitespace}

-- blank space: every character of Unicode's White_Space, and the marks U+200E and U+200F
abbrev pub is_blank : ℕ → Bool
is_blank c = is_whitespace c || (c == 0x200E || c == 0x200F)

-- a line break: LF, VT, FF, CR, U+0085, U+2028 or U+2029
abbrev pub is_line_break : ℕ → Bool
is_line_break c = (((((c == 10 || c == 11) || c == 12) || c == 13) || c == 0x85) || c == 0x2028) || c == 0x2029
