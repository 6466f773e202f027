-- The lines of a file.
use Rattle.std.specs.Prelude.{ℕ, ◌-◌, ◌==◌, Bool, ◌||◌, List, [], ◌∷◌, map, Option, Some, None, nat_eq, nat_lt, length, take, drop, slice_index, if◌then◌else◌}
use Rattle.std.specs.List.{starts_with, slice_split, position_or_len, before_first, after_first}
use Rattle.std.specs.Str.{trim}
use Rattle.wgsl_editorconfig.specs.declared.key.Key.{Key}
use Rattle.wgsl_editorconfig.specs.Keys.{key_of}

-- a key and its value
pub record Property : Type 0 where
  pub key : Key
  pub value : List ℕ

-- what a line is: the head of a section with its glob; a property; or empty, a comment or something
-- else
pub data Line : Type 0 where
  section : List ℕ → Line
  property : Property → Line
  other : Line

-- the byte order mark
abbrev pub mark : List ℕ
mark = 0xEF ∷ 0xBB ∷ 0xBF ∷ []

-- a text without the byte order mark that it may begin with
abbrev pub without_mark : List ℕ → List ℕ
without_mark text = if starts_with nat_eq text mark then drop 3 text else text

abbrev pub is_newline : ℕ → Bool
is_newline c = c == 10

abbrev pub is_equals : ℕ → Bool
is_equals c = c == 61

-- a comment begins with `#` or `;`
abbrev pub is_comment : List ℕ → Bool
is_comment text = (slice_index text 0 == 35) || (slice_index text 0 == 59)

-- what comes before the `]` that ends a text
abbrev pub before_bracket : List ℕ → Option (List ℕ)
before_bracket text = if slice_index text (length text - 1) == 93 then Some (take (length text - 1) text) else None

-- the glob of a section, which is in brackets
abbrev pub section_of : List ℕ → Option (List ℕ)
section_of [] = None
section_of (c ∷ cs) = if c == 91 then before_bracket cs else None

-- a property of a key that is known
abbrev pub known_property : Option Key → List ℕ → Line
known_property None value = other
known_property (Some key) value = property (record { key = key; value = value })

-- the first `=` is between a key and its value
abbrev pub property_of : List ℕ → Line
property_of text =
    if nat_lt (position_or_len is_equals text) (length text)
    then known_property (key_of (trim (before_first is_equals text))) (trim (after_first is_equals text))
    else other

-- a section, if there is a glob, and else a property
abbrev pub section_or_property : Option (List ℕ) → List ℕ → Line
section_or_property None text = property_of text
section_or_property (Some glob) text = section glob

-- what a line is, without the blanks around it
abbrev pub line_of : List ℕ → Line
line_of text = if is_comment text then other else section_or_property (section_of text) text

-- the lines of a file
abbrev pub lines : List ℕ → List Line
lines text = map (λ line. line_of (trim line)) (slice_split is_newline (without_mark text))
