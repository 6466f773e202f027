-- The text of a unified diff.
use Rattle.std.specs.Prelude.{ℕ, ◌+◌, ◌==◌, List, [], ◌∷◌, ◌++◌, length, nat_eq, codes, if◌then◌else◌}
use Rattle.std.specs.List.{flat_map, ends_with, list_any}
use Rattle.std.specs.Fmt.{decimal}
use Rattle.wgsl_diff.specs.Diffs.{Line, kept, removed, added, old_lines, new_lines, Hunk}

-- the codes of the signs before lines: a space, `-` and `+`
abbrev pub kept_sign : ℕ
kept_sign = 32

abbrev pub removed_sign : ℕ
removed_sign = 45

abbrev pub added_sign : ℕ
added_sign = 43

-- what is written after a line: a note where it does not end with an LF
abbrev pub note_after : List ℕ → List ℕ
note_after text = if ends_with nat_eq text (codes "\n") then [] else codes "\n\\ No newline at end of file\n"

-- a line after its sign
abbrev pub print_text : ℕ → List ℕ → List ℕ
print_text sign text = sign ∷ (text ++ note_after text)

abbrev pub print_line : Line → List ℕ
print_line (kept text) = print_text kept_sign text
print_line (removed text) = print_text removed_sign text
print_line (added text) = print_text added_sign text

-- the number of the first of some lines; of no lines that of the line before them
unfoldable pub first_number : ℕ → ℕ → ℕ
first_number before count = if count == 0 then before else before + 1

-- the number of the first of some lines, and how many they are
abbrev pub print_range : ℕ → ℕ → List ℕ
print_range before count = decimal (first_number before count) ++ codes "," ++ decimal count

-- the first line of a hunk
unfoldable pub print_head : Hunk → List ℕ
print_head hunk =
    codes "@@ -" ++ print_range hunk.old_start (length (old_lines hunk.lines))
    ++ codes " +" ++ print_range hunk.new_start (length (new_lines hunk.lines)) ++ codes " @@\n"

abbrev pub print_hunk : Hunk → List ℕ
print_hunk hunk = print_head hunk ++ flat_map print_line hunk.lines

-- the code of a space
abbrev pub space : ℕ
space = 32

-- a name: one with a space is followed by a tab, since `patch` reads a name up to its first space
-- where there is no tab
abbrev pub print_name : List ℕ → List ℕ
print_name name = if list_any (λ c. c == space) name then name ++ codes "\t" else name

-- the diff of a file: its name before and after, and the hunks
abbrev pub print_diff : List ℕ → List Hunk → List ℕ
print_diff name hunks =
    codes "--- " ++ print_name name ++ codes "\n+++ " ++ print_name name ++ codes "\n" ++ flat_map print_hunk hunks
