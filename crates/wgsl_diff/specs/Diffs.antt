-- A diff, and what it makes of the lines of a text.
use Rattle.std.specs.Prelude.{◌≡◌, ◌≤◌, Bool, true, false, ℕ, ◌+◌, List, [], ◌∷◌, ◌++◌, length, take}
use Rattle.std.specs.List.{All, Contains}

-- a line of a diff: both texts have it, or the old one alone, or the new one alone
pub data Line : Type 0 where
  kept : List ℕ → Line
  removed : List ℕ → Line
  added : List ℕ → Line

-- whether both texts have a line
abbrev pub is_kept : Line → Bool
is_kept (kept text) = true
is_kept (removed text) = false
is_kept (added text) = false

-- whether the old text has a line
abbrev pub in_old : Line → Bool
in_old (kept text) = true
in_old (removed text) = true
in_old (added text) = false

-- whether the new text has it
abbrev pub in_new : Line → Bool
in_new (kept text) = true
in_new (removed text) = false
in_new (added text) = true

-- the lines of the old text among those of a diff
abbrev pub old_lines : List Line → List (List ℕ)
old_lines [] = []
old_lines (kept text ∷ lines) = text ∷ old_lines lines
old_lines (removed text ∷ lines) = text ∷ old_lines lines
old_lines (added text ∷ lines) = old_lines lines

-- the lines of the new text among them
abbrev pub new_lines : List Line → List (List ℕ)
new_lines [] = []
new_lines (kept text ∷ lines) = text ∷ new_lines lines
new_lines (removed text ∷ lines) = new_lines lines
new_lines (added text ∷ lines) = text ∷ new_lines lines

-- both texts have these lines
abbrev pub AllKept : List Line → Type 0
AllKept [] = Unit {0}
AllKept (kept text ∷ lines) = AllKept lines
AllKept (removed text ∷ lines) = ⊥
AllKept (added text ∷ lines) = ⊥

-- the lines that are removed before the next one that both texts have
abbrev pub removed_first : List Line → List (List ℕ)
removed_first [] = []
removed_first (kept text ∷ lines) = []
removed_first (removed text ∷ lines) = text ∷ removed_first lines
removed_first (added text ∷ lines) = removed_first lines

-- and those that are added
abbrev pub added_first : List Line → List (List ℕ)
added_first [] = []
added_first (kept text ∷ lines) = []
added_first (removed text ∷ lines) = added_first lines
added_first (added text ∷ lines) = text ∷ added_first lines

-- no line of some is one of others
abbrev pub AreApart : List (List ℕ) → List (List ℕ) → Type 0
AreApart some others = All (λ text. ¬ (Contains others text)) some

-- the first 32 lines that are removed there are apart from the first 32 that are added
abbrev pub BeginsApart : List Line → Type 0
BeginsApart lines = AreApart (take 32 (removed_first lines)) (take 32 (added_first lines))

-- and so it is after each line that both texts have
abbrev pub AllBeginApart : List Line → Type 0
AllBeginApart [] = Unit {0}
AllBeginApart (kept text ∷ lines) = BeginsApart lines × AllBeginApart lines
AllBeginApart (removed text ∷ lines) = AllBeginApart lines
AllBeginApart (added text ∷ lines) = AllBeginApart lines

-- All lines of two texts as those of a diff. Where the texts begin to differ, none of the first 32
-- lines that are removed is one of the first 32 that are added.
pub record IsScript (old new : List (List ℕ)) (lines : List Line) : Type 0 where
  pub has_old : old_lines lines ≡ old
  pub has_new : new_lines lines ≡ new
  pub front : BeginsApart lines
  pub each : AllBeginApart lines

-- lines of a diff, with the numbers of lines of the old and of the new text before them
pub record Hunk : Type 0 where
  pub old_start : ℕ
  pub new_start : ℕ
  pub lines : List Line

-- After a number of lines that both texts have: among these at most six that both have come before
-- one that differs, those before them too, and at most three come last.
abbrev pub IsShort : ℕ → List Line → Type 0
IsShort before [] = before ≤ 3
IsShort before (kept text ∷ lines) = IsShort (before + 1) lines
IsShort before (removed text ∷ lines) = (before ≤ 6) × IsShort 0 lines
IsShort before (added text ∷ lines) = (before ≤ 6) × IsShort 0 lines

-- After these numbers of lines of the two texts, the hunks are lines of a diff, in order. Both texts
-- have the lines between hunks. In a hunk at most three that both have come first, at most three
-- last, and at most six between two that differ.
abbrev pub AreHunks : ℕ → ℕ → List Hunk → List Line → Type 0
AreHunks old_before new_before [] lines = AllKept lines
AreHunks old_before new_before (hunk ∷ hunks) lines =
    (same : List Line) × (rest : List Line) × (lines ≡ same ++ (hunk.lines ++ rest))
    × AllKept same × IsShort 3 hunk.lines
    × (hunk.old_start ≡ old_before + length same) × (hunk.new_start ≡ new_before + length same)
    × AreHunks (hunk.old_start + length (old_lines hunk.lines))
    (hunk.new_start + length (new_lines hunk.lines)) hunks rest
