-- The lines and hunks of the code as plain data.
use Rattle.std.specs.Prelude.{ℕ, ◌<◌, ◌^◌, List, map}
use Rattle.std.specs.Borrow.{Bor}
use Rattle.wgsl_diff.specs.Diffs as plain
use Rattle.wgsl_diff.specs.declared.line.Line.{Line}
use Rattle.wgsl_diff.specs.declared.line.Line.TheVariants as line
use Rattle.wgsl_diff.specs.declared.hunk.Hunk.{Hunk}

-- the texts that references point to
abbrev pub texts_of : List (Bor (List ℕ)) → List (List ℕ)
texts_of texts = map (λ text. text.now) texts

abbrev pub line_view : Line → plain.Line
line_view (line.Kept text) = plain.kept text.now
line_view (line.Removed text) = plain.removed text.now
line_view (line.Added text) = plain.added text.now

abbrev pub hunk_view : Hunk → plain.Hunk
hunk_view hunk = record { old_start = hunk.old_start; new_start = hunk.new_start; lines = map line_view hunk.lines.now }

-- the places of a hunk are those of lines in memory
pub record IsSmall (hunk : Hunk) : Type 0 where
  pub old : hunk.old_start < 2 ^ 63
  pub new : hunk.new_start < 2 ^ 63
