use Rattle.std.proofs.Common.{ℕ, ◌≡◌, ◌++◌, List, length}
use denote.Text.{Utf8}
use denote.Shadow.{shadow}
use Rattle.wgsl_writer.specs.Writing.{Wrote}
use Rattle.wgsl_writer.proofs.indented.write_lines.Given as goal

abbrev pub invariant-lines : goal.invariant-lines
invariant-lines g l =
    shadow (Utf8 l.left)
    × (done : List ℕ) × (l.text ≡ done ++ l.left) × Wrote g.W.Write.write_str_gives l.fn.out done l.out

abbrev pub decreases-lines : goal.decreases-lines
decreases-lines g l = length l.left
