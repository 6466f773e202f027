use Rattle.std.proofs.Common.{◌≡◌, ◌++◌, map, take}
use Rattle.std.specs.List.{flat_map}
use Rattle.wgsl_diff.specs.Printing.{print_hunk}
use Rattle.wgsl_diff.specs.View.{hunk_view}
use Rattle.wgsl_diff.proofs.printing.push_diff.Given as goal

-- the hunks so far are written
abbrev pub invariant-loop-hunk : goal.invariant-loop-hunk
invariant-loop-hunk l = l.output.items
    ≡ l.initial.output.items ++ flat_map print_hunk (map hunk_view (take l.hunk-index l.hunks))
