use Rattle.std.proofs.Common.{◌≡◌, ◌++◌, map, take}
use Rattle.std.specs.List.{flat_map}
use Rattle.wgsl_diff.specs.Printing.{print_line}
use Rattle.wgsl_diff.specs.View.{line_view}
use Rattle.wgsl_diff.proofs.printing.push_hunk.Given as goal

-- the lines so far are written
abbrev pub invariant-loop-line : goal.invariant-loop-line
invariant-loop-line l = l.output.items
    ≡ l.initial.output.items ++ flat_map print_line (map line_view (take l.line-index l.hunk.lines.now))
