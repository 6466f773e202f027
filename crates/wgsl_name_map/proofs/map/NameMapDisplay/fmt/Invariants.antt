use Rattle.std.proofs.Common.{◌≡◌, ◌++◌, codes, take}
use Rattle.std.specs.List.{join_by}
use Rattle.std.specs.Fmt.{HasWritten, IsPlainFormatter}
use Rattle.wgsl_writer.proofs.Joins.{before}
use Rattle.wgsl_tree_renamed.specs.NewNames.{pairs}
use Rattle.wgsl_name_map.specs.Maps.{member}
use Rattle.wgsl_name_map.proofs.map.NameMapDisplay.fmt.Given as goal
use denote.Shadow.{shadow}
use denote.Text.{Utf8}

-- what is written of the names so far
abbrev pub invariant-pairs : goal.invariant-pairs
invariant-pairs g l =
    (l.before ≡ before (codes ",") l.index)
    × shadow (Utf8 l.before)
    × (IsPlainFormatter l.fn.f → HasWritten g.W.Write.write_str_gives l.fn.f
    (codes "{" ++ join_by member (codes ",") (take l.index (pairs l.fn.self.names.now))) l.f)
