use Rattle.std.proofs.Common.{◌-◌, ◌<◌, ◌≤◌, length, slice_index}
use Rattle.wgsl_server_text.proofs.lines.line_of.Given as goal

-- the line is one of those from `line` on and before `end`
abbrev pub invariant-loop-end : goal.invariant-loop-end
invariant-loop-end l = record {
  some : l.line < l.end;
  within : l.end ≤ length l.starts;
  from : slice_index l.starts l.line ≤ l.offset;
  below : l.end < length l.starts → l.offset < slice_index l.starts l.end;
}

abbrev pub decreases-loop-end : goal.decreases-loop-end
decreases-loop-end l = l.end - l.line
