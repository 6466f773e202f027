use Rattle.std.proofs.Common.{◌≡◌, ◌==◌, ◌≤◌, length, map, take}
use Rattle.std.specs.Prelude.{reverse}
use Rattle.wgsl_model_tidy.specs.Open.{parted_at, up_to}
use Rattle.wgsl_format_layout.specs.Kinds.{part_view}
use Rattle.wgsl_format_layout.proofs.operands.Operands.begins_with.Given as goal

abbrev pub invariant-operands : goal.invariant-operands
invariant-operands l = record {
  within : l.count ≤ length l.self-inside.items.items;
  same : (l.precedence
      == parted_at (up_to l.precedence (map part_view (reverse (take l.count l.self-inside.items.items)))))
      ≡ (l.precedence == parted_at (up_to l.precedence l.fn.self));
}

abbrev pub decreases-operands : goal.decreases-operands
decreases-operands l = l.count
