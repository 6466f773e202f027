use Rattle.std.proofs.Common.{◌≡◌, ◌≤◌, ◌++◌, length}
use Rattle.std.specs.List.{All}
use Rattle.wgsl_lex_token.specs.View.{classes}
use Rattle.wgsl_lex_templates.specs.Kept.{held}
use Rattle.wgsl_lex_templates.proofs.Readings.Rests.{held_left, left_to_do}
use Rattle.wgsl_lex_templates.proofs.kept.ReadKinds.push_kinds.Given as goal

-- what was asked for is what the kinds have, and then what is left
abbrev pub invariant-pieces : goal.invariant-pieces
invariant-pieces l = record {
  within : l.left.to ≤ length l.self.pieces.items;
  each : All (λ r. r.to ≤ length l.self.pieces.items) l.rests.items;
  whole : classes l.kinds.items ++ held_left l.self.pieces.items l.left.at l.left.to l.rests.items
      ≡ classes l.fn.kinds.items ++ held l.fn.self.pieces.items l.fn.start l.fn.end;
}

abbrev pub decreases-pieces : goal.decreases-pieces
decreases-pieces l = left_to_do l.left.at l.left.to l.rests.items
