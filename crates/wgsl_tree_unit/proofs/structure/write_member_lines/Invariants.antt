use Rattle.std.proofs.Common.{take, codes, ◌≡◌}
use Rattle.wgsl_writer.specs.Writing.{Wrote}
use Rattle.wgsl_tree_simple.proofs.Blocks.{block_lines, is_nil}
use Rattle.wgsl_tree_unit.proofs.Texts.{member_texts}
use Rattle.wgsl_tree_unit.proofs.structure.write_member_lines.Given as goal

abbrev pub invariant-lines : goal.invariant-lines
invariant-lines g l =
    let texts = member_texts (take l.member-index l.members) in
    (l.first ≡ is_nil texts) × Wrote g.W.Write.write_str_gives l.initial.out (block_lines (codes ",\n") texts) l.out
