use Rattle.std.proofs.Common.{rules, ◌≡◌, refl, ap, ◌∙◌, Bool, List, ◌+◌, ◌++◌, take, codes}
use Rattle.std.proofs.lemmas.List.{take_all}
use Rattle.wgsl_model.specs.Printed.Units.{print_member}
use Rattle.wgsl_model.proofs.Filled.{member_filled}
use Rattle.wgsl_span.specs.declared.Spanned.{Spanned}
use Rattle.wgsl_span.specs.Spanned.{spanned_node}
use Rattle.wgsl_writer.proofs.Through.{wrote_nothing, wrote_of_eq}
use Rattle.wgsl_writer.proofs.Within.{wrote_within}
use Rattle.wgsl_tree_simple.proofs.Blocks.{block_lines, block_more, before_line, is_nil, not_nil}
use Rattle.wgsl_tree_simple.proofs.Writes.{◌▸◌}
use Rattle.wgsl_tree_unit.specs.declared.structure.StructMember.{StructMember}
use Rattle.wgsl_tree_unit.specs.Printed.{print_members}
use Rattle.wgsl_tree_unit.specs.View.{member_view}
use Rattle.wgsl_tree_unit.proofs.Texts.{member_texts, members_filled, members_more}
use Rattle.wgsl_tree_unit.proofs.structure.write_member_lines.Goals as goal

pub lines-init : goal.lines-init
lines-init g c = (refl, wrote_nothing g.W.Write.write_str_gives _)

pub lines-preserved : goal.lines-preserved
lines-preserved g c =
    let end = codes ",\n" in
    let items = c.args.members.now in
    let item = c.member-item.result in
    let before = take c.lines.member-index items in
    let texts = member_texts before in
    let text = print_member (member_view (spanned_node item)) in
    let same = members_more items c.lines.member-index item (search rules) c.member-item.is in
    let written : block_lines end texts ++ before_line end c.lines.first ++ text
    ≡ block_lines end (member_texts (take (c.lines.member-index + 1) items)) =
    ap (λ (b : Bool). block_lines end texts ++ before_line end b ++ text) c.lines.invariant.0
    ∙ block_more end texts text (members_filled before) (member_filled (member_view (spanned_node item)))
    ∙ ap (block_lines end) same in (
      not_nil texts text ∙ ap is_nil same,
      wrote_of_eq _ _ _ _ _ written
          (c.lines.invariant.1 ▸ c.in_ok-write_member_gap.ensures refl ▸ c.in_ok-write_value.ensures refl),
    )

pub returns : goal.returns
returns g c = λ ok.
    wrote_within g.W.Write.write_str_gives _ _ _ _ (print_members c.args.members.now) (c.in_ok-indent.ensures refl)
    (wrote_of_eq _ _ _ _ _ (ap (λ (xs : List (Spanned StructMember)). block_lines (codes ",\n")
    (member_texts xs)) (take_all _ c.args.members.now c.lines-test.false)) c.lines.invariant.1)
    c.unindent.ensures
