-- The printed texts of the members of a structure.
use Rattle.std.specs.Prelude.{ℕ, List, map, codes}
use Rattle.wgsl_model.specs.Trees.Spanned as plain_tree
use Rattle.wgsl_model.specs.Trees.Units as plain
use Rattle.wgsl_model.specs.Printed.Joining.{joined}
use Rattle.wgsl_model.specs.Printed.Units.{print_member}
use Rattle.wgsl_span.specs.declared.Spanned.{Spanned}
use Rattle.wgsl_span.specs.View.{spanned_view}
use Rattle.wgsl_tree_unit.specs.declared.structure.StructMember.{StructMember}
use Rattle.wgsl_tree_unit.specs.View.{member_view}

-- members with `,` and a line break between each two
abbrev pub print_members : List (Spanned StructMember) → List ℕ
print_members members =
    joined (codes ",\n")
    (map (λ (m : plain_tree.Spanned plain.StructMember). print_member m.node)
    (map (spanned_view member_view) members))
