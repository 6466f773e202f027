use Rattle.std.proofs.Common.{◌≡◌, ◌++◌, length}
use Rattle.std.specs.Vec.Iter.{into_iter_items, into_iter_len}
use Rattle.wgsl_model_packed.specs.Rules.{first_declaration_rule}
use Rattle.wgsl_tree_packed.proofs.Units.{left_after}
use Rattle.wgsl_tree_packed.proofs.unit.pack_declarations.Given as goal

-- what is left to write of the declarations, and how many are left
abbrev pub invariant-declarations : goal.invariant-declarations
invariant-declarations l =
    (l.out.items ++ left_after l.rule (into_iter_items l.item-iterator)
    ≡ l.initial.out.items
    ++ left_after first_declaration_rule (into_iter_items l.initial.item-iterator))
    × (into_iter_len l.item-iterator ≡ length (into_iter_items l.item-iterator))
