-- What a node is once the loan of its attributes is over.
use Rattle.std.specs.Prelude.{List, length, ◌≡◌}
use Rattle.std.specs.Borrow.{Lends, MutBor, Fml, RattleType, Array}
use Rattle.wgsl_span.specs.declared.Spanned.{Spanned}
use Rattle.wgsl_span.specs.contracts.Spanned.{the_row as spanned_row}
use Rattle.wgsl_tree_attribute.specs.declared.attribute.Attribute.{Attribute}
use Rattle.wgsl_tree_attribute.specs.contracts.attribute.Attribute.{the_row as attribute_row}

-- s ends with the last list after r as its attributes, as `with` gives it
abbrev pub LendsAttributes : (Node : RattleType) → (Node.Denot → List (Spanned Attribute) → Node.Denot)
    → MutBor Node.Denot → MutBor (List (Spanned Attribute)) → Fml
LendsAttributes Node with s r = Lends Node (Array (spanned_row attribute_row) 0) s r (with s.now)

-- with any list of as many attributes as the node has in their place, that list is its attributes,
-- and all else of it stays
abbrev pub ChangesAttributesAlone : {Node : Type 0} → (Node → List (Spanned Attribute))
    → (Node → Node → Type 0) → (Node → List (Spanned Attribute) → Node) → Node → Type 0
ChangesAttributesAlone attributes_of same_else with node =
    (list : List (Spanned Attribute)) → length list ≡ length (attributes_of node)
    → (attributes_of (with node list) ≡ list) × same_else node (with node list)
