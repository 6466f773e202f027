-- The list of attributes that a node may have.
use Rattle.std.specs.Prelude.{List, [], Option, Some, None}
use Rattle.std.specs.Option.{option_map}
use Rattle.std.specs.Vec.{with_items}
use Rattle.std.specs.Borrow.{LendsIf, MutBor, Fml, RattleType}
use Rattle.std.specs.declared.vec.Vec.{Vec}
use Rattle.std.specs.declared.alloc.Global.{Global}
use Rattle.std.specs.contracts.alloc.Global as global
use Rattle.std.specs.contracts.vec.Vec as vec
use Rattle.std.specs.contracts.impls.GlobalAllocator.TheImpl.{ghosts}
use Rattle.wgsl_span.specs.declared.Spanned.{Spanned}
use Rattle.wgsl_span.specs.contracts.Spanned.{the_row as spanned_row}
use Rattle.wgsl_tree_attribute.specs.declared.attribute.Attribute.{Attribute}
use Rattle.wgsl_tree_attribute.specs.contracts.attribute.Attribute.{the_row as attribute_row}

-- a list of attributes
abbrev pub AttributeList : Type 0
AttributeList = Vec (Spanned Attribute) Global

-- s ends with the last list after r as its own, as `with` gives it, and as it was where r is
-- `None`
abbrev pub LendsList : (Node : RattleType) → (Node.Denot → AttributeList → Node.Denot)
    → MutBor Node.Denot → Option (MutBor AttributeList) → Fml
LendsList Node with s r = LendsIf Node
    (vec.the_row (spanned_row attribute_row) global.the_row ghosts) s r (with s.now) s.now

-- the attributes in a list that may be there
abbrev pub attributes_in : Option AttributeList → List (Spanned Attribute)
attributes_in None = []
attributes_in (Some list) = list.items

-- a node with this list as its own, where there is one
abbrev pub with_list_of : {Node : Type 0} → (Node → AttributeList → Node) → Node → Option AttributeList → Node
with_list_of with node None = node
with_list_of with node (Some list) = with node list

-- a list that may be there with other attributes in it, as many as it has
abbrev pub list_with : Option AttributeList → List (Spanned Attribute) → Option AttributeList
list_with list attributes = option_map (λ there. with_items there attributes) list
