-- Directives and declarations in their packed form, by their parts.
use Rattle.std.specs.Prelude.{ℕ, List}
use Rattle.wgsl_model.specs.Trees.Attributed.{Attributed}
use Rattle.wgsl_model.specs.Trees.Units.{UnattributedDirective, UnattributedDeclaration}
use Rattle.wgsl_model_packed.specs.Attributes.{packed_attribute_line}
use Rattle.wgsl_model_packed.specs.Units.{packed_directive_after, packed_declaration_after}

-- a node after its attributes, as a directive of its kind
abbrev pub packed_directive_of : {Node : Type 0} → (Node → UnattributedDirective) → Attributed Node
    → List ℕ
packed_directive_of kind a =
    packed_directive_after (packed_attribute_line a.attributes) (kind a.node)

-- a node after its attributes, as a declaration of its kind
abbrev pub packed_declaration_of : {Node : Type 0} → (Node → UnattributedDeclaration)
    → Attributed Node → List ℕ
packed_declaration_of kind a =
    packed_declaration_after (packed_attribute_line a.attributes) (kind a.node)
