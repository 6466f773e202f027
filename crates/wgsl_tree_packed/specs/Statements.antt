-- Statements in their packed form, by their parts.
use Rattle.std.specs.Prelude.{ℕ, List, ◌∷◌, ◌++◌}
use Rattle.wgsl_model.specs.Trees.Attributed.{Attributed}
use Rattle.wgsl_model.specs.Trees.Statements.{UnattributedStatement, CompoundStatement, compound_statement}
use Rattle.wgsl_model_packed.specs.Attributes.{packed_attribute_line}
use Rattle.wgsl_model_packed.specs.Rules.{block_rule}
use Rattle.wgsl_model_packed.specs.Statements.{packed_after, packed_in, end_of}

-- a node after its attributes, as a statement of its kind, without the `;` that ends it
abbrev pub packed_unended_of : {Node : Type 0} → (Node → UnattributedStatement) → Attributed Node
    → List ℕ
packed_unended_of kind a = packed_after a.attributes (kind a.node)

-- a block, by what ends it if something in it is printed, and if not
abbrev pub packed_block : ℕ → ℕ → CompoundStatement → List ℕ
packed_block some none (compound_statement attributes ss) =
    block_rule ∷ (packed_attribute_line attributes ++ (packed_in ss ++ end_of some none ss))
