-- Attributes, and what is after them.
use Rattle.std.specs.Prelude.{[]}
use Rattle.wgsl_model.specs.Trees.Attributes.{Attributes}

-- a node after its attributes
pub record Attributed (Node : Type 0) : Type 0 where
  pub attributes : Attributes
  pub node : Node

-- a node with its attributes
abbrev pub with_attributes : {Node : Type 0} → Attributes → Node → Attributed Node
with_attributes attributes node = record { attributes = attributes; node = node }

-- a node without attributes
abbrev pub without_attributes : {Node : Type 0} → Node → Attributed Node
without_attributes node = with_attributes [] node
