-- A node and where it is. The trees are plain data: no pointers, no capacities; names and texts
-- are their bytes.
use Rattle.grammar.specs.Tokens.{Span}

-- a node and where it is
pub record Spanned (Node : Type 0) : Type 0 where
  pub node : Node
  pub span : Span

-- a node with its span
abbrev pub spanned : {Node : Type 0} → Node → Span → Spanned Node
spanned node span = record { node = node; span = span }
