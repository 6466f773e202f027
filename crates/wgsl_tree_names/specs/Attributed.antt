-- The names of a node after its attributes, and what a statement declares under its attributes.
use Rattle.wgsl_model.specs.Trees.Attributed.{Attributed}
use Rattle.wgsl_model.specs.Trees.Statements.{Statement, statement}
use Rattle.wgsl_model_names.specs.Names.{attributes_names, declared_under, name_declared}
use Rattle.wgsl_model_names.specs.Scopes.{Names, ◌then◌}

abbrev pub attributed : {Node : Type 0} → (Node → Names) → Attributed Node → Names
attributed names a = attributes_names a.attributes then names a.node

abbrev pub statement_declared : Statement → Names
statement_declared (statement attributes s) = declared_under attributes (name_declared s)
