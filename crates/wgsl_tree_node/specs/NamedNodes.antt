-- Written by tools/tables/node_lists.py from crates/wgsl_model/nodes: names by variants.
use Rattle.std.specs.Prelude.{ℕ, List, Option, Some, None}
use Rattle.wgsl_tree_expression.specs.View.{ident_name}
use Rattle.wgsl_tree_unit.specs.declared.global_declaration.GlobalDeclaration.{GlobalDeclaration}
use Rattle.wgsl_tree_unit.specs.declared.global_declaration.GlobalDeclaration.TheVariants as declaration

-- the name that a declaration of a module declares, if it declares one
abbrev pub declared_name : GlobalDeclaration → Option (List ℕ)
declared_name declaration.Void = None
declared_name (declaration.Declaration node) = Some (ident_name node.ident)
declared_name (declaration.TypeAlias node) = Some (ident_name node.ident)
declared_name (declaration.Struct node) = Some (ident_name node.ident)
declared_name (declaration.Function node) = Some (ident_name node.ident)
declared_name (declaration.ConstAssert node) = None
