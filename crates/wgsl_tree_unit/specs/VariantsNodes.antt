-- Written by tools/tables/tree_nodes.py from crates/wgsl_model/nodes: which variant a plain tree
-- is.
use Rattle.std.specs.Prelude.{Bool, true, false}
use Rattle.wgsl_model.specs.Trees.Units as plain

abbrev is_diagnostic_node : plain.UnattributedDirective → Bool
is_diagnostic_node (plain.diagnostic _) = true
is_diagnostic_node _ = false

abbrev pub is_diagnostic : plain.GlobalDirective → Bool
is_diagnostic d = is_diagnostic_node d.node

abbrev is_enable_node : plain.UnattributedDirective → Bool
is_enable_node (plain.enable _) = true
is_enable_node _ = false

abbrev pub is_enable : plain.GlobalDirective → Bool
is_enable d = is_enable_node d.node

abbrev is_requires_node : plain.UnattributedDirective → Bool
is_requires_node (plain.requires _) = true
is_requires_node _ = false

abbrev pub is_requires : plain.GlobalDirective → Bool
is_requires d = is_requires_node d.node

abbrev is_declaration_node : plain.UnattributedDeclaration → Bool
is_declaration_node (plain.declaration _) = true
is_declaration_node _ = false

abbrev pub is_declaration : plain.GlobalDeclaration → Bool
is_declaration d = is_declaration_node d.node

abbrev is_type_alias_node : plain.UnattributedDeclaration → Bool
is_type_alias_node (plain.type_alias _) = true
is_type_alias_node _ = false

abbrev pub is_type_alias : plain.GlobalDeclaration → Bool
is_type_alias d = is_type_alias_node d.node

abbrev is_struct_node : plain.UnattributedDeclaration → Bool
is_struct_node (plain.structure _) = true
is_struct_node _ = false

abbrev pub is_struct : plain.GlobalDeclaration → Bool
is_struct d = is_struct_node d.node

abbrev is_function_node : plain.UnattributedDeclaration → Bool
is_function_node (plain.function _) = true
is_function_node _ = false

abbrev pub is_function : plain.GlobalDeclaration → Bool
is_function d = is_function_node d.node

abbrev is_const_assert_node : plain.UnattributedDeclaration → Bool
is_const_assert_node (plain.const_assert _) = true
is_const_assert_node _ = false

abbrev pub is_const_assert : plain.GlobalDeclaration → Bool
is_const_assert d = is_const_assert_node d.node
