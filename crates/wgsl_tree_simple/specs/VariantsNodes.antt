-- Written by tools/tables/tree_nodes.py from crates/wgsl_model/nodes: which variant a plain tree
-- is.
use Rattle.std.specs.Prelude.{Bool, true, false}
use Rattle.wgsl_model.specs.Trees.Statements as plain

abbrev pub is_const : plain.DeclarationKind → Bool
is_const plain.const_kind = true
is_const _ = false

abbrev pub is_override : plain.DeclarationKind → Bool
is_override plain.override_kind = true
is_override _ = false

abbrev pub is_let : plain.DeclarationKind → Bool
is_let plain.let_kind = true
is_let _ = false

abbrev pub is_var : plain.DeclarationKind → Bool
is_var (plain.var_kind _) = true
is_var _ = false

abbrev pub is_default : plain.CaseSelector → Bool
is_default plain.default_selector = true
is_default _ = false

abbrev pub is_expression : plain.CaseSelector → Bool
is_expression (plain.expression_selector _) = true
is_expression _ = false
