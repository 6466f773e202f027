-- Written by tools/tables/tree_nodes.py from crates/wgsl_model/nodes: which variant a plain tree
-- is.
use Rattle.std.specs.Prelude.{Bool, true, false}
use Rattle.wgsl_model.specs.Trees.Expressions as plain

abbrev pub is_literal : plain.Expression → Bool
is_literal (plain.literal _) = true
is_literal _ = false

abbrev pub is_parenthesized : plain.Expression → Bool
is_parenthesized (plain.parenthesized _) = true
is_parenthesized _ = false

abbrev pub is_named_component : plain.Expression → Bool
is_named_component (plain.named_component _ _) = true
is_named_component _ = false

abbrev pub is_indexing : plain.Expression → Bool
is_indexing (plain.indexing _ _) = true
is_indexing _ = false

abbrev pub is_unary : plain.Expression → Bool
is_unary (plain.unary _ _) = true
is_unary _ = false

abbrev pub is_binary : plain.Expression → Bool
is_binary (plain.binary _ _ _) = true
is_binary _ = false

abbrev pub is_function_call : plain.Expression → Bool
is_function_call (plain.function_call _) = true
is_function_call _ = false

abbrev pub is_type_or_identifier : plain.Expression → Bool
is_type_or_identifier (plain.type_or_identifier _) = true
is_type_or_identifier _ = false

abbrev pub is_bool : plain.LiteralExpression → Bool
is_bool (plain.boolean _) = true
is_bool _ = false

abbrev pub is_abstract_int : plain.LiteralExpression → Bool
is_abstract_int (plain.abstract_int _) = true
is_abstract_int _ = false

abbrev pub is_i32 : plain.LiteralExpression → Bool
is_i32 (plain.i32 _) = true
is_i32 _ = false

abbrev pub is_u32 : plain.LiteralExpression → Bool
is_u32 (plain.u32 _) = true
is_u32 _ = false

abbrev pub is_abstract_float : plain.LiteralExpression → Bool
is_abstract_float (plain.abstract_float _) = true
is_abstract_float _ = false

abbrev pub is_f32 : plain.LiteralExpression → Bool
is_f32 (plain.f32 _) = true
is_f32 _ = false

abbrev pub is_f16 : plain.LiteralExpression → Bool
is_f16 (plain.f16 _) = true
is_f16 _ = false
