-- Written by tools/tables/tree_nodes.py from crates/wgsl_model/nodes: which variant a plain tree
-- is.
use Rattle.std.specs.Prelude.{Bool, true, false}
use Rattle.wgsl_model.specs.Trees.Attributes as plain

abbrev pub is_align : plain.Attribute → Bool
is_align (plain.with_argument plain.align _) = true
is_align _ = false

abbrev pub is_binding : plain.Attribute → Bool
is_binding (plain.with_argument plain.binding _) = true
is_binding _ = false

abbrev pub is_blend_src : plain.Attribute → Bool
is_blend_src (plain.with_argument plain.blend_src _) = true
is_blend_src _ = false

abbrev pub is_group : plain.Attribute → Bool
is_group (plain.with_argument plain.group _) = true
is_group _ = false

abbrev pub is_id : plain.Attribute → Bool
is_id (plain.with_argument plain.id _) = true
is_id _ = false

abbrev pub is_location : plain.Attribute → Bool
is_location (plain.with_argument plain.location _) = true
is_location _ = false

abbrev pub is_size : plain.Attribute → Bool
is_size (plain.with_argument plain.size _) = true
is_size _ = false

abbrev pub is_if : plain.Attribute → Bool
is_if (plain.with_argument plain.if_attribute _) = true
is_if _ = false

abbrev pub is_elif : plain.Attribute → Bool
is_elif (plain.with_argument plain.elif_attribute _) = true
is_elif _ = false

abbrev pub is_builtin : plain.Attribute → Bool
is_builtin (plain.builtin _) = true
is_builtin _ = false

abbrev pub is_const : plain.Attribute → Bool
is_const (plain.without_argument plain.const_attribute) = true
is_const _ = false

abbrev pub is_invariant : plain.Attribute → Bool
is_invariant (plain.without_argument plain.invariant) = true
is_invariant _ = false

abbrev pub is_must_use : plain.Attribute → Bool
is_must_use (plain.without_argument plain.must_use) = true
is_must_use _ = false

abbrev pub is_vertex : plain.Attribute → Bool
is_vertex (plain.without_argument plain.vertex) = true
is_vertex _ = false

abbrev pub is_fragment : plain.Attribute → Bool
is_fragment (plain.without_argument plain.fragment) = true
is_fragment _ = false

abbrev pub is_compute : plain.Attribute → Bool
is_compute (plain.without_argument plain.compute) = true
is_compute _ = false

abbrev pub is_else : plain.Attribute → Bool
is_else (plain.without_argument plain.else_attribute) = true
is_else _ = false

abbrev pub is_diagnostic : plain.Attribute → Bool
is_diagnostic (plain.diagnostic _) = true
is_diagnostic _ = false

abbrev pub is_interpolate : plain.Attribute → Bool
is_interpolate (plain.interpolate _) = true
is_interpolate _ = false

abbrev pub is_workgroup_size : plain.Attribute → Bool
is_workgroup_size (plain.workgroup_size _) = true
is_workgroup_size _ = false

abbrev pub is_type_constraint : plain.Attribute → Bool
is_type_constraint (plain.type_constraint _) = true
is_type_constraint _ = false

abbrev pub is_custom : plain.Attribute → Bool
is_custom (plain.custom _) = true
is_custom _ = false
