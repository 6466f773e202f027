-- Written by tools/tables/tree_words.py from crates/wgsl_model/nodes: operators and values as plain
-- data.
use Rattle.wgsl_model.specs.Trees.NamedValues as plain
use Rattle.wgsl_model.specs.Trees.Operators as plain_operator
use Rattle.wgsl_tree_words.specs.declared.words_nodes.DiagnosticSeverity.{DiagnosticSeverity}
use Rattle.wgsl_tree_words.specs.declared.words_nodes.DiagnosticSeverity.TheVariants as severity
use Rattle.wgsl_tree_words.specs.declared.words_nodes.AddressSpace.{AddressSpace}
use Rattle.wgsl_tree_words.specs.declared.words_nodes.AddressSpace.TheVariants as address_space
use Rattle.wgsl_tree_words.specs.declared.words_nodes.AccessMode.{AccessMode}
use Rattle.wgsl_tree_words.specs.declared.words_nodes.AccessMode.TheVariants as access_mode
use Rattle.wgsl_tree_words.specs.declared.words_nodes.UnaryOperator.{UnaryOperator}
use Rattle.wgsl_tree_words.specs.declared.words_nodes.UnaryOperator.TheVariants as unary_operator
use Rattle.wgsl_tree_words.specs.declared.words_nodes.BinaryOperator.{BinaryOperator}
use Rattle.wgsl_tree_words.specs.declared.words_nodes.BinaryOperator.TheVariants as binary_operator
use Rattle.wgsl_tree_words.specs.declared.words_nodes.AssignmentOperator.{AssignmentOperator}
use Rattle.wgsl_tree_words.specs.declared.words_nodes.AssignmentOperator.TheVariants as assignment_operator
use Rattle.wgsl_tree_words.specs.declared.words_nodes.BuiltinValue.{BuiltinValue}
use Rattle.wgsl_tree_words.specs.declared.words_nodes.BuiltinValue.TheVariants as builtin_value
use Rattle.wgsl_tree_words.specs.declared.words_nodes.InterpolationType.{InterpolationType}
use Rattle.wgsl_tree_words.specs.declared.words_nodes.InterpolationType.TheVariants as interpolation_type
use Rattle.wgsl_tree_words.specs.declared.words_nodes.InterpolationSampling.{InterpolationSampling}
use Rattle.wgsl_tree_words.specs.declared.words_nodes.InterpolationSampling.TheVariants as interpolation_sampling

abbrev pub severity_view : DiagnosticSeverity → plain.DiagnosticSeverity
severity_view severity.Error = plain.error
severity_view severity.Warning = plain.warning
severity_view severity.Info = plain.info
severity_view severity.Off = plain.off

abbrev pub address_space_view : AddressSpace → plain.AddressSpace
address_space_view address_space.Function = plain.function
address_space_view address_space.Private = plain.private
address_space_view address_space.Workgroup = plain.workgroup
address_space_view address_space.Uniform = plain.uniform
address_space_view address_space.Storage = plain.storage

abbrev pub access_mode_view : AccessMode → plain.AccessMode
access_mode_view access_mode.Read = plain.read
access_mode_view access_mode.Write = plain.write
access_mode_view access_mode.ReadWrite = plain.read_write

abbrev pub unary_operator_view : UnaryOperator → plain_operator.UnaryOperator
unary_operator_view unary_operator.LogicalNegation = plain_operator.logical_negation
unary_operator_view unary_operator.Negation = plain_operator.negation
unary_operator_view unary_operator.BitwiseComplement = plain_operator.bitwise_complement
unary_operator_view unary_operator.AddressOf = plain_operator.address_of
unary_operator_view unary_operator.Indirection = plain_operator.indirection

abbrev pub binary_operator_view : BinaryOperator → plain_operator.BinaryOperator
binary_operator_view binary_operator.ShortCircuitOr = plain_operator.short_circuit_or
binary_operator_view binary_operator.ShortCircuitAnd = plain_operator.short_circuit_and
binary_operator_view binary_operator.Addition = plain_operator.addition
binary_operator_view binary_operator.Subtraction = plain_operator.subtraction
binary_operator_view binary_operator.Multiplication = plain_operator.multiplication
binary_operator_view binary_operator.Division = plain_operator.division
binary_operator_view binary_operator.Remainder = plain_operator.remainder
binary_operator_view binary_operator.Equality = plain_operator.equality
binary_operator_view binary_operator.Inequality = plain_operator.inequality
binary_operator_view binary_operator.LessThan = plain_operator.less_than
binary_operator_view binary_operator.LessThanEqual = plain_operator.less_than_equal
binary_operator_view binary_operator.GreaterThan = plain_operator.greater_than
binary_operator_view binary_operator.GreaterThanEqual = plain_operator.greater_than_equal
binary_operator_view binary_operator.BitwiseOr = plain_operator.bitwise_or
binary_operator_view binary_operator.BitwiseAnd = plain_operator.bitwise_and
binary_operator_view binary_operator.BitwiseXor = plain_operator.bitwise_xor
binary_operator_view binary_operator.ShiftLeft = plain_operator.shift_left
binary_operator_view binary_operator.ShiftRight = plain_operator.shift_right

abbrev pub assignment_operator_view : AssignmentOperator → plain_operator.AssignmentOperator
assignment_operator_view assignment_operator.Equal = plain_operator.equal
assignment_operator_view assignment_operator.PlusEqual = plain_operator.plus_equal
assignment_operator_view assignment_operator.MinusEqual = plain_operator.minus_equal
assignment_operator_view assignment_operator.TimesEqual = plain_operator.times_equal
assignment_operator_view assignment_operator.DivisionEqual = plain_operator.division_equal
assignment_operator_view assignment_operator.ModuloEqual = plain_operator.modulo_equal
assignment_operator_view assignment_operator.AndEqual = plain_operator.and_equal
assignment_operator_view assignment_operator.OrEqual = plain_operator.or_equal
assignment_operator_view assignment_operator.XorEqual = plain_operator.xor_equal
assignment_operator_view assignment_operator.ShiftRightAssign = plain_operator.shift_right_assign
assignment_operator_view assignment_operator.ShiftLeftAssign = plain_operator.shift_left_assign

abbrev pub builtin_value_view : BuiltinValue → plain.BuiltinValue
builtin_value_view builtin_value.VertexIndex = plain.vertex_index
builtin_value_view builtin_value.InstanceIndex = plain.instance_index
builtin_value_view builtin_value.ClipDistances = plain.clip_distances
builtin_value_view builtin_value.Position = plain.position
builtin_value_view builtin_value.FrontFacing = plain.front_facing
builtin_value_view builtin_value.FragDepth = plain.frag_depth
builtin_value_view builtin_value.SampleIndex = plain.sample_index
builtin_value_view builtin_value.SampleMask = plain.sample_mask
builtin_value_view builtin_value.LocalInvocationId = plain.local_invocation_id
builtin_value_view builtin_value.LocalInvocationIndex = plain.local_invocation_index
builtin_value_view builtin_value.GlobalInvocationId = plain.global_invocation_id
builtin_value_view builtin_value.WorkgroupId = plain.workgroup_id
builtin_value_view builtin_value.NumWorkgroups = plain.num_workgroups
builtin_value_view builtin_value.SubgroupInvocationId = plain.subgroup_invocation_id
builtin_value_view builtin_value.SubgroupSize = plain.subgroup_size

abbrev pub interpolation_type_view : InterpolationType → plain.InterpolationType
interpolation_type_view interpolation_type.Perspective = plain.perspective
interpolation_type_view interpolation_type.Linear = plain.linear
interpolation_type_view interpolation_type.Flat = plain.flat

abbrev pub interpolation_sampling_view : InterpolationSampling → plain.InterpolationSampling
interpolation_sampling_view interpolation_sampling.Center = plain.center
interpolation_sampling_view interpolation_sampling.Centroid = plain.centroid
interpolation_sampling_view interpolation_sampling.Sample = plain.sample
interpolation_sampling_view interpolation_sampling.First = plain.first
interpolation_sampling_view interpolation_sampling.Either = plain.either
