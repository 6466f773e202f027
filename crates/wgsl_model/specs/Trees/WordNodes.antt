-- Written by tools/tables/plain_words.py from crates/wgsl_model/nodes: operators and words.
use Rattle.std.specs.Prelude.{ℕ, List, [], ◌∷◌, codes}
use Rattle.wgsl_model.specs.Trees.WordTables.{WordTable, with_words}

-- an operator before an operand: `!`, `-`, `~`, `&`, `*` (WGSL, "Expressions")
pub data UnaryOperator : Type 0 where
  logical_negation negation bitwise_complement address_of indirection : UnaryOperator

-- the text of a unary operator
abbrev pub unary_operator_text : UnaryOperator → List ℕ
unary_operator_text logical_negation = codes "!"
unary_operator_text negation = codes "-"
unary_operator_text bitwise_complement = codes "~"
unary_operator_text address_of = codes "&"
unary_operator_text indirection = codes "*"

-- an operator between operands: `||`, `&&`, `+`, `-`, `*`, `/`, `%`, `==`, `!=`, `<`, `<=`, `>`,
-- `>=`, `|`, `&`, `^`, `<<`, `>>` (WGSL, "Expressions")
pub data BinaryOperator : Type 0 where
  short_circuit_or short_circuit_and addition subtraction multiplication division remainder equality
      inequality less_than less_than_equal greater_than greater_than_equal bitwise_or bitwise_and
      bitwise_xor shift_left shift_right : BinaryOperator

-- the text of a binary operator
abbrev pub binary_operator_text : BinaryOperator → List ℕ
binary_operator_text short_circuit_or = codes "||"
binary_operator_text short_circuit_and = codes "&&"
binary_operator_text addition = codes "+"
binary_operator_text subtraction = codes "-"
binary_operator_text multiplication = codes "*"
binary_operator_text division = codes "/"
binary_operator_text remainder = codes "%"
binary_operator_text equality = codes "=="
binary_operator_text inequality = codes "!="
binary_operator_text less_than = codes "<"
binary_operator_text less_than_equal = codes "<="
binary_operator_text greater_than = codes ">"
binary_operator_text greater_than_equal = codes ">="
binary_operator_text bitwise_or = codes "|"
binary_operator_text bitwise_and = codes "&"
binary_operator_text bitwise_xor = codes "^"
binary_operator_text shift_left = codes "<<"
binary_operator_text shift_right = codes ">>"

-- the operator of an assignment: `=`, `+=`, `-=`, `*=`, `/=`, `%=`, `&=`, `|=`, `^=`, `>>=`, `<<=`
-- (WGSL, "Assignment Statement")
pub data AssignmentOperator : Type 0 where
  equal plus_equal minus_equal times_equal division_equal modulo_equal and_equal or_equal xor_equal
      shift_right_assign shift_left_assign : AssignmentOperator

-- the text of an assignment operator
abbrev pub assignment_operator_text : AssignmentOperator → List ℕ
assignment_operator_text equal = codes "="
assignment_operator_text plus_equal = codes "+="
assignment_operator_text minus_equal = codes "-="
assignment_operator_text times_equal = codes "*="
assignment_operator_text division_equal = codes "/="
assignment_operator_text modulo_equal = codes "%="
assignment_operator_text and_equal = codes "&="
assignment_operator_text or_equal = codes "|="
assignment_operator_text xor_equal = codes "^="
assignment_operator_text shift_right_assign = codes ">>="
assignment_operator_text shift_left_assign = codes "<<="

-- a severity: how a diagnostic is reported (WGSL, "Diagnostics")
pub data DiagnosticSeverity : Type 0 where
  error warning info off : DiagnosticSeverity

-- the word of a severity
abbrev pub severity_text : DiagnosticSeverity → List ℕ
severity_text error = codes "error"
severity_text warning = codes "warning"
severity_text info = codes "info"
severity_text off = codes "off"

-- the words of severities
abbrev pub severities : WordTable DiagnosticSeverity
severities = with_words severity_text (error ∷ warning ∷ info ∷ off ∷ [])

-- an address space: where a variable is stored (WGSL, "Address Spaces")
pub data AddressSpace : Type 0 where
  function private workgroup uniform storage : AddressSpace

-- the word of an address space
abbrev pub address_space_text : AddressSpace → List ℕ
address_space_text function = codes "function"
address_space_text private = codes "private"
address_space_text workgroup = codes "workgroup"
address_space_text uniform = codes "uniform"
address_space_text storage = codes "storage"

-- the words of address spaces
abbrev pub address_spaces : WordTable AddressSpace
address_spaces = with_words address_space_text (function ∷ private ∷ workgroup ∷ uniform ∷ storage ∷ [])

-- an access mode: how memory is used (WGSL, "Memory Access Mode")
pub data AccessMode : Type 0 where
  read write read_write : AccessMode

-- the word of an access mode
abbrev pub access_mode_text : AccessMode → List ℕ
access_mode_text read = codes "read"
access_mode_text write = codes "write"
access_mode_text read_write = codes "read_write"

-- the words of access modes
abbrev pub access_modes : WordTable AccessMode
access_modes = with_words access_mode_text (read ∷ write ∷ read_write ∷ [])

-- a built-in value, which a stage is given or gives (WGSL, "Built-in Inputs and Outputs")
pub data BuiltinValue : Type 0 where
  vertex_index instance_index clip_distances position front_facing frag_depth sample_index
      sample_mask local_invocation_id local_invocation_index global_invocation_id workgroup_id
      num_workgroups subgroup_invocation_id subgroup_size : BuiltinValue

-- the word of a built-in value
abbrev pub builtin_value_text : BuiltinValue → List ℕ
builtin_value_text vertex_index = codes "vertex_index"
builtin_value_text instance_index = codes "instance_index"
builtin_value_text clip_distances = codes "clip_distances"
builtin_value_text position = codes "position"
builtin_value_text front_facing = codes "front_facing"
builtin_value_text frag_depth = codes "frag_depth"
builtin_value_text sample_index = codes "sample_index"
builtin_value_text sample_mask = codes "sample_mask"
builtin_value_text local_invocation_id = codes "local_invocation_id"
builtin_value_text local_invocation_index = codes "local_invocation_index"
builtin_value_text global_invocation_id = codes "global_invocation_id"
builtin_value_text workgroup_id = codes "workgroup_id"
builtin_value_text num_workgroups = codes "num_workgroups"
builtin_value_text subgroup_invocation_id = codes "subgroup_invocation_id"
builtin_value_text subgroup_size = codes "subgroup_size"

-- the words of built-in values
abbrev pub builtin_values : WordTable BuiltinValue
builtin_values = with_words builtin_value_text
    (vertex_index ∷ instance_index ∷ clip_distances ∷ position ∷ front_facing ∷ frag_depth
    ∷ sample_index ∷ sample_mask ∷ local_invocation_id ∷ local_invocation_index ∷ global_invocation_id
    ∷ workgroup_id ∷ num_workgroups ∷ subgroup_invocation_id ∷ subgroup_size ∷ [])

-- an interpolation type: how a value is interpolated (WGSL, "Interpolation")
pub data InterpolationType : Type 0 where
  perspective linear flat : InterpolationType

-- the word of an interpolation type
abbrev pub interpolation_type_text : InterpolationType → List ℕ
interpolation_type_text perspective = codes "perspective"
interpolation_type_text linear = codes "linear"
interpolation_type_text flat = codes "flat"

-- the words of interpolation types
abbrev pub interpolation_types : WordTable InterpolationType
interpolation_types = with_words interpolation_type_text (perspective ∷ linear ∷ flat ∷ [])

-- an interpolation sampling: where a value is sampled (WGSL, "Interpolation")
pub data InterpolationSampling : Type 0 where
  center centroid sample first either : InterpolationSampling

-- the word of an interpolation sampling
abbrev pub interpolation_sampling_text : InterpolationSampling → List ℕ
interpolation_sampling_text center = codes "center"
interpolation_sampling_text centroid = codes "centroid"
interpolation_sampling_text sample = codes "sample"
interpolation_sampling_text first = codes "first"
interpolation_sampling_text either = codes "either"

-- the words of interpolation samplings
abbrev pub interpolation_samplings : WordTable InterpolationSampling
interpolation_samplings = with_words interpolation_sampling_text (center ∷ centroid ∷ sample ∷ first ∷ either ∷ [])
