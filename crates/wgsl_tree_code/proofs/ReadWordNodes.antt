-- Written by tools/tables/tree_readers.py from crates/wgsl_model/nodes: words read from their
-- codes.
use Rattle.std.specs.Prelude.{[], ◌∷◌, Option, None, Some, codes, ◌≡◌}
use Rattle.std.proofs.Common.{refl}
use Rattle.wgsl_model.specs.Trees.NamedValues as plain
use Rattle.wgsl_tree_code.specs.Code.{Code, text}
use Rattle.wgsl_tree_code.proofs.Reading.{chosen}
use Rattle.wgsl_tree_code.specs.WordNodes.{access_mode_code, address_space_code, builtin_value_code, diagnostic_severity_code, interpolation_sampling_code, interpolation_type_code}

abbrev pub diagnostic_severity_of : Code → Option plain.DiagnosticSeverity
diagnostic_severity_of (text word) = chosen word
    ((codes "error", λ _. Some plain.error) ∷ (codes "warning", λ _. Some plain.warning)
    ∷ (codes "info", λ _. Some plain.info) ∷ (codes "off", λ _. Some plain.off) ∷ [])
diagnostic_severity_of c = None

abbrev pub address_space_of : Code → Option plain.AddressSpace
address_space_of (text word) = chosen word ((codes "function", λ _. Some plain.function)
    ∷ (codes "private", λ _. Some plain.private) ∷ (codes "workgroup", λ _. Some plain.workgroup)
    ∷ (codes "uniform", λ _. Some plain.uniform) ∷ (codes "storage", λ _. Some plain.storage) ∷ [])
address_space_of c = None

abbrev pub access_mode_of : Code → Option plain.AccessMode
access_mode_of (text word) = chosen word ((codes "read", λ _. Some plain.read)
    ∷ (codes "write", λ _. Some plain.write) ∷ (codes "read_write", λ _. Some plain.read_write) ∷ [])
access_mode_of c = None

abbrev pub builtin_value_of : Code → Option plain.BuiltinValue
builtin_value_of (text word) = chosen word ((codes "vertex_index", λ _. Some plain.vertex_index)
    ∷ (codes "instance_index", λ _. Some plain.instance_index)
    ∷ (codes "clip_distances", λ _. Some plain.clip_distances) ∷ (codes "position", λ _. Some plain.position)
    ∷ (codes "front_facing", λ _. Some plain.front_facing) ∷ (codes "frag_depth", λ _. Some plain.frag_depth)
    ∷ (codes "sample_index", λ _. Some plain.sample_index) ∷ (codes "sample_mask", λ _. Some plain.sample_mask)
    ∷ (codes "local_invocation_id", λ _. Some plain.local_invocation_id)
    ∷ (codes "local_invocation_index", λ _. Some plain.local_invocation_index)
    ∷ (codes "global_invocation_id", λ _. Some plain.global_invocation_id)
    ∷ (codes "workgroup_id", λ _. Some plain.workgroup_id) ∷ (codes "num_workgroups", λ _. Some plain.num_workgroups)
    ∷ (codes "subgroup_invocation_id", λ _. Some plain.subgroup_invocation_id)
    ∷ (codes "subgroup_size", λ _. Some plain.subgroup_size) ∷ [])
builtin_value_of c = None

abbrev pub interpolation_type_of : Code → Option plain.InterpolationType
interpolation_type_of (text word) = chosen word ((codes "perspective", λ _. Some plain.perspective)
    ∷ (codes "linear", λ _. Some plain.linear) ∷ (codes "flat", λ _. Some plain.flat) ∷ [])
interpolation_type_of c = None

abbrev pub interpolation_sampling_of : Code → Option plain.InterpolationSampling
interpolation_sampling_of (text word) = chosen word ((codes "center", λ _. Some plain.center)
    ∷ (codes "centroid", λ _. Some plain.centroid) ∷ (codes "sample", λ _. Some plain.sample)
    ∷ (codes "first", λ _. Some plain.first) ∷ (codes "either", λ _. Some plain.either) ∷ [])
interpolation_sampling_of c = None

pub diagnostic_severity_read : (x : plain.DiagnosticSeverity)
    → diagnostic_severity_of (diagnostic_severity_code x) ≡ Some x
diagnostic_severity_read plain.error = refl
diagnostic_severity_read _ = refl

pub address_space_read : (x : plain.AddressSpace) → address_space_of (address_space_code x) ≡ Some x
address_space_read plain.function = refl
address_space_read _ = refl

pub access_mode_read : (x : plain.AccessMode) → access_mode_of (access_mode_code x) ≡ Some x
access_mode_read plain.read = refl
access_mode_read _ = refl

pub builtin_value_read : (x : plain.BuiltinValue) → builtin_value_of (builtin_value_code x) ≡ Some x
builtin_value_read plain.vertex_index = refl
builtin_value_read _ = refl

pub interpolation_type_read : (x : plain.InterpolationType) → interpolation_type_of (interpolation_type_code x) ≡ Some x
interpolation_type_read plain.perspective = refl
interpolation_type_read _ = refl

pub interpolation_sampling_read : (x : plain.InterpolationSampling)
    → interpolation_sampling_of (interpolation_sampling_code x) ≡ Some x
interpolation_sampling_read plain.center = refl
interpolation_sampling_read _ = refl
