-- Written by tools/tables/tree_codes.py from crates/wgsl_model/nodes: words.
use Rattle.wgsl_model.specs.Trees.NamedValues.{access_mode_text, address_space_text, builtin_value_text, interpolation_sampling_text, interpolation_type_text, severity_text}
use Rattle.wgsl_model.specs.Trees.NamedValues as plain
use Rattle.wgsl_tree_code.specs.Code.{Code, text}

-- a severity: how a diagnostic is reported
abbrev pub diagnostic_severity_code : plain.DiagnosticSeverity → Code
diagnostic_severity_code w = text (severity_text w)

-- an address space: where a variable is stored
abbrev pub address_space_code : plain.AddressSpace → Code
address_space_code w = text (address_space_text w)

-- an access mode: how memory is used
abbrev pub access_mode_code : plain.AccessMode → Code
access_mode_code w = text (access_mode_text w)

-- a built-in value, which a stage is given or gives
abbrev pub builtin_value_code : plain.BuiltinValue → Code
builtin_value_code w = text (builtin_value_text w)

-- an interpolation type: how a value is interpolated
abbrev pub interpolation_type_code : plain.InterpolationType → Code
interpolation_type_code w = text (interpolation_type_text w)

-- an interpolation sampling: where a value is sampled
abbrev pub interpolation_sampling_code : plain.InterpolationSampling → Code
interpolation_sampling_code w = text (interpolation_sampling_text w)
