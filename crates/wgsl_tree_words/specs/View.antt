-- The named values and the operators as plain data.
pub use Rattle.wgsl_tree_words.specs.ViewNodes.{severity_view, access_mode_view, address_space_view}
pub use Rattle.wgsl_tree_words.specs.ViewNodes.{interpolation_type_view, builtin_value_view}
pub use Rattle.wgsl_tree_words.specs.ViewNodes.{interpolation_sampling_view, unary_operator_view}
pub use Rattle.wgsl_tree_words.specs.ViewNodes.{binary_operator_view, assignment_operator_view}
