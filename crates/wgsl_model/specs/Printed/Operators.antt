-- The texts of the operators (WGSL, "Expressions", "Assignment Statement").
pub use Rattle.wgsl_model.specs.Trees.WordNodes.{unary_operator_text, binary_operator_text, assignment_operator_text}
