-- Attributes as plain data.
use Rattle.std.specs.Prelude.{List, map}
use Rattle.wgsl_model.specs.Trees.Attributes as plain
use Rattle.wgsl_span.specs.declared.Spanned.{Spanned}
use Rattle.wgsl_span.specs.View.{spanned_view}
use Rattle.wgsl_tree_attribute.specs.declared.attribute.Attribute.{Attribute}
pub use Rattle.wgsl_tree_attribute.specs.ViewNodes.{expressions_view, diagnostic_view, custom_view}
pub use Rattle.wgsl_tree_attribute.specs.ViewNodes.{interpolate_view, workgroup_size_view}
pub use Rattle.wgsl_tree_attribute.specs.ViewNodes.{type_constraint_view, attribute_view}

-- attributes, each with where it is
abbrev pub attributes_view : List (Spanned Attribute) → plain.Attributes
attributes_view = map (spanned_view attribute_view)
