-- What `==` of attributes, and of the structs that they hold, returns.
use Rattle.std.specs.Prelude.{Bool}
use Rattle.wgsl_tree_attribute.specs.declared.attribute.Attribute.{Attribute}
use Rattle.wgsl_tree_attribute.specs.declared.diagnostic.DiagnosticAttribute.{DiagnosticAttribute}
use Rattle.wgsl_tree_attribute.specs.declared.interpolate.InterpolateAttribute.{InterpolateAttribute}
use Rattle.wgsl_tree_attribute.specs.declared.workgroup_size.WorkgroupSizeAttribute.{WorkgroupSizeAttribute}
use Rattle.wgsl_tree_attribute.specs.declared.type_constraint.TypeConstraint.{TypeConstraint}
use Rattle.wgsl_tree_attribute.specs.declared.custom.CustomAttribute.{CustomAttribute}
use Rattle.wgsl_tree_attribute.specs.contracts.attribute.AttributePartialEq.TheImpl as attribute
use Rattle.wgsl_tree_attribute.specs.contracts.diagnostic.DiagnosticAttributePartialEq.TheImpl as diagnostic
use Rattle.wgsl_tree_attribute.specs.contracts.interpolate.InterpolateAttributePartialEq.TheImpl as interpolate
use Rattle.wgsl_tree_attribute.specs.contracts.workgroup_size.WorkgroupSizeAttributePartialEq.TheImpl as workgroup_size
use Rattle.wgsl_tree_attribute.specs.contracts.type_constraint.TypeConstraintPartialEq.TheImpl as type_constraint
use Rattle.wgsl_tree_attribute.specs.contracts.custom.CustomAttributePartialEq.TheImpl as custom

abbrev pub equal_attributes : Attribute → Attribute → Bool
equal_attributes = (attribute.ghosts).eq

abbrev pub equal_diagnostics : DiagnosticAttribute → DiagnosticAttribute → Bool
equal_diagnostics = (diagnostic.ghosts).eq

abbrev pub equal_interpolations : InterpolateAttribute → InterpolateAttribute → Bool
equal_interpolations = (interpolate.ghosts).eq

abbrev pub equal_workgroup_sizes : WorkgroupSizeAttribute → WorkgroupSizeAttribute → Bool
equal_workgroup_sizes = (workgroup_size.ghosts).eq

abbrev pub equal_type_constraints : TypeConstraint → TypeConstraint → Bool
equal_type_constraints = (type_constraint.ghosts).eq

abbrev pub equal_customs : CustomAttribute → CustomAttribute → Bool
equal_customs = (custom.ghosts).eq
