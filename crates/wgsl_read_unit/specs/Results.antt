-- What a function returns, by its attributes and its type.
use Rattle.std.specs.Prelude.{[], Option, Some, None}
use Rattle.std.specs.Option.{option_map}
use Rattle.std.specs.declared.vec.Vec.{Vec}
use Rattle.std.specs.declared.alloc.Global.{Global}
use Rattle.wgsl_model.specs.Trees.Expressions as plain
use Rattle.wgsl_model.specs.Trees.Attributes as plain_attribute
use Rattle.wgsl_tree_expression.specs.declared.type_expression.TypeExpression.{TypeExpression}
use Rattle.wgsl_tree_expression.specs.View.{type_expression_view}
use Rattle.wgsl_tree_attribute.specs.declared.attribute.Attribute.{Attribute}
use Rattle.wgsl_tree_attribute.specs.View.{attributes_view}
use Rattle.wgsl_span.specs.declared.Spanned.{Spanned}

-- attributes and a type, if something is returned
abbrev pub returned_view : Option (Vec (Spanned Attribute) Global × TypeExpression)
    → Option (plain_attribute.Attributes × plain.TypeExpression)
returned_view = option_map (λ r. (attributes_view r.0.items, type_expression_view r.1))

-- the attributes, none where nothing is returned
abbrev pub return_attributes : Option (plain_attribute.Attributes × plain.TypeExpression) → plain_attribute.Attributes
return_attributes None = []
return_attributes (Some r) = r.0

-- the type, if there is one
abbrev pub return_type : Option (plain_attribute.Attributes × plain.TypeExpression) → Option plain.TypeExpression
return_type None = None
return_type (Some r) = Some r.1
