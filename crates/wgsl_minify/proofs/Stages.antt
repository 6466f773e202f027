-- Attributes for shader stages, in a list of the code.
use Rattle.std.proofs.Common.{◌≡◌, ◌||◌, refl, ap, List, [], ◌∷◌}
use Rattle.std.specs.List.{list_any}
use Rattle.wgsl_span.specs.declared.Spanned.{Spanned}
use Rattle.wgsl_span.specs.Spanned.{spanned_node}
use Rattle.wgsl_tree_attribute.specs.declared.attribute.Attribute.{Attribute}
use Rattle.wgsl_tree_attribute.specs.View.{attributes_view, attribute_view}
use Rattle.wgsl_minify.specs.Hosts.{is_stage, is_entry_point}

pub any_stage : (nodes : List (Spanned Attribute))
    → is_entry_point (attributes_view nodes) ≡ list_any (λ node. is_stage (attribute_view (spanned_node node))) nodes
any_stage [] = refl
any_stage (node ∷ nodes) = ap (λ b. is_stage (attribute_view (spanned_node node)) || b) (any_stage nodes)
