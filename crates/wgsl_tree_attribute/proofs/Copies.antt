-- What copies of nodes, and of lists of them, show.
use Rattle.std.proofs.Common.{◌≡◌, List, Option, map}
use Rattle.std.specs.Option.{option_map}
use Rattle.std.specs.declared.vec.Vec.{Vec}
use Rattle.std.specs.declared.alloc.Global.{Global}
use Rattle.wgsl_model.specs.Trees.Expressions as plain
use Rattle.wgsl_span.specs.declared.Spanned.{Spanned}
use Rattle.wgsl_span.specs.Spanned.{spanned_node, spanned_span}
use Rattle.wgsl_span.specs.View.{span_view, spanned_view}
use Rattle.wgsl_span.specs.Copies.{OptionCopies, ListCopies}
use Rattle.wgsl_span.proofs.Copies.{option_shown, list_shown}
use Rattle.wgsl_tree_expression.specs.declared.expression.Expression.{Expression}
use Rattle.wgsl_tree_expression.specs.View.{expression_view, expression_node_view}
use Rattle.wgsl_tree_attribute.specs.declared.attribute.Attribute.{Attribute}
use Rattle.wgsl_tree_attribute.specs.View.{expressions_view, attribute_view, attributes_view}

module _ {T View : Type 0} (view : T → View) where
  abbrev pub Copies : T → T → Type 0
  Copies x copy = view copy ≡ view x

  -- a node is copied with its span
  abbrev pub NodeCopies : Spanned T → Spanned T → Type 0
  NodeCopies node copy =
      (spanned_span copy ≡ spanned_span node) × Copies (spanned_node node) (spanned_node copy)

  pub option_copied : (x copy : Option T) → OptionCopies Copies x copy
      → option_map view copy ≡ option_map view x
  option_copied = option_shown Copies view (λ x copy h. h)

  pub items_copied : (xs copies : List T) → ListCopies Copies xs copies
      → map view copies ≡ map view xs
  items_copied = list_shown Copies view (λ x copy h. h)

  pub nodes_copied : (nodes copies : List (Spanned T)) → ListCopies NodeCopies nodes copies
      → map (spanned_view view) copies ≡ map (spanned_view view) nodes
  nodes_copied = list_shown NodeCopies (spanned_view view)
      (λ node copy h i. record { node = h.1 i; span = span_view (h.0 i) })

pub attributes_copied : (attributes copies : List (Spanned Attribute))
    → ListCopies (NodeCopies attribute_view) attributes copies
    → attributes_view copies ≡ attributes_view attributes
attributes_copied = nodes_copied attribute_view

-- an expression with its span
expression_copied : (node copy : Spanned Expression) → NodeCopies expression_view node copy
    → expression_node_view copy ≡ expression_node_view node
expression_copied node copy h = λ i. plain.expression_node (h.1 i) (span_view (h.0 i))

expressions_copied : (nodes copies : Vec (Spanned Expression) Global)
    → ListCopies (NodeCopies expression_view) nodes.items copies.items
    → expressions_view copies ≡ expressions_view nodes
expressions_copied nodes copies =
    list_shown (NodeCopies expression_view) expression_node_view expression_copied nodes.items
    copies.items

pub maybe_expression_copied : (node copy : Option (Spanned Expression))
    → OptionCopies (NodeCopies expression_view) node copy
    → option_map expression_node_view copy ≡ option_map expression_node_view node
maybe_expression_copied =
    option_shown (NodeCopies expression_view) expression_node_view expression_copied

pub maybe_expressions_copied : (nodes copies : Option (Vec (Spanned Expression) Global))
    → OptionCopies (λ vs ws. ListCopies (NodeCopies expression_view) vs.items ws.items) nodes copies
    → option_map expressions_view copies ≡ option_map expressions_view nodes
maybe_expressions_copied =
    option_shown (λ vs ws. ListCopies (NodeCopies expression_view) vs.items ws.items)
    expressions_view expressions_copied
