-- Nodes that are kept by a predicate on what they hold.
use Rattle.std.specs.Prelude.{Bool, ◌≡◌}
use Rattle.wgsl_span.specs.declared.Spanned.{Spanned}
use Rattle.wgsl_span.specs.Spanned.{spanned_node, spanned_span}

-- a call on what a node holds, whose span stays
abbrev pub NodeCalled : {State Node : Type 0} → (State → Node → Bool → State → Node → Type 0)
    → State → Spanned Node → Bool → State → Spanned Node → Type 0
NodeCalled called before node answer after left =
    called before (spanned_node node) answer after (spanned_node left)
    × (spanned_span left ≡ spanned_span node)
