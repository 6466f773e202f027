-- What a spanned node shows: the node and where it is.
use Rattle.wgsl_span.specs.declared.Span.{Span}
use Rattle.wgsl_span.specs.declared.Spanned.{Spanned}

-- the node
abbrev pub spanned_node : {T : Type 0} → Spanned T → T
spanned_node s = s.node.value

-- where it is
abbrev pub spanned_span : {T : Type 0} → Spanned T → Span
spanned_span s = s.span
