-- Spans and spanned nodes as plain data.
use Rattle.grammar.specs.Tokens as plain
use Rattle.wgsl_model.specs.Trees.Spanned as plain_tree
use Rattle.wgsl_span.specs.declared.Span.{Span}
use Rattle.wgsl_span.specs.declared.Spanned.{Spanned}
use Rattle.wgsl_span.specs.Spanned.{spanned_node, spanned_span}

-- a span
abbrev pub span_view : Span → plain.Span
span_view s = record { start = s.start; end = s.end }

-- a spanned node, whose node is seen as f shows it
abbrev pub spanned_view : {T Node : Type 0} → (T → Node) → Spanned T → plain_tree.Spanned Node
spanned_view f s = record { node = f (spanned_node s); span = span_view (spanned_span s) }
