-- Where an error is that is returned for a text.
use Rattle.std.specs.Prelude.{ℕ, ◌+◌, ◌≤◌}
use Rattle.wgsl_span.specs.declared.Span.{Span}

-- a span in a text of a number of bytes, or that ends one byte past it
abbrev pub StandsWithin : Span → ℕ → Type 0
StandsWithin span size = (span.start ≤ span.end) × (span.end ≤ size + 1)
