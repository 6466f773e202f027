-- Spans in the order in which they were found, from right to left.
use Rattle.std.specs.Prelude.{ℕ, Bool, true, ◌==◌, ◌&&◌, nat_lt, if◌then◌else◌, List, [], ◌∷◌, Option, Some, None}
use Rattle.wgsl_span.specs.declared.Span.{Span}

-- the end of the first span that starts at a place
abbrev pub end_from : List Span → ℕ → Option ℕ
end_from [] start = None
end_from (span ∷ spans) start = if span.start == start then Some span.end else end_from spans start

-- a place is before the starts of all
abbrev pub is_before_all : ℕ → List Span → Bool
is_before_all start [] = true
is_before_all start (span ∷ spans) = nat_lt start span.start && is_before_all start spans

-- all start before a place
abbrev pub all_before : ℕ → List Span → Bool
all_before place [] = true
all_before place (span ∷ spans) = nat_lt span.start place && all_before place spans

-- each starts before those in front of it
abbrev pub are_backward : List Span → Bool
are_backward [] = true
are_backward (span ∷ spans) = all_before span.start spans && are_backward spans
