-- How many template lists may still be entered.
use Rattle.std.specs.Prelude.{ℕ, suc, nat_le, if◌then◌else◌, List, [], ◌∷◌}
use Rattle.wgsl_span.specs.declared.Span.{Span}

-- how many of the spans start at a place or after it
abbrev pub starts_from : ℕ → List Span → ℕ
starts_from place [] = 0
starts_from place (span ∷ spans) = if nat_le place span.start then suc (starts_from place spans)
    else starts_from place spans
