-- How the tokens of a text end.
use Rattle.std.specs.Prelude.{◌≡◌, ℕ, ⊤, Option, Some, None}
use Rattle.grammar.specs.Endings.{Ending, Ending.finished, Ending.carried}
use Rattle.wgsl_model.specs.Tokens.Raw.{Raw, Raw.none_left, Raw.invalid, Raw.token}
use Rattle.wgsl_model.specs.Faults.Kinds.{invalid_token}
use Rattle.wgsl_model.specs.Tokens.TokenList.{place}
use Rattle.wgsl_span.specs.declared.Span.{Span}
use Rattle.wgsl_span.specs.View.{span_view}

-- with an invalid token, or of themselves
abbrev pub ending_with : Option Span → Ending
ending_with None = finished
ending_with (Some span) = carried (invalid_token (span_view span))

-- the invalid token that is at the front of a text, where no other token does
abbrev pub IsInvalidAt : ℕ → Raw → Option Span → Type 0
IsInvalidAt total none_left found = found ≡ None
IsInvalidAt total (invalid from after) found = found
    ≡ Some (record { start = place total from; end = place total after })
IsInvalidAt total (token kind from after) found = ⊤
