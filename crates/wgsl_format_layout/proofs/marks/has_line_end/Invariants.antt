use Rattle.std.proofs.Common.{◌≡◌, ◌==◌, chars, length}
use Rattle.std.specs.List.{list_any}
use denote.Text.{Utf8}
use denote.Shadow.{shadow}
use Rattle.wgsl_format_layout.proofs.marks.has_line_end.Given as goal

abbrev pub invariant-characters : goal.invariant-characters
invariant-characters l = record {
  text : shadow (Utf8 l.rest);
  same : list_any (λ c. c == 10) (chars l.text) ≡ list_any (λ c. c == 10) (chars l.rest);
}

abbrev pub decreases-characters : goal.decreases-characters
decreases-characters l = length l.rest
