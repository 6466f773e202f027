use Rattle.std.proofs.Common.{◌≡◌, ◌++◌, chars, length, string_bytes}
use denote.Text.{Utf8}
use denote.Shadow.{shadow}
use Rattle.wgsl_model_tidy.specs.Formatted as model
use Rattle.wgsl_format.proofs.source.with_crlf.Given as goal

abbrev pub invariant-lines : goal.invariant-lines
invariant-lines l = shadow (Utf8 l.rest) × (chars (string_bytes l.changed)
    ++ model.with_crlf (chars l.rest) ≡ chars l.mark ++ model.with_crlf (chars l.text))

abbrev pub decreases-lines : goal.decreases-lines
decreases-lines l = length l.rest
