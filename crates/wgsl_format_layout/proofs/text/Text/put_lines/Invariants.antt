use Rattle.std.proofs.Common.{chars, length}
use denote.Text.{Utf8}
use denote.Shadow.{shadow}
use Rattle.wgsl_model_tidy.specs.Shown.{without_returns}
use Rattle.wgsl_format_layout.proofs.BlockLines.{Written}
use Rattle.wgsl_format_layout.proofs.text.Text.put_lines.Given as goal

abbrev pub invariant-lines : goal.invariant-lines
invariant-lines l = record {
  text : shadow (Utf8 l.rest);
  written : Written l.fn.self (without_returns (chars l.text)) (without_returns (chars l.rest)) l.self;
}

abbrev pub decreases-lines : goal.decreases-lines
decreases-lines l = length l.rest
