use Rattle.std.proofs.Common.{chars, length}
use denote.Text.{Utf8}
use denote.Shadow.{shadow}
use Rattle.wgsl_format_layout.proofs.Added.{IsPassed}
use Rattle.wgsl_format_layout.proofs.line.Line.pass.Given as goal

abbrev pub invariant-characters : goal.invariant-characters
invariant-characters l = record {
  text : shadow (Utf8 l.rest);
  passed : IsPassed l.fn.self (chars l.text) l.self (chars l.rest);
}

abbrev pub decreases-characters : goal.decreases-characters
decreases-characters l = length l.rest
