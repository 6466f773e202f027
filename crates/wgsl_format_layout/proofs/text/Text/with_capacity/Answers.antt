use Rattle.std.proofs.Common.{chars, ap, ◌∙◌}
use Rattle.std.proofs.lemmas.Str.{chars-nil}
use Rattle.wgsl_format_layout.proofs.text.Text.with_capacity.Goals as goal

pub returns : goal.returns
returns c = record {
  nothing = ap chars c.in_ok-with_capacity.ensures.bytes ∙ chars-nil;
  chosen = c.new.ensures.layout;
  column = c.new.ensures.column;
}
