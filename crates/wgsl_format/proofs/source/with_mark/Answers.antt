use Rattle.std.proofs.Common.{◌∙◌, sym}
use Rattle.std.specs.Prelude.{string_bytes}
use Rattle.wgsl_format.proofs.Sources.{marked_none, marked_some}
use Rattle.wgsl_format.proofs.source.with_mark.Goals as goal

pub returns-then-is_empty : goal.returns-then-is_empty
returns-then-is_empty c = marked_none c.args.mark.now (string_bytes c.args.text)
    (sym c.if-is_empty.true ∙ c.is_empty.ensures)

pub returns : goal.returns
returns c = marked_some c.args.mark.now (string_bytes c.args.text)
    (string_bytes c.insert_str.new.self) c.utf8.mark c.in_ok-insert_str.ensures.bytes
