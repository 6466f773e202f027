use Rattle.std.proofs.Common.{rules, codes, refl}
use Rattle.std.proofs.Output.{has_written_append, has_written_of_eq}
use Rattle.wgsl_span.specs.View.{spanned_view}
use Rattle.wgsl_writer.proofs.Joins.{displays_joined}
use Rattle.wgsl_tree_attribute.specs.View.{attribute_view}
use Rattle.wgsl_tree_attribute.proofs.Lines.{attribute_text, some_attributes}
use Rattle.wgsl_tree_attribute.proofs.attributes_before.AttributesBeforeDisplay.fmt.Goals as goal

pub returns-clause-writes : goal.returns-clause-writes
returns-clause-writes g c = λ plain ok.
    let line = c.args.self.now in
    let view = spanned_view attribute_view in
    let attributes = displays_joined view attribute_text (codes " ") g.W.Write.write_str_gives
    line.attributes.now line.attributes.now refl _ _ _ c.write_joined.ensures in
    let one = attributes plain (search rules) in
    let two = c.write_str.ensures.writes one.plain ok in
    has_written_of_eq _ _ _ _ _ (some_attributes view line.end.now line.attributes.now (search rules))
    (has_written_append _ _ _ _ _ _ one two)
