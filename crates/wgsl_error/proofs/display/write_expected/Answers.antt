use Rattle.std.proofs.Common.{rules, refl, ap, codes, map, string_bytes}
use Rattle.std.proofs.Output.{has_written_append, has_written_of_eq}
use Rattle.std.proofs.lemmas.List.{map-id}
use Rattle.wgsl_model.specs.Printed.Joining.{joined}
use Rattle.wgsl_writer.proofs.Joins.{displays_joined}
use Rattle.wgsl_error.proofs.display.write_expected.Goals as goal

pub returns : goal.returns
returns g c = λ plain ok.
    let texts = displays_joined string_bytes (λ text. text)
    (codes ", ") g.W.Write.write_str_gives _ c.args.expected.now refl _ _ _ c.write_joined.ensures in
    let one = c.write_str.ensures.writes plain (search rules) in
    let two = has_written_of_eq _ _ _ _ _ (ap (joined (codes ", "))
    (map-id (map string_bytes c.args.expected.now))) (texts one.plain (search rules)) in
    let three = c.write_str-2.ensures.writes two.plain ok in
    has_written_append _ _ _ _ _ _ (has_written_append _ _ _ _ _ _ one two) three
