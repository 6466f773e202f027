use Rattle.std.proofs.Common.{rules, refl, codes, ap, map, ◌++◌, string_bytes}
use Rattle.std.proofs.lemmas.List.{map-id}
use Rattle.std.proofs.Output.{has_written_append, has_written_of_eq}
use Rattle.wgsl_model.specs.Printed.Joining.{joined}
use Rattle.wgsl_writer.proofs.Joins.{displays_joined}
use Rattle.wgsl_tree_unit.proofs.extensions.write_names.Goals as goal

pub returns : goal.returns
returns g c = λ plain ok.
    let names = c.args.names.now in
    let listed = displays_joined string_bytes (λ name. name)
    (codes ", ") g.W.Write.write_str_gives names names refl _ _ _ c.write_joined.ensures in
    let one = c.write_str.ensures.writes plain (search rules) in
    let two = listed one.plain (search rules) in
    let three = c.write_str-2.ensures.writes two.plain ok in
    has_written_of_eq _ _ _ _ _ (ap (λ texts. c.args.word.now ++ joined (codes ", ") texts ++ codes ";")
    (map-id (map string_bytes names))) (has_written_append _ _ _ _ _ _ (has_written_append _ _ _ _ _ _ one two) three)
