use Rattle.std.proofs.Common.{refl, codes}
use Rattle.std.proofs.lemmas.List.{append_assoc}
use Rattle.wgsl_model.specs.Printed.Attributes.{print_attribute_line}
use Rattle.wgsl_tree_attribute.specs.View.{attributes_view}
use Rattle.wgsl_writer.proofs.Through.{wrote_of_eq}
use Rattle.wgsl_tree_simple.proofs.Writes.{◌▸◌}
use Rattle.wgsl_tree_simple.proofs.parts.write_open.Goals as goal

pub returns : goal.returns
returns g c = λ ok.
    wrote_of_eq _ _ _ _ _ (append_assoc
    (print_attribute_line (attributes_view c.args.attributes.now.items)) (codes "{") (codes "\n"))
    (c.in_ok-write_attribute_line.ensures refl ▸ c.in_ok-write_piece.ensures refl ▸ c.write_line_end.ensures ok)
