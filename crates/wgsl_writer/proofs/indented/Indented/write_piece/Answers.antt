use Rattle.std.proofs.Common.{refl, sym}
use Rattle.std.proofs.Output.{has_written_of_eq}
use Rattle.wgsl_writer.specs.Depth.{spaces}
use Rattle.wgsl_writer.proofs.Indents.{after_one_line}
use Rattle.wgsl_writer.proofs.indented.Indented.write_piece.Goals as goal

pub returns : goal.returns
returns g c = λ ok. record {
  depth = refl;
  lent = refl;
  written = λ plain. has_written_of_eq _ _ _ _ _ (sym (after_one_line (spaces c.args.self.now.depth)
      c.args.text.now c.requires)) (c.write_str.ensures.writes plain ok);
}
