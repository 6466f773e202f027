use Rattle.std.proofs.Common.{refl, sym}
use Rattle.std.proofs.Output.{has_written_of_eq}
use Rattle.wgsl_writer.specs.Depth.{spaces}
use Rattle.wgsl_writer.proofs.Indents.{after_none}
use Rattle.wgsl_writer.proofs.indented.IndentedWrite.write_str.Goals as goal

pub returns-in-None : goal.returns-in-None
returns-in-None g c = record {
  ok = λ ok. record {
    depth = refl;
    lent = refl;
    written = λ plain. has_written_of_eq _ _ _ _ _ (sym (after_none (spaces c.args.self.now.depth)
        c.args.s.now c.in-None.ensures)) (c.write_str.ensures.writes plain ok);
  };
}
