use Rattle.wgsl_writer.proofs.Through.{value_written}
use Rattle.wgsl_writer.proofs.indented.Indented.write_value.Goals as goal

pub returns : goal.returns
returns g c = value_written g.W.Write.write_str_gives c.args.self.now c.write.new.self
    (g.D.Display.output c.args.value.now) c.write.result c.write.ensures.writes
