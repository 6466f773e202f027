use Rattle.wgsl_writer.proofs.indented.+write_spaces.Given as goal

abbrev pub decreases-write_spaces : goal.decreases-write_spaces
decreases-write_spaces g l = l.levels
