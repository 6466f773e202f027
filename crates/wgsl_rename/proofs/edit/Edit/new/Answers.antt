use Rattle.wgsl_rename.proofs.Written.{starts_more}
use Rattle.wgsl_rename.proofs.edit.Edit.new.Goals as goal

pub places-preserved : goal.places-preserved
places-preserved c = starts_more c.args.places.now c.places.place-index _ c.places.starts.keys c.insert.new.self.keys
    c.places-test.true c.in_ok-insert.ensures.keys c.places.invariant
