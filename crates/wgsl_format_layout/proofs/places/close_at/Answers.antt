use Rattle.wgsl_format_layout.proofs.Closes.{closed_set}
use Rattle.wgsl_format_layout.proofs.places.close_at.Goals as goal

pub returns : goal.returns
returns c = closed_set c.args.tokens.now.items c.args.place c.args.close c.index_mut.result.now
    c.requires c.index_mut.ensures.value
