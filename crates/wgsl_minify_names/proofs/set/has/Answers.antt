use Rattle.std.proofs.Common.{◌∙◌}
use Rattle.wgsl_minify_names.proofs.Lists.{is_in-texts}
use Rattle.wgsl_minify_names.proofs.set.has.Goals as goal

pub returns : goal.returns
returns c = c.contains.ensures ∙ is_in-texts c.args.name.now c.args.set.now.keys
