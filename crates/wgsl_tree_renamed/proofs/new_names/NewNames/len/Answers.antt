use Rattle.std.proofs.Common.{◌∙◌, sym}
use Rattle.std.proofs.lemmas.List.{length-map}
use Rattle.wgsl_tree_renamed.specs.NewNames.{pair_view, pairs}
use Rattle.wgsl_tree_renamed.proofs.new_names.NewNames.len.Goals as goal

pub returns : goal.returns
unfolding pairs
returns c = c.len.ensures.len ∙ sym (length-map c.args.self.now.names.entries pair_view)
