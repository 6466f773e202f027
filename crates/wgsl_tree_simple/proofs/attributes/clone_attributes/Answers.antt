use Rattle.std.proofs.lemmas.Result.{IfOk-weaker}
use Rattle.std.specs.declared.vec.Vec.{Vec}
use Rattle.std.specs.declared.alloc.Global.{Global}
use Rattle.wgsl_span.specs.declared.Spanned.{Spanned}
use Rattle.wgsl_tree_attribute.specs.declared.attribute.Attribute.{Attribute}
use Rattle.wgsl_tree_attribute.proofs.Copies.{attributes_copied}
use Rattle.wgsl_tree_simple.proofs.attributes.clone_attributes.Goals as goal

pub returns : goal.returns
returns c = IfOk-weaker _ _ _ (λ (copy : Vec (Spanned Attribute) Global) h.
    attributes_copied c.args.attributes.now.items copy.items h) c.clone_with.ensures.copy
