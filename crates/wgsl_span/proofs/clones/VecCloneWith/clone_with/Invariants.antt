use Rattle.std.proofs.Common.{take}
use Rattle.wgsl_span.specs.Copies.{ListCopies}
use Rattle.wgsl_span.proofs.clones.VecCloneWith.clone_with.Given as goal

abbrev pub invariant-items : goal.invariant-items
invariant-items g l = ListCopies g.T.CloneWith.copies (take l.item-index l.self.items) l.copied.items
