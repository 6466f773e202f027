use Rattle.std.proofs.Common.{arith}
use Rattle.std.proofs.lemmas.Grind.{common_steps}
use Rattle.wgsl_lex_templates.proofs.Readings.Held.{earlier_stretch}
use Rattle.wgsl_lex_templates.proofs.kept.ReadKinds.push_stretch.Goals as goal

pub invariant_of-self : goal.invariant_of-self
invariant_of-self c =
    let kept = c.args.self.now.earlier in
    let added = earlier_stretch c.args.self.now.pieces.items c.args.start c.args.end c.requires kept in
    record { earlier = grind (arith, common_steps, added, kept, c.push.ensures.items) }
