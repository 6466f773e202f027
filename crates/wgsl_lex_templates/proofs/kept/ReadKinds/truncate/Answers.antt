use Rattle.std.proofs.Common.{arith}
use Rattle.std.proofs.lemmas.Grind.{common_steps}
use Rattle.wgsl_lex_templates.proofs.Readings.Held.{earlier_cut}
use Rattle.wgsl_lex_templates.proofs.kept.ReadKinds.truncate.Goals as goal

pub invariant_of-self : goal.invariant_of-self
invariant_of-self c =
    let kept = c.args.self.now.earlier in
    let cut = earlier_cut c.args.self.now.pieces.items c.args.len kept in
    record { earlier = grind (arith, common_steps, cut, kept, c.truncate.ensures.items) }
