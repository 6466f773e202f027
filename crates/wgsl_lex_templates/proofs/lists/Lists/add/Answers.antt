use Rattle.std.proofs.Common.{arith}
use Rattle.std.proofs.lemmas.Grind.{common_steps}
use Rattle.wgsl_lex_templates.proofs.TextLists.Searched.{backward_added}
use Rattle.wgsl_lex_templates.proofs.lists.Lists.add.Goals as goal

pub invariant_of-self : goal.invariant_of-self
invariant_of-self c =
    let kept = c.args.self.now.ordered in
    let added = backward_added c.args.self.now.spans.items c.args.list kept c.requires in
    record { ordered = grind (arith, common_steps, added, kept, c.push.ensures.items) }
