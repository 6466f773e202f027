use Rattle.wgsl_rename.proofs.Found.{by_referents}
use Rattle.wgsl_rename.proofs.target.declaration_of.Goals as goal

pub returns-in-None : goal.returns-in-None
returns-in-None c = by_referents c.args.names.now c.args.named.now c.deref.result.now c.first_declaration.result
    c.deref.ensures.value c.in-None.ensures c.first_declaration.ensures
