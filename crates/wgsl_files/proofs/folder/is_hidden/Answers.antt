use Rattle.std.proofs.Common.{sym, ◌∙◌, ap, nat_eq, codes}
use Rattle.std.specs.List.{starts_with}
use Rattle.wgsl_files.proofs.Names.{hidden_later}
use Rattle.wgsl_files.proofs.folder.is_hidden.Goals as goal

pub loop-at-preserved : goal.loop-at-preserved
loop-at-preserved c =
    let other = ap (λ xs. starts_with nat_eq xs (codes "/.")) (sym c.split_at.ensures.back)
    ∙ sym c.if-starts_with.ensures.value in
    hidden_later c.args.names.now c.loop-at.at c.loop-at-test.true other ∙ c.loop-at.invariant
