use Rattle.std.proofs.Common.{◌≡◌, ◌<◌, true, length, arith, sym, true≢false}
use Rattle.wgsl_resolve_names.specs.Linked.{referent_view}
use Rattle.wgsl_rename.proofs.Lists.{same_at}
use Rattle.wgsl_rename.proofs.changed.are_same.Goals as goal

pub returns-then-not-is_same : goal.returns-then-not-is_same
returns-then-not-is_same c =
    let lt : c.referents.index < length c.args.ones.now = omega arith in (
      λ e. absurd (true≢false (sym e)),
      λ same.
          let yes : c.is_same.result ≡ true = c.is_same.ensures.1
          (same_at referent_view c.args.ones.now c.args.others.now c.referents.index _ _ lt same) in
          let no = c.if-not-is_same.true in
          absurd (grind (arith, yes, no)),
    )
