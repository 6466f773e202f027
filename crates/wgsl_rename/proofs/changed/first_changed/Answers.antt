use Rattle.std.proofs.Common.{◌≡◌, ◌∙◌, ◌<◌, true, length, ap, arith, sym}
use Rattle.wgsl_resolve_names.specs.Linked.{referents_view}
use Rattle.wgsl_rename.specs.Changes.{refers}
use Rattle.wgsl_rename.proofs.Lists.{same_at}
use Rattle.wgsl_rename.proofs.changed.first_changed.Goals as goal

pub returns-then-not-are_same : goal.returns-then-not-are_same
returns-then-not-are_same c =
    let before = c.args.before.now in
    let lt : c.names.index < length before = omega arith in (
      lt,
      λ same.
          let yes : c.are_same.result ≡ true = c.are_same.ensures.1 (ap referents_view c.deref.ensures.value
          ∙ same_at refers before c.args.after.now c.names.index c.index-before-index.result c.index-after-index.result lt same
          ∙ sym (ap referents_view c.deref-in-names.ensures.value)) in
          let no = c.if-not-are_same.true in
          absurd (grind (arith, yes, no)),
    )
