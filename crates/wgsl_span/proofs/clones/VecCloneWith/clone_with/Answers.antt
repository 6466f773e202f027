use Rattle.std.proofs.Common.{rules, ◌+◌, ◌∙◌, sym, ap, subst, take, get_or}
use Rattle.wgsl_span.specs.Copies.{ListCopies}
use Rattle.wgsl_span.proofs.Copies.{item_more}
use Rattle.wgsl_span.proofs.clones.VecCloneWith.clone_with.Goals as goal

pub items-preserved : goal.items-preserved
items-preserved g c =
    let items = c.args.self.now.items in
    let index = c.items.item-index in
    let item = c.item-item.result in
    let at = c.item-item.is ∙ ap (λ xs. get_or xs index item) c.deref-item-items.ensures.value in
    subst (λ ys. ListCopies g.T.CloneWith.copies (take (index + 1) items) ys)
    (sym c.in_ok-push.ensures.items)
    (item_more g.T.CloneWith.copies items c.items.copied.items index item c.in_ok-clone_with.field-0
    (search rules) at c.items.invariant c.in_ok-clone_with.ensures.copy)
