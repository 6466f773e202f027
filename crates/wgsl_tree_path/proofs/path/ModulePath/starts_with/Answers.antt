use Rattle.std.proofs.Common.{◌∙◌, sym}
use Rattle.std.specs.List.{starts_with}
use Rattle.std.specs.String.{string_eq}
use Rattle.wgsl_tree_path.proofs.Equalities.{origins_agree, names_start}
use Rattle.wgsl_tree_path.proofs.path.ModulePath.starts_with.Goals as goal

pub returns-then-eq : goal.returns-then-eq
returns-then-eq c =
    let path = c.args.self.now in
    let prefix = c.args.prefix.now in
    let origin = (origins_agree path.origin prefix.origin).0 (sym c.if-eq.ensures) in
    let start = names_start path.components.items prefix.components.items c.starts_with.result
    (c.starts_with.ensures.value
    ∙ (λ i. starts_with string_eq (c.deref.ensures.value i) (c.deref-then-eq.ensures.value i))) in
    (λ yes. (origin, start.0 yes), λ starts. start.1 starts.1)
