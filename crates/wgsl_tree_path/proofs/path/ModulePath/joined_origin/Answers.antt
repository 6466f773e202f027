use Rattle.std.proofs.Common.{sym, ◌∙◌, ap, length, codes, string_bytes}
use Rattle.std.proofs.lemmas.List.{append_assoc}
use Rattle.wgsl_model.specs.Trees.Paths.{of_package, joined_origin}
use Rattle.wgsl_tree_path.specs.View.{origin_view}
use Rattle.wgsl_tree_path.proofs.path.ModulePath.joined_origin.Goals as goal

pub returns-in_ok-format-in-Package-Package : goal.returns-in_ok-format-in-Package-Package
returns-in_ok-format-in-Package-Package c =
    let name = string_bytes c.in-Package-Package.name in
    let inner = string_bytes c.in-Package-Package.inner in
    let count = length c.args.self.now.components.items in
    ap of_package (c.in_ok-format-in-Package-Package.ensures.ok ∙ sym (append_assoc name (codes "/") inner))
    ∙ (λ i. joined_origin (origin_view (sym c.in-Package-Package.is-0 i)) count
    (origin_view (sym c.in-Package-Package.is-1 i)))
