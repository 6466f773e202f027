use Rattle.std.proofs.Common.{true, refl, sym, ◌∙◌, ap, get_or, rules}
use Rattle.std.proofs.Output.{has_written_append, has_written_of_eq}
use Rattle.wgsl_model.specs.Trees.Paths.{origin_text}
use Rattle.wgsl_tree_path.specs.View.{origin_view}
use Rattle.wgsl_tree_path.proofs.Names.{one_component_more}
use Rattle.wgsl_tree_path.proofs.path.ModulePathDisplay.fmt.Goals as goal

pub components-preserved : goal.components-preserved
components-preserved g c = λ plain ok.
    let path = c.args.self.now in
    let before = c.components.invariant plain (refl {a = true}) in
    let name = c.component-item.result in
    let index = c.components.component-index in
    let at = c.component-item.is ∙ ap (λ names. get_or names index name) c.deref-component-items.ensures.value in
    has_written_of_eq _ _ _ _ _ (sym (one_component_more (origin_text (origin_view path.origin))
    path.components.items index name (search rules) at))
    (has_written_append _ _ _ _ _ _ before (c.in_ok-write.ensures.writes before.plain (refl {a = true})))
