use Rattle.std.proofs.Common.{◌≡◌, ◌-◌, ◌++◌, ◌∙◌, sym, ap, map, length, take, string_bytes}
use Rattle.wgsl_model.specs.Trees.Paths.{kept}
use Rattle.wgsl_tree_path.specs.View.{origin_view}
use Rattle.wgsl_tree_path.proofs.Joins.{joined_names, kept_names, none_kept}
use Rattle.wgsl_tree_path.proofs.path.ModulePath.joined_components.Goals as goal
use Rattle.wgsl_tree_path.proofs.path.ModulePath.joined_components.Goals.{in-Relative, in_default}

pub returns : goal.returns
returns c =
    let names = c.args.self.now.components.items in
    let origin = c.args.suffix.now.origin in
    let front = kept (map string_bytes names) (origin_view origin) in
    let count = sym (ap length c.deref.ensures.value) ∙ c.deref.ensures.len in
    let copied = c.in_ok-names.ensures
    ∙ ap (λ xs. map string_bytes (take c.match-suffix.kept xs)) c.deref.ensures.value in
    let added = c.in_ok-extend_with_clones.ensures.items in
    let front_copied : map string_bytes c.in_ok-names.names.items ≡ front =
    elim c.match-suffix.branch [
      | in-Relative w ↦ copied
          ∙ ap (λ n. map string_bytes (take n names)) (w.kept-is ∙ w.saturating_sub-kept.ensures
          ∙ ap (λ n. n - w.in-Relative.levels) (w.len.ensures ∙ sym count))
          ∙ kept_names names w.in-Relative.levels
          ∙ ap (λ o. kept (map string_bytes names) (origin_view o)) (sym w.in-Relative.is)
      | in_default w ↦ copied ∙ ap (λ n. map string_bytes (take n names)) w.kept-is
          ∙ none_kept (map string_bytes names) origin w.in_default.not-Relative
    ] in
    joined_names c.extend_with_clones.new.self.items c.in_ok-names.names.items added.0
    c.deref-2.result.now front added.1 front_copied added.2
    ∙ ap (λ xs. front ++ map string_bytes xs) c.deref-2.ensures.value
