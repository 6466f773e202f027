use Rattle.std.proofs.Common.{◌≡◌, ◌∙◌, ap, map, None, string_bytes, Result, Ok, Err, OnErr}
use Rattle.std.specs.String.{string_eq}
use Rattle.std.proofs.lemmas.List.{map_push}
use Rattle.indexmap.specs.IndexMap.{get}
use Rattle.indexmap.proofs.CallerLemmas.{insert_entry-new}
use Rattle.wgsl_tree_renamed.specs.NewNames.{pair_view, pairs}
use Rattle.wgsl_tree_renamed.proofs.Tables.{looked_up, nothing}
use Rattle.wgsl_tree_renamed.proofs.new_names.NewNames.insert.Goals as goal

pub returns-clause-added : goal.returns-clause-added
unfolding pairs
returns-clause-added c = λ absent.
    let table = c.args.self.now.names in
    let free : get string_eq table c.args.name ≡ None =
    nothing _ (looked_up table.entries (string_bytes c.args.name) ∙ absent) in
    ap (map pair_view) (c.in_ok-insert.ensures.entries
    ∙ insert_entry-new string_eq table c.args.name c.args.new_name free)
    ∙ map_push pair_view table.entries (c.args.name, c.args.new_name)

on_err : {T E P : Type 0} (r : Result T E) → P → OnErr r P
on_err (Ok x) p = tt
on_err (Err e) p = p

pub returns-in_err-insert-clause-unchanged : goal.returns-in_err-insert-clause-unchanged
unfolding pairs
returns-in_err-insert-clause-unchanged c =
    on_err c.from_residual.result (ap (map pair_view) c.in_err-insert.ensures.err)
