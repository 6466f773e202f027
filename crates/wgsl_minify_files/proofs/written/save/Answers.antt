use Rattle.std.proofs.Common.{◌≡◌, refl, rules, None}
use Rattle.wgsl_tree_renamed.specs.NewNames.{pairs}
use Rattle.wgsl_minify_files.specs.Runs.{map_file}
use Rattle.wgsl_minify_files.specs.View.{target_view}
use Rattle.wgsl_minify_files.proofs.Runs.{memory_unwritten, none_saved, some_saved, same_files, write_fails}
use Rattle.wgsl_minify_files.proofs.written.save.Goals as goal

pub returns-in_default : goal.returns-in_default
returns-in_default g c left rest =
    let none : c.args.target ≡ None = search rules in
    none_saved c.args.target (map_file (pairs c.args.names.now)) _ _ _ _ _ c.code.result none c.code.ensures

pub returns-in-Ok : goal.returns-in-Ok
returns-in-Ok g c left rest =
    let is : c.as_str.result.now ≡ map_file (pairs c.args.names.now) = search rules in
    some_saved c.args.target (map_file (pairs c.args.names.now)) c.in-Some.target c.as_str.result.now _ _
    c.write.result c.in-Some.is is (c.write.ensures left rest)

pub returns-in-Err : goal.returns-in-Err
returns-in-Err g c left rest =
    let files = g.S.Store.files c.args.store.now in
    some_saved c.args.target (map_file (pairs c.args.names.now)) c.in-Some.target (map_file (pairs c.args.names.now)) _ _
    c.tell.result c.in-Some.is refl (write_fails files files left rest (g.W.Write.contents c.args.output.now) _ _ _
    (target_view c.in-Some.target) _ _ (memory_unwritten (target_view c.in-Some.target) files) c.tell.ensures
    (same_files files))
