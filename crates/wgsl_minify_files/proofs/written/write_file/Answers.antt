use Rattle.std.proofs.Common.{◌≡◌, false, rules}
use Rattle.wgsl_minify_files.specs.Options.{to_file}
use Rattle.wgsl_minify_files.proofs.Failures.{failed_for}
use Rattle.wgsl_minify_files.proofs.Runs.{write_fails, write_saves}
use Rattle.wgsl_minify_files.proofs.written.write_file.Goals as goal

pub returns-in-Ok : goal.returns-in-Ok
returns-in-Ok g c left rest output =
    let is : c.as_bytes.result.now ≡ c.args.text.now = search rules in
    write_saves (g.S.Store.files c.args.store.now) (g.S.Store.files c.write.new.self) left rest output
    (g.E.Write.contents c.args.errors.now) (g.E.Write.contents c.args.errors.now) c.code.result c.args.text.now
    c.args.path.now c.as_bytes.result.now is c.in-Ok.ensures.ok c.code.ensures

pub returns-in-Err : goal.returns-in-Err
returns-in-Err g c left rest output =
    let files = g.S.Store.files c.args.store.now in
    write_fails files (g.S.Store.files c.write.new.self) left rest output _ _ _ (to_file c.args.path.now)
    c.args.text.now c.of.result (failed_for (files.known ≡ false) c.args.path.now c.in-Err.error c.of.result
    c.in-Err.ensures.failed c.of.ensures.memory c.of.ensures.failed) c.tell.ensures c.in-Err.ensures.err
