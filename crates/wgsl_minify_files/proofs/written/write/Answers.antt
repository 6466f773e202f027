use Rattle.std.proofs.Common.{ap}
use Rattle.wgsl_minify_files.specs.Options.{to_file}
use Rattle.wgsl_minify_files.specs.View.{target_view}
use Rattle.wgsl_minify_files.proofs.Runs.{write_shows, writes_at}
use Rattle.wgsl_minify_files.proofs.written.write.Goals as goal

pub returns-in-Output : goal.returns-in-Output
returns-in-Output g c left rest =
    write_shows (target_view c.args.target) c.args.text.now (g.S.Store.files c.args.store.now) left rest
    (g.W.Write.contents c.args.output.now) _ (g.E.Write.contents c.args.errors.now) c.say.result
    (ap target_view c.in-Output.is) c.say.ensures

pub returns-in-File : goal.returns-in-File
returns-in-File g c left rest =
    writes_at (target_view c.args.target) (to_file c.in-File.path.now) c.args.text.now _ _ c.write_file.result
    (ap target_view c.in-File.is) (c.write_file.ensures left rest (g.W.Write.contents c.args.output.now))
