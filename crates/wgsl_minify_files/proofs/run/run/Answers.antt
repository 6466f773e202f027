use Rattle.wgsl_minify_files.specs.Runs.{IsRun.minified}
use Rattle.wgsl_minify_files.specs.View.{options_view}
use Rattle.wgsl_minify_files.proofs.Runs.{run_stops}
use Rattle.wgsl_minify_files.proofs.run.run.Goals as goal

pub returns-in-Ok : goal.returns-in-Ok
returns-in-Ok g c =
    minified _ _ c.in-Ok.ensures.prepared
    (c.deliver.ensures (g.R.Read.remaining c.args.input.now) (g.R.Read.remaining c.prepare.new.input))

pub returns-in-Err : goal.returns-in-Err
returns-in-Err g c =
    run_stops (g.S.Store.files c.args.store.now) (g.S.Store.files c.args.store.now) _ _
    (g.W.Write.contents c.args.output.now) _ _ _ (options_view c.args.options.now) c.in-Err.failure
    c.in-Err.ensures.stops c.tell.ensures
