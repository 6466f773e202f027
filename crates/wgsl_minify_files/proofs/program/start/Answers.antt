use Rattle.clap.specs.Words.{kind_of}
use Rattle.wgsl_program.proofs.Starts.{run_start, told_start}
use Rattle.wgsl_minify_files.specs.Failures.{memory_text}
use Rattle.wgsl_minify_files.specs.Runs.{IsRun}
use Rattle.wgsl_minify_files.specs.View.{options_view}
use Rattle.wgsl_minify_files.proofs.program.start.Goals as goal

pub returns-in-Ok : goal.returns-in-Ok
returns-in-Ok g c =
    run_start IsRun memory_text _ _ _ _ (options_view c.in-Ok.options) c.in-Ok.ensures c.run.ensures

pub returns-in-Err : goal.returns-in-Err
returns-in-Err g c = told_start IsRun memory_text _ _ _ _ (kind_of c.in-Err.error) c.in-Err.ensures
    (c.tell.ensures (g.S.Store.files c.args.store.now) (g.R.Read.remaining c.args.input.now))
