use Rattle.clap.specs.Words.{kind_of}
use Rattle.wgsl_format_options.specs.View.{options_view}
use Rattle.wgsl_program.proofs.Starts.{told_start}
use Rattle.wgsl_format_files.specs.Start.{memory_text, IsFilesRun}
use Rattle.wgsl_format_files.proofs.Starts.{options_start}
use Rattle.wgsl_format_files.proofs.program.start.Goals as goal

pub returns-in-Ok : goal.returns-in-Ok
returns-in-Ok g c = options_start _ (options_view c.in-Ok.options) _ _ _ c.in-Ok.ensures c.format_sources.ensures

pub returns-in-Err : goal.returns-in-Err
returns-in-Err g c = told_start IsFilesRun memory_text _ _ _ _ (kind_of c.in-Err.error) c.in-Err.ensures
    (c.tell.ensures (g.S.Store.files c.args.store.now) (g.R.Read.remaining c.args.input.now))
