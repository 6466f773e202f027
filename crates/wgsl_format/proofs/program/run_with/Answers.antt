use Rattle.wgsl_format.proofs.Runs.{run_holds}
use Rattle.wgsl_format.proofs.program.run_with.Goals as goal

pub returns : goal.returns
returns g c =
    run_holds _ _ _ _ _ _ _ _ _ _ _ c.report_of-report.result c.read_all.ensures.bytes c.read_all.ensures.end
    c.report_of-report.ensures.due c.report_of-report.ensures.made c.deliver.ensures.sent c.deliver.ensures.spared
