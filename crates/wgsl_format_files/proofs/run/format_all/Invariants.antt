use Rattle.std.proofs.Common.{◌≤◌, length, take, map}
use Rattle.std.specs.Option.{option_copied}
use Rattle.wgsl_format_files.specs.Configs.{BecomesBy}
use Rattle.wgsl_format_files.specs.Inputs.{input_view}
use Rattle.wgsl_format_files.specs.Runs.{state}
use Rattle.wgsl_format_files.specs.Tidy.{Refuses}
use Rattle.wgsl_format_files.proofs.Runs.{IsRunSoFar}
use Rattle.wgsl_format_files.proofs.run.format_all.Given as goal

abbrev pub invariant-loop-source : goal.invariant-loop-source
invariant-loop-source g l = record {
  so_far : IsRunSoFar (BecomesBy l.how.choices (option_copied l.how.stdin_path)) Refuses l.how.mode
      l.how.quiet l.how.stdin_name.now
      (map input_view (take l.source-index l.inputs)) l.source-index
      (state (g.S.Store.files l.initial.store) (g.R.Read.remaining l.initial.input))
      (state (g.S.Store.files l.store) (g.R.Read.remaining l.input))
      (g.W.Write.contents l.initial.output) (g.W.Write.contents l.output)
      (g.E.Write.contents l.initial.errors) (g.E.Write.contents l.errors) l.tally;
  within : l.source-index ≤ length l.inputs;
}
