use Rattle.std.proofs.Common.{ℕ, List, sym, subst, map}
use Rattle.std.specs.Option.{option_copied}
use Rattle.wgsl_files.specs.Statuses.{code_of}
use Rattle.wgsl_format_files.specs.Configs.{BecomesBy}
use Rattle.wgsl_format_files.specs.Inputs.{input_view}
use Rattle.wgsl_format_files.specs.Runs.{state, Runs}
use Rattle.wgsl_format_files.specs.Tidy.{Refuses}
use Rattle.wgsl_format_options.specs.View.{options_view}
use Rattle.wgsl_format_files.specs.Start.{name_of}
use Rattle.wgsl_format_files.proofs.program.format_inputs.Goals as goal

pub returns : goal.returns
returns g c =
    let options = c.args.options.now in
    let next = c.format_all.new in
    let old = state (g.S.Store.files c.args.store.now) (g.R.Read.remaining c.args.input.now) in
    let new = state (g.S.Store.files next.store) (g.R.Read.remaining next.input) in
    let runs : List ℕ → ℕ → Type 0 =
    λ name status. Runs (BecomesBy options.choices (option_copied options.stdin_path)) Refuses
    options.mode options.quiet name (map input_view c.args.inputs.now) old new
    (g.W.Write.contents c.args.output.now) (g.W.Write.contents next.output)
    (g.E.Write.contents c.args.errors.now) (g.E.Write.contents next.errors) status in
    subst (runs (name_of (options_view options))) (sym c.code.ensures)
    (subst (λ name. runs name (code_of c.format_all.result)) c.name_of.ensures c.format_all.ensures.runs)
