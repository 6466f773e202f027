use Rattle.std.proofs.Common.{inr, refl, subst, map}
use Rattle.std.specs.Option.{option_copied}
use Rattle.wgsl_format_options.specs.View.{options_view, source_view}
use Rattle.wgsl_format_files.specs.Configs.{BecomesBy}
use Rattle.wgsl_format_files.specs.Inputs.{input_view, AreInputsOf}
use Rattle.wgsl_format_files.specs.Runs.{state, Runs}
use Rattle.wgsl_format_files.specs.Start.{name_of}
use Rattle.wgsl_format_files.specs.Tidy.{Refuses}
use Rattle.wgsl_format_files.proofs.Starts.{files_run}
use Rattle.wgsl_format_files.proofs.program.format_sources.Goals as goal

pub returns-in-Ok : goal.returns-in-Ok
returns-in-Ok g c =
    let next = c.format_inputs.new in
    let inputs = c.in-Ok.inputs.items in
    let options = c.args.options.now in
    files_run (options_view options) (g.S.Store.files c.args.store.now) (g.S.Store.files next.store)
    (g.R.Read.remaining c.args.input.now) (g.R.Read.remaining next.input)
    (g.W.Write.contents c.args.output.now) (g.W.Write.contents next.output)
    (g.E.Write.contents c.args.errors.now) (g.E.Write.contents next.errors) c.format_inputs.result
    (map input_view inputs)
    (subst (λ sources. AreInputsOf (g.S.Store.files c.args.store.now) (map source_view sources)
    (map input_view inputs)) c.as_slice.ensures.value (c.in-Ok.ensures))
    (subst (λ is. Runs (BecomesBy options.choices (option_copied options.stdin_path)) Refuses
    options.mode options.quiet (name_of (options_view options)) (map input_view is)
    (state (g.S.Store.files c.args.store.now) (g.R.Read.remaining c.args.input.now))
    (state (g.S.Store.files next.store) (g.R.Read.remaining next.input))
    (g.W.Write.contents c.args.output.now) (g.W.Write.contents next.output)
    (g.E.Write.contents c.args.errors.now) (g.E.Write.contents next.errors) c.format_inputs.result)
    c.as_slice-in-Ok.ensures.value c.format_inputs.ensures)

pub returns-in-Err : goal.returns-in-Err
returns-in-Err g c = inr (record { says = c.refuse_memory.ensures; output = refl; files = refl; left = refl })
