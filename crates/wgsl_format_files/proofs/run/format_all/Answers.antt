use Rattle.std.proofs.Common.{rules, arith, ◌≡◌, subst, ◌+◌, length, take, map}
use Rattle.std.proofs.lemmas.List.{take_all}
use Rattle.wgsl_files.specs.Statuses.{code_of}
use Rattle.std.specs.Option.{option_copied}
use Rattle.wgsl_format_files.specs.Configs.{BecomesBy}
use Rattle.wgsl_format_files.specs.Inputs.{input_view}
use Rattle.wgsl_format_files.specs.Runs.{state, Runs, WroteMore, summary}
use Rattle.wgsl_format_files.specs.Tidy.{Refuses}
use Rattle.wgsl_format_files.proofs.Others.{only_named, none_written}
use Rattle.wgsl_format_files.proofs.Runs.{IsRunSoFar, run_more, run_ends, inputs_more}
use Rattle.wgsl_format_files.proofs.run.format_all.Goals as goal

pub loop-source-preserved : goal.loop-source-preserved
loop-source-preserved g c =
    let how = c.args.how in
    let becomes = BecomesBy how.choices (option_copied how.stdin_path) in
    let refuses = Refuses in
    let at = c.loop-source in
    let item = c.source-item.result in
    let event = c.event_of-event in
    let told = c.tell_more-whole in
    let after = c.after-tally in
    let old = state (g.S.Store.files c.args.store.now) (g.R.Read.remaining c.args.input.now) in
    let now = state (g.S.Store.files at.store) (g.R.Read.remaining at.input) in
    let next = state (g.S.Store.files event.new.store) (g.R.Read.remaining event.new.input) in
    let output = g.W.Write.contents c.args.output.now in
    let errors = g.E.Write.contents c.args.errors.now in
    let more = run_more becomes refuses how.mode how.quiet how.stdin_name.now
    (map input_view (take at.source-index c.args.inputs.now)) at.source-index
    old now output (g.W.Write.contents at.output) errors (g.E.Write.contents at.errors) at.tally at.invariant.so_far
    (input_view item) event.result c.name-name.result.now told.result next
    (g.W.Write.contents told.new.output) (g.E.Write.contents told.new.errors) after.result
    event.ensures c.name-name.ensures after.ensures.whole told.ensures.shown told.ensures.told
    after.ensures.changed after.ensures.failed after.ensures.status in
    record {
      so_far = subst (λ inputs. IsRunSoFar becomes refuses how.mode how.quiet how.stdin_name.now
          inputs (at.source-index + 1) old next output (g.W.Write.contents told.new.output) errors
          (g.E.Write.contents told.new.errors) after.result)
          (inputs_more c.args.inputs.now at.source-index item c.loop-source-test.true (search rules)) more;
      within = search rules;
    }

pub returns : goal.returns
returns g c =
    let how = c.args.how in
    let becomes = BecomesBy how.choices (option_copied how.stdin_path) in
    let refuses = Refuses in
    let at = c.loop-source in
    let end = c.finish in
    let old = state (g.S.Store.files c.args.store.now) (g.R.Read.remaining c.args.input.now) in
    let now = state (g.S.Store.files at.store) (g.R.Read.remaining at.input) in
    let output = g.W.Write.contents c.args.output.now in
    let errors = g.E.Write.contents c.args.errors.now in
    let whole : length c.args.inputs.now ≡ at.source-index =
    omega (arith, at.invariant.within, c.loop-source-test.false) in
    let written = subst (λ n. WroteMore at.tally.whole end.ensures.0
    (summary how.mode how.quiet n at.tally.changed at.tally.failed) (g.E.Write.contents at.errors)
    (g.E.Write.contents end.new.errors)) whole end.ensures.1 in
    let ran = run_ends becomes refuses how.mode how.quiet how.stdin_name.now
    (map input_view (take at.source-index c.args.inputs.now)) at.source-index
    old now output (g.W.Write.contents at.output) errors (g.E.Write.contents at.errors) at.tally at.invariant.so_far
    end.ensures.0 (g.E.Write.contents end.new.errors) (code_of end.result) written end.ensures.2 in
    let runs = subst (λ inputs. Runs becomes refuses how.mode how.quiet how.stdin_name.now
    (map input_view inputs) old now output (g.W.Write.contents at.output) errors
    (g.E.Write.contents end.new.errors) (code_of end.result))
    (take_all at.source-index c.args.inputs.now c.loop-source-test.false) ran in
    record {
      runs = runs;
      named = only_named becomes refuses how.mode how.stdin_name.now
          (map input_view c.args.inputs.now) old now runs.came runs.each;
      checked = λ other. none_written becomes refuses how.mode how.stdin_name.now
          (map input_view c.args.inputs.now) old now runs.came other runs.each;
    }
