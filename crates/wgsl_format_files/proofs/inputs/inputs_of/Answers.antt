use Rattle.std.proofs.Common.{sym, subst, ℕ, ◌+◌, ◌<◌, List, drop, get_or, length, map}
use Rattle.std.proofs.lemmas.List.{at_drop_more}
use Rattle.wgsl_format_options.specs.Options as plain
use Rattle.wgsl_format_options.specs.declared.options.Source.{Source}
use Rattle.wgsl_format_options.specs.View.{source_view}
use Rattle.wgsl_files.specs.Files.{Files}
use Rattle.wgsl_format_files.specs.Inputs.{IsInputOf, FollowFor}
use Rattle.wgsl_format_files.proofs.inputs.inputs_of.Goals as goal

-- the inputs for one source, and then those for the sources after it
follow_more : (files : Files) (sources : List Source) (i : ℕ) (d : Source) (so_far more all : List plain.Source)
    → i < length sources
    → IsInputOf files (source_view (get_or sources i d)) so_far more
    → FollowFor files more (map source_view (drop (i + 1) sources)) all
    → FollowFor files so_far (map source_view (drop i sources)) all
follow_more files sources i d so_far more all within one rest =
    subst (λ ss. FollowFor files so_far ss all)
    (sym (at_drop_more (map source_view) sources i d within)) (more, one, rest)

pub loop-source-preserved : goal.loop-source-preserved
loop-source-preserved g c = λ all rest.
    c.loop-source.invariant all (follow_more _ c.args.sources.now c.loop-source.source-index _ _ _
    all c.loop-source-test.true (c.in_ok-push_source.ensures) rest)
