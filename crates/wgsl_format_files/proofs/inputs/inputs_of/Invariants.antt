use Rattle.std.proofs.Common.{List, [], drop, map}
use Rattle.wgsl_format_options.specs.Options.{Source}
use Rattle.wgsl_format_options.specs.View.{source_view}
use Rattle.wgsl_format_files.specs.Inputs.{input_view, FollowFor}
use Rattle.wgsl_format_files.proofs.inputs.inputs_of.Given as goal

-- what follows for the sources that are left makes the inputs for all
abbrev pub invariant-loop-source : goal.invariant-loop-source
invariant-loop-source g l = (all : List Source) → FollowFor (g.S.Store.files l.store)
    (map input_view l.inputs.items) (map source_view (drop l.source-index l.sources)) all
    → FollowFor (g.S.Store.files l.store) [] (map source_view l.sources) all
