use Rattle.std.proofs.Common.{◌≡◌, map, take}
use Rattle.clap.specs.Walk.{texts}
use Rattle.wgsl_format_options.specs.Options.{source_of}
use Rattle.wgsl_format_options.specs.View.{source_view}
use Rattle.wgsl_format_options.proofs.options.sources_of.Given as goal

-- what the paths so far name
abbrev pub invariant-loop-path : goal.invariant-loop-path
invariant-loop-path l = map source_view l.sources.items ≡ map source_of (texts (take l.path-index l.paths))
