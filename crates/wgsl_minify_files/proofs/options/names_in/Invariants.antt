use Rattle.std.proofs.Common.{◌≡◌, take}
use Rattle.std.specs.List.{flat_map, slice_split}
use Rattle.wgsl_minify_names.specs.View.{texts}
use Rattle.wgsl_minify_files.specs.Options.{is_comma}
use Rattle.wgsl_minify_files.proofs.options.names_in.Given as goal

-- the names in the lists so far
abbrev pub invariant-lists : goal.invariant-lists
invariant-lists l = texts l.names.items ≡ flat_map (slice_split is_comma) (texts (take l.list-index l.lists))
