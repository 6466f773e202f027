use Rattle.std.proofs.Common.{◌≡◌, ◌++◌, map, string_bytes, length}
use Rattle.std.specs.Vec.Iter.{into_iter_items, into_iter_len}
use Rattle.wgsl_format_options.specs.Options as plain
use Rattle.wgsl_format_files.specs.Inputs.{input_view}
use Rattle.wgsl_format_files.proofs.inputs.push_paths.Given as goal

-- what was added and what is left are all paths
abbrev pub invariant-loop-path : goal.invariant-loop-path
invariant-loop-path l = record {
  added : map input_view l.inputs.items ++ map plain.path (map string_bytes (into_iter_items l.path-iterator))
      ≡ map input_view l.initial.inputs.items
      ++ map plain.path (map string_bytes (into_iter_items l.initial.path-iterator));
  left : into_iter_len l.path-iterator ≡ length (into_iter_items l.path-iterator);
}
