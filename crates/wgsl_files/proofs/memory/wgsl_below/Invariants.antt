use Rattle.std.proofs.Common.{◌≡◌, ◌++◌, map, string_bytes}
use Rattle.std.specs.BTreeMap.{keys}
use Rattle.std.specs.List.{filter}
use Rattle.wgsl_files.specs.Folders.{is_wgsl_below}
use Rattle.wgsl_files.proofs.memory.wgsl_below.Given as goal

-- the paths so far, and those among the paths that are left
abbrev pub invariant-loop-path : goal.invariant-loop-path
invariant-loop-path l =
    map string_bytes l.paths.items ++ filter (is_wgsl_below l.folder) (map string_bytes l.path-iterator)
    ≡ filter (is_wgsl_below l.folder) (map string_bytes (keys l.files))
